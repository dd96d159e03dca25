-- The frame of a Step is none of a handshake, nor that of a stop.
use Rattle.std.proofs.Common.{◌≡◌, ℕ, zero, suc, ◌+◌, ◌/◌, ◌%◌, ◌≤◌, ◌==◌, nat_lt, ℤ, Bool, true, false, List, [], ◌∷◌, ◌++◌, length, take, drop, get_or, codes, decimal, refl, sym, ap, ◌∙◌, arith, append_assoc, if◌then◌else◌}
use Rattle.std.proofs.lemmas.List.{append_cancel_left}
use Rattle.std.specs.Fmt.{digit_glyph, digits, digits_onto, signed_decimal}
use Rattle.byteorder.specs.Endian.{big_bytes}
use Rattle.mk_base.specs.declared.tier.Tier.{Tier}
use Rattle.mk_base.specs.Lists.{Each}
use Rattle.mk_base.specs.Texts.{list_text, quoted, text_of}
use Rattle.mk_plan.specs.declared.Call.{Call}
use Rattle.mk_plan.specs.declared.Call.TheVariants.{Init, Create, SetupDone, Stop}
use Rattle.mk_plan.specs.declared.Input.{Input}
use Rattle.mk_plan.specs.declared.Item.TheVariants.{Step}
use Rattle.mk_plan.specs.Report.{inputs_text}
use Rattle.mk_message.specs.Written.{call_text, init_params, item_text, request_text}
use Rattle.mk_frame.specs.Frames.{frame_of, frames_of}

-- ---- digits are no comma

abbrev IsDigit : ℕ → Type 0
IsDigit b = 48 ≤ b

glyph-high : (d : ℕ) → IsDigit (digit_glyph false d)
glyph-high d = elim (nat_lt d 10) as (λ (b : Bool). IsDigit (if b then 48 + d else 87 + d)) [ true ↦ omega arith | false ↦ omega arith ]

digits_onto-high : (k n : ℕ) (acc : List ℕ) → Each IsDigit acc → Each IsDigit (digits_onto k 10 false n acc)
digits_onto-high zero n acc high = high
digits_onto-high (suc k) n acc high =
    elim (n / 10 == 0) as (λ (b : Bool). Each IsDigit (if b then digit_glyph false (n % 10) ∷ acc else digits_onto k 10 false (n / 10) (digit_glyph false (n % 10) ∷ acc))) [
      | true ↦ (glyph-high (n % 10), high)
      | false ↦ digits_onto-high k (n / 10) (digit_glyph false (n % 10) ∷ acc) (glyph-high (n % 10), high)
    ]

decimal-high : (n : ℕ) → Each IsDigit (decimal n)
unfolding digits
decimal-high n = digits_onto-high 64 n [] tt

-- what follows digits and a comma
behind_comma : (ds es xs ys : List ℕ) → Each IsDigit ds → Each IsDigit es → ds ++ 44 ∷ xs ≡ es ++ 44 ∷ ys → xs ≡ ys
behind_comma [] [] xs ys high also same = ap (λ (t : List ℕ). drop 1 t) same
behind_comma [] (e ∷ es) xs ys high also same = let wrong : 44 ≡ e = ap (λ (t : List ℕ). get_or t 0 0) same in absurd (omega (arith, also.0, wrong))
behind_comma (d ∷ ds) [] xs ys high also same = let wrong : d ≡ 44 = ap (λ (t : List ℕ). get_or t 0 0) same in absurd (omega (arith, high.0, wrong))
behind_comma (d ∷ ds) (e ∷ es) xs ys high also same = behind_comma ds es xs ys high.1 also.1 (ap (λ (t : List ℕ). drop 1 t) same)

-- ---- what stands in a request behind its id

abbrev named : List ℕ → List (List ℕ) → List ℕ → List ℕ
named name args keywords = list_text (quoted name ∷ list_text args ∷ keywords ∷ [])

request_shape : (id : ℕ) (name : List ℕ) (args : List (List ℕ)) (keywords more : List ℕ) → request_text id name args keywords ++ more ≡ 91 ∷ 48 ∷ 44 ∷ (decimal id ++ 44 ∷ (named name args keywords ++ 93 ∷ more))
request_shape id name args keywords more =
    ap (λ (t : List ℕ). 91 ∷ 48 ∷ 44 ∷ t) (append_assoc (decimal id ++ 44 ∷ named name args keywords) (93 ∷ []) more ∙ append_assoc (decimal id) (44 ∷ named name args keywords) (93 ∷ more))

same_named : (i j : ℕ) (a b : List ℕ) (xs ys : List (List ℕ)) (k l more rest : List ℕ) → request_text i a xs k ++ more ≡ request_text j b ys l ++ rest → named a xs k ++ 93 ∷ more ≡ named b ys l ++ 93 ∷ rest
same_named i j a b xs ys k l more rest same =
    behind_comma (decimal i) (decimal j) (named a xs k ++ 93 ∷ more) (named b ys l ++ 93 ∷ rest) (decimal-high i) (decimal-high j)
    (ap (λ (t : List ℕ). drop 3 t) (sym (request_shape i a xs k more) ∙ same ∙ request_shape j b ys l rest))

-- the third byte, or the fourth, or the fifth, tells a Step from a call
module _ (id j : ℕ) (at : Tier) (inputs : List Input) (advance : ℤ) (more rest : List ℕ) where
  abbrev step_args : List (List ℕ)
  step_args = signed_decimal at.time ∷ inputs_text inputs ∷ signed_decimal advance ∷ []

  step_not_call : (call : Call) → item_text id (Step at inputs advance) ++ more ≡ call_text j call ++ rest → ⊥
  step_not_call (Init sim params) same =
      let wrong : 115 ≡ 105 = ap (λ (t : List ℕ). get_or t 2 0) (same_named id j (codes "step") (codes "init") step_args (quoted sim ∷ []) (codes "{}") (init_params params) more rest same) in
      omega (arith, wrong)
  step_not_call (Create num model params) same =
      let wrong : 115 ≡ 99 = ap (λ (t : List ℕ). get_or t 2 0) (same_named id j (codes "step") (codes "create") step_args (decimal num ∷ quoted model ∷ []) (codes "{}") (text_of params) more rest same) in
      omega (arith, wrong)
  step_not_call SetupDone same =
      let wrong : 116 ≡ 101 = ap (λ (t : List ℕ). get_or t 3 0) (same_named id j (codes "step") (codes "setup_done") step_args [] (codes "{}") (codes "{}") more rest same) in
      omega (arith, wrong)
  step_not_call Stop same =
      let wrong : 101 ≡ 111 = ap (λ (t : List ℕ). get_or t 4 0) (same_named id j (codes "step") (codes "stop") step_args [] (codes "{}") (codes "{}") more rest same) in
      omega (arith, wrong)

-- a stop begins with no other call, and with itself only whole
stop_is_last : (j id : ℕ) (call : Call) (more : List ℕ) → call_text j call ++ more ≡ call_text id Stop ++ [] → more ≡ []
stop_is_last j id (Init sim params) more same =
    let wrong : 105 ≡ 115 = ap (λ (t : List ℕ). get_or t 2 0) (same_named j id (codes "init") (codes "stop") (quoted sim ∷ []) [] (init_params params) (codes "{}") more [] same) in
    absurd (omega (arith, wrong))
stop_is_last j id (Create num model params) more same =
    let wrong : 99 ≡ 115 = ap (λ (t : List ℕ). get_or t 2 0) (same_named j id (codes "create") (codes "stop") (decimal num ∷ quoted model ∷ []) [] (text_of params) (codes "{}") more [] same) in
    absurd (omega (arith, wrong))
stop_is_last j id SetupDone more same =
    let wrong : 101 ≡ 116 = ap (λ (t : List ℕ). get_or t 3 0) (same_named j id (codes "setup_done") (codes "stop") [] [] (codes "{}") (codes "{}") more [] same) in
    absurd (omega (arith, wrong))
stop_is_last j id Stop more same =
    ap (λ (t : List ℕ). drop 1 t)
    (append_cancel_left (named (codes "stop") [] (codes "{}")) (93 ∷ more) (93 ∷ []) (same_named j id (codes "stop") (codes "stop") [] [] (codes "{}") (codes "{}") more [] same))

-- ---- frames

same_payloads : (p q more rest : List ℕ) → frame_of p ++ more ≡ frame_of q ++ rest → p ++ more ≡ q ++ rest
same_payloads p q more rest same =
    ap (λ (t : List ℕ). drop 4 t) (sym (append_assoc (big_bytes 4 (length p)) p more) ∙ same ∙ append_assoc (big_bytes 4 (length q)) q rest)

-- frames joined are no empty list
pub frames_there : (front : List (List ℕ)) (p more : List ℕ) → frames_of (front ++ p ∷ []) ++ more ≡ [] → ⊥
frames_there [] p more none = let wrong : 0 ≡ suc _ = ap length (sym none) in omega (arith, wrong)
frames_there (q ∷ front) p more none = let wrong : 0 ≡ suc _ = ap length (sym none) in omega (arith, wrong)

-- it is that of a call
abbrev pub IsCallText : List ℕ → Type 0
IsCallText p = (id : ℕ) × (call : Call) × (p ≡ call_text id call)

module _ (id : ℕ) (at : Tier) (inputs : List Input) (advance : ℤ) where
  abbrev step : List ℕ
  step = item_text id (Step at inputs advance)

  step_is_not_first : (p more : List ℕ) (behind : List (List ℕ)) → IsCallText p → frames_of (step ∷ []) ++ more ≡ frames_of (p ∷ behind) → ⊥
  step_is_not_first p more behind (j, call, is) same =
      let texts = same_payloads step p more (frames_of behind) (sym (append_assoc (frame_of step) [] more) ∙ same) in
      step_not_call id j at inputs advance more (frames_of behind) call (texts ∙ ap (λ (t : List ℕ). t ++ frames_of behind) is)

  stop_is_not_first : (p more : List ℕ) (front : List (List ℕ)) (stop : ℕ) → IsCallText p → frames_of (p ∷ front ++ step ∷ []) ++ more ≡ frames_of (call_text stop Stop ∷ []) → ⊥
  stop_is_not_first p more front stop (j, call, is) same =
      let behind = frames_of (front ++ step ∷ []) ++ more in
      let texts = same_payloads p (call_text stop Stop) behind [] (sym (append_assoc (frame_of p) (frames_of (front ++ step ∷ [])) more) ∙ same) in
      frames_there front step more (stop_is_last j stop call behind (ap (λ (t : List ℕ). t ++ behind) (sym is) ∙ texts))

  -- the frames of some first calls and of a Step don't begin those of some first calls and of a stop
  pub step_unsaid : (ps : List (List ℕ)) → Each IsCallText ps → (n m stop : ℕ) (more : List ℕ) → frames_of (take n ps ++ step ∷ []) ++ more ≡ frames_of (take m ps ++ call_text stop Stop ∷ []) → ⊥
  step_unsaid [] calls zero zero stop more same = step_is_not_first (call_text stop Stop) more [] (stop, Stop, refl) same
  step_unsaid [] calls zero (suc m) stop more same = step_is_not_first (call_text stop Stop) more [] (stop, Stop, refl) same
  step_unsaid [] calls (suc n) zero stop more same = step_is_not_first (call_text stop Stop) more [] (stop, Stop, refl) same
  step_unsaid [] calls (suc n) (suc m) stop more same = step_is_not_first (call_text stop Stop) more [] (stop, Stop, refl) same
  step_unsaid (p ∷ ps) calls zero zero stop more same = step_is_not_first (call_text stop Stop) more [] (stop, Stop, refl) same
  step_unsaid (p ∷ ps) calls zero (suc m) stop more same = step_is_not_first p more (take m ps ++ call_text stop Stop ∷ []) calls.0 same
  step_unsaid (p ∷ ps) calls (suc n) zero stop more same = stop_is_not_first p more (take n ps) stop calls.0 same
  step_unsaid (p ∷ ps) calls (suc n) (suc m) stop more same =
      let behind = frames_of (take n ps ++ step ∷ []) in
      step_unsaid ps calls.1 n m stop more
      (append_cancel_left (frame_of p) (behind ++ more) (frames_of (take m ps ++ call_text stop Stop ∷ [])) (sym (append_assoc (frame_of p) behind more) ∙ same))
