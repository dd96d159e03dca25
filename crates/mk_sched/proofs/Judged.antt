-- What a message is judged to be, and what right messages and their data are like.
use Rattle.std.proofs.Common.{◌≡◌, ℕ, ◌+◌, ◌≤◌, ◌<◌, ◌^◌, ℤ, pos, negsuc, ◌≤ℤ◌, Bool, true, false, not, ◌&&◌, ◌||◌, List, [], ◌∷◌, filter, Option, Some, None, option_map, option_and_then, unwrap_or, refl, sym, ap, ◌∙◌, subst, arith, true≢false, int_lt, int_le, nat_le, if◌then◌else◌, ◌==◌, FitsSigned, w64, inl, inr}
use Rattle.std.specs.Option.{ForSome}
use Rattle.std.specs.List.{list_any}
use Rattle.std.proofs.lemmas.Int.{ints}
use Rattle.mk_base.specs.declared.SimNo.{SimNo}
use Rattle.mk_base.specs.declared.tier.Tier.{Tier}
use Rattle.mk_base.specs.declared.json.Json.{Json}
use Rattle.mk_base.specs.Lists.{IsIn}
use Rattle.mk_base.specs.Tiers.{moment, latest_time}
use Rattle.mk_base.specs.Trees.{whole_in, is_in_range, is_object, is_whole, nesting, value_depth}
use Rattle.mk_base.proofs.Lists.{none_some, passes_some}
use Rattle.mk_plan.specs.declared.Plan.{Plan}
use Rattle.mk_plan.specs.declared.Want.{Want}
use Rattle.mk_plan.specs.declared.Message.{Message}
use Rattle.mk_plan.specs.declared.Message.TheVariants.{Ask, Success, Failure}
use Rattle.mk_plan.specs.declared.Place.{Place}
use Rattle.mk_plan.specs.declared.Place.TheVariants.{Idle, Stepping, Fetching}
use Rattle.mk_plan.specs.declared.Cause.{Cause}
use Rattle.mk_plan.specs.declared.Cause.TheVariants.{Wrong, Failed}
use Rattle.mk_plan.specs.declared.Entry.TheVariants.{Got}
use Rattle.mk_plan.specs.Plans.{has_outputs, owner, kind_of}
use Rattle.mk_plan.specs.Acts.{content_of}
use Rattle.mk_plan.specs.Turns.{unasked, first_cause, is_number, time_in, holds_of, part_for, value_for, wrong, wrong_data, next_place, wanted, is_output_time}
use Rattle.mk_plan.specs.Journals.{View, OpenTurn, place_at, note, note_got, note_right, fault_of}
use Rattle.mk_plan_judge.specs.Places.{open_id}
use Rattle.mk_plan_judge.proofs.Right.{right_data_reply, right_step_reply, right_next_fits}
use Rattle.mk_plan.specs.Deliveries.{triggering_from}
use Rattle.mk_sched_agenda.specs.Endings.{CanBeMade}
use Rattle.mk_sched_open.specs.Turns.{IsRight, IsInRun, IsPlaceInRun, next_in}
use Rattle.mk_sched.specs.inner.Derived.{IsJudged, EndsFetch, made_at}
use Rattle.mk_base.specs.Limits.{latest_end}
use Rattle.mk_base.proofs.Bools.{second_holds}
use Rattle.mk_plan.specs.Messages.{is_message_in_range}

module _ (P : Plan) (V : View) (s : SimNo) (m : Message) where
  pub judge : (place : Place) → place ≡ place_at (V.open_at s.0) → IsPlaceInRun place → wrong P s.0 place m ≡ None → (q : Option Place) → next_place P s.0 place m ≡ q → IsJudged P V s.0 m place q
  judge place is run right q goes = go (V.open_at s.0) refl
    where
      go : (o : Option OpenTurn) → V.open_at s.0 ≡ o → IsJudged P V s.0 m place q
      go None e = absurd (none_some (sym right ∙ ap (λ (p : Place). wrong P s.0 p m) (is ∙ ap place_at e)))
      go (Some T) e =
          let same : place ≡ T.place = is ∙ ap place_at e in
          record {
            turn = T;
            right = record { opened = e; right = subst (λ (p : Place). wrong P s.0 p m ≡ None) same right; goes = subst (λ (p : Place). next_place P s.0 p m ≡ q) same goes };
            same = sym same;
            run = run;
          }

  pub noted_wrong : (place : Place) (c : Cause) → place ≡ place_at (V.open_at s.0) → wrong P s.0 place m ≡ Some c → note P V (Got s m) ≡ record { acts = V.acts; open_at = V.open_at; owed = V.owed; fault = Some (fault_of V s.0 c) }
  noted_wrong place c is w = ap (note_got P V s.0 m (V.open_at s.0)) (ap (λ (p : Place). wrong P s.0 p m) (sym is) ∙ w)

  pub noted_right : (T : OpenTurn) (q : Option Place) → IsRight P V s.0 m T q → note P V (Got s m) ≡ note_right P V s.0 m T q
  noted_right T q h =
      ap (λ (o : Option OpenTurn). note_got P V s.0 m o (wrong P s.0 (place_at o) m)) h.opened
      ∙ ap (note_got P V s.0 m (Some T)) h.right
      ∙ ap (note_right P V s.0 m T) h.goes

-- ---- which message goes on with a turn, and which ends it

pub is_open : (P : Plan) (i : ℕ) (p : Place) (m : Message) → wrong P i p m ≡ None → p ≡ Idle → ⊥
is_open P i p m right e = none_some (sym right ∙ ap (λ (q : Place). wrong P i q m) e)

failed : (b : Bool) → (if b then Some Failed else Some (Wrong unasked)) ≡ None → ⊥
failed true e = none_some (sym e)
failed false e = none_some (sym e)

pub never_failed : (P : Plan) (i : ℕ) (p : Place) (n : ℕ) (text : List ℕ) → wrong P i p (Failure n text) ≡ None → ⊥
never_failed P i Idle n text e = none_some (sym e)
never_failed P i (Stepping at id asks) n text e = failed (n == id) e
never_failed P i (Fetching at id) n text e = failed (n == id) e

-- a right message that ends a turn is a success reply; where it is the reply to the Step, no
-- connection leaves the simulator
pub record IsEnd (P : Plan) (i : ℕ) (m : Message) : Type 0 where
  pub answered : ℕ
  pub content : Json
  pub message : m ≡ Success answered content

pub step_end : (P : Plan) (i : ℕ) (x : Tier) (id asks : ℕ) (m : Message) → wrong P i (Stepping x id asks) m ≡ None → next_place P i (Stepping x id asks) m ≡ None → IsEnd P i m × (has_outputs P i ≡ false)
step_end P i x id asks (Ask n name args named) right over = absurd (none_some (sym over))
step_end P i x id asks (Success n content) right over = (record { answered = n; content = content; message = refl }, go (has_outputs P i) over)
  where
    go : (b : Bool) → (if b then Some (Fetching x (id + 1)) else None) ≡ None → b ≡ false
    go true e = absurd (none_some (sym e))
    go false e = refl
step_end P i x id asks (Failure n text) right over = absurd (failed (n == id) right)

pub fetch_end : (P : Plan) (i : ℕ) (x : Tier) (id : ℕ) (m : Message) → wrong P i (Fetching x id) m ≡ None → IsEnd P i m
fetch_end P i x id (Ask n name args named) right = absurd (none_some (sym right))
fetch_end P i x id (Success n content) right = record { answered = n; content = content; message = refl }
fetch_end P i x id (Failure n text) right = absurd (failed (n == id) right)

-- where the message that ends a turn is no success reply, it isn't right
pub no_step_end : (P : Plan) (V : View) (s : ℕ) (m : Message) (place : Place) → IsJudged P V s m place None → (x : Tier) (id asks : ℕ) → place ≡ Stepping x id asks → ((n : ℕ) (content : Json) → m ≡ Success n content → ⊥) → ⊥
no_step_end P V s m place judged x id asks is never =
    let there : judged.turn.place ≡ Stepping x id asks = judged.same ∙ is in
    let end = (step_end P s x id asks m (subst (λ (p : Place). wrong P s p m ≡ None) there judged.right.right) (subst (λ (p : Place). next_place P s p m ≡ None) there judged.right.goes)).0 in
    never end.answered end.content end.message

pub no_fetch_end : (P : Plan) (V : View) (s : ℕ) (m : Message) (place : Place) → IsJudged P V s m place None → (x : Tier) (id : ℕ) → place ≡ Fetching x id → ((n : ℕ) (content : Json) → m ≡ Success n content → ⊥) → ⊥
no_fetch_end P V s m place judged x id is never =
    let there : judged.turn.place ≡ Fetching x id = judged.same ∙ is in
    let end = fetch_end P s x id m (subst (λ (p : Place). wrong P s p m ≡ None) there judged.right.right) in
    never end.answered end.content end.message

-- a turn goes on in the Step alone
pub record GoesOn (p : Place) : Type 0 where
  pub at : Tier
  pub id : ℕ
  pub asks : ℕ
  pub place : p ≡ Stepping at id asks

pub goes_on : (P : Plan) (i : ℕ) (p : Place) (m : Message) (q : Place) → next_place P i p m ≡ Some q → GoesOn p
goes_on P i Idle m q e = absurd (none_some e)
goes_on P i (Stepping at id asks) m q e = record { at = at; id = id; asks = asks; place = refl }
goes_on P i (Fetching at id) m q e = absurd (none_some e)

-- ---- ids

pub id_low : (p : Place) → IsPlaceInRun p → open_id p + 1 < 2 ^ 64
id_low Idle run = omega arith
id_low (Stepping at id asks) run = omega (arith, run.1)
id_low (Fetching at id) run = omega (arith, run.1)

-- ---- next times

pub fits_run : (x : Tier) → IsInRun x → FitsSigned w64 x.time
fits_run x run = let a : pos 0 ≤ℤ x.time = run.early in let b : x.time ≤ℤ latest_end = run.late in grind (arith, ints)

pub next_fits : (P : Plan) (i : ℕ) (x : Tier) (id asks : ℕ) (m : Message) → IsInRun x → wrong P i (Stepping x id asks) m ≡ None → ForSome (next_in m) (λ n. FitsSigned w64 n)
next_fits P i x id asks (Ask n name args named) run right = λ k e. absurd (none_some e)
next_fits P i x id asks (Success n content) run right = right_next_fits (kind_of P i) x content (fits_run x run) (right_step_reply P i x id asks n content right).1
next_fits P i x id asks (Failure n text) run right = λ k e. absurd (none_some e)

-- ---- output times

-- the data of a right reply are right, and in range where the message is
pub fetched_right : (P : Plan) (V : View) (s : ℕ) (m : Message) (x : Tier) (content : Json) → EndsFetch P V s m x → content_of m ≡ Some content → wrong_data (wanted P s) x content ≡ None
fetched_right P V s m x content ends is = go m (subst (λ (p : Place). wrong P s p m ≡ None) ends.judged.same ends.judged.right.right) is
  where
    go : (m : Message) → wrong P s (Fetching x ends.id) m ≡ None → content_of m ≡ Some content → wrong_data (wanted P s) x content ≡ None
    go (Ask n name args named) right is = absurd (none_some is)
    go (Success n other) right is = let same : other ≡ content = cc in subst (λ (c : Json). wrong_data (wanted P s) x c ≡ None) same (right_data_reply P s x ends.id n other right).1
    go (Failure n text) right is = absurd (none_some is)

pub content_in_range : (m : Message) (content : Json) → is_message_in_range m ≡ true → content_of m ≡ Some content → is_in_range content ≡ true
content_in_range (Ask n name args named) content form is = absurd (none_some is)
content_in_range (Success n other) content form is = let same : other ≡ content = cc in subst (λ (c : Json). is_in_range c ≡ true) same form
content_in_range (Failure n text) content form is = absurd (none_some is)

first_of_five : (a b c d e : Bool) (i j k l m : ℕ) → first_cause ((a, i) ∷ (b, j) ∷ (c, k) ∷ (d, l) ∷ (e, m) ∷ []) ≡ None → a ≡ false
first_of_five true b c d e i j k l m h = absurd (none_some (sym h))
first_of_five false b c d e i j k l m h = refl

second_false : (a b : Bool) → (a || b) ≡ false → b ≡ false
second_false true b e = absurd (true≢false e)
second_false false b e = e

latest_output : (wants : List Want) (x : Tier) (content : Json) (n : ℤ) → wrong_data wants x content ≡ None → option_and_then whole_in (time_in content) ≡ Some n → n ≤ℤ latest_time
latest_output wants x content n right is = at (time_in content) (second_false (not (is_object content)) (holds_of (λ t. not (is_number is_output_time t)) (time_in content))
    (first_of_five (not (is_object content) || holds_of (λ t. not (is_number is_output_time t)) (time_in content)) (holds_of (is_number (λ n. int_lt n x.time)) (time_in content))
    (list_any (λ w. holds_of (λ t. not (is_object t)) (part_for content w)) wants) (list_any (λ w. holds_of (λ t. not (is_whole t)) (value_for content w)) wants) (list_any (λ w. holds_of (λ t. not (nat_le (nesting t) value_depth)) (value_for content w)) wants) 5 6 5 7 5 right)) is
  where
    second : (a b : Bool) → not (a && b) ≡ false → b ≡ true
    second true true e = refl
    second true false e = absurd (true≢false e)
    second false b e = absurd (true≢false e)

    late : (t : Json) → not (unwrap_or (option_map is_output_time (whole_in t)) false) ≡ false → whole_in t ≡ Some n → n ≤ℤ latest_time
    late t h e =
        let w : int_le n latest_time ≡ true = second (int_le (negsuc 9223372036854775807) n) (int_le n latest_time) (sym (ap (λ (o : Option ℤ). not (unwrap_or (option_map is_output_time o) false)) e) ∙ h) in
        grind (arith, ints)

    at : (t : Option Json) → holds_of (λ t. not (is_number is_output_time t)) t ≡ false → option_and_then whole_in t ≡ Some n → n ≤ℤ latest_time
    at None h e = absurd (none_some e)
    at (Some t) h e = late t h e

pub run_made : (x : Tier) → IsInRun x → CanBeMade x
run_made x run = record { early = run.early; late = let l : x.time ≤ℤ latest_end = run.late in grind (arith, ints); low = let l : x.tier ≤ 1000 = run.low in omega arith }

-- the outputs of a right reply can be made
pub makeable : (wants : List Want) (x : Tier) (content : Json) → IsInRun x → wrong_data wants x content ≡ None → CanBeMade (made_at x content)
makeable wants x content run right = at (option_and_then whole_in (time_in content)) refl
  where
    at : (o : Option ℤ) → option_and_then whole_in (time_in content) ≡ o → CanBeMade (unwrap_or (option_map (λ (o : ℤ). if int_lt x.time o then moment o else x) o) x)
    at None e = run_made x run
    at (Some n) e = go (int_lt x.time n) refl
      where
        go : (b : Bool) → int_lt x.time n ≡ b → CanBeMade (if b then moment n else x)
        go false less = run_made x run
        go true less = record { early = let z : pos 0 ≤ℤ x.time = run.early in grind (arith, ints); late = latest_output wants x content n right e; low = omega arith }

-- ---- no connection leaves a simulator without outputs

no_member : {X : Type 0} (p : X → Bool) (xs : List X) → ((x : X) → IsIn x xs → p x ≡ true → ⊥) → filter p xs ≡ []
no_member p [] none = refl
no_member p (x ∷ xs) none = elim (p x) as (λ b. p x ≡ b → (if b then x ∷ filter p xs else filter p xs) ≡ []) [ true ↦ λ e. absurd (none x (inl refl) e) | false ↦ λ e. no_member p xs (λ y m. none y (inr m)) ] refl

pub none_leaves : (P : Plan) (i : ℕ) → has_outputs P i ≡ false → triggering_from P i ≡ []
none_leaves P i none = no_member (λ c. c.triggering && (owner P c.from == i)) P.conns (λ c m e. true≢false (sym (passes_some (λ c. owner P c.from == i) c P.conns m (second_holds c.triggering (owner P c.from == i) e)) ∙ none))
