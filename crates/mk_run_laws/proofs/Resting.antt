-- What a run's journal was at a rest, and what stands there.
use Rattle.std.proofs.Common.{◌≡◌, ℕ, zero, suc, ◌≤◌, ◌==◌, Bool, true, false, List, [], ◌∷◌, ◌++◌, length, drop, Option, Some, None, option_map, refl, sym, ap, ◌∙◌, subst, ◌⊎◌, inl, inr, arith, if◌then◌else◌}
use Rattle.std.specs.List.{cons_option}
use Rattle.std.proofs.lemmas.Bool.{eqb-true, eq-eqb}
use Rattle.std.proofs.Math.Seq.{drop-append_seam}
use Rattle.mk_base.specs.declared.LinkNo.{LinkNo}
use Rattle.mk_base.specs.declared.SimNo.{SimNo}
use Rattle.mk_base.proofs.Lists.{append_nil, none_some, some_same}
use Rattle.mk_plan.specs.declared.Plan.{Plan}
use Rattle.mk_plan.specs.declared.Item.{Item}
use Rattle.mk_plan.specs.declared.Message.{Message}
use Rattle.mk_plan.specs.declared.Entry.{Entry}
use Rattle.mk_plan.specs.declared.Entry.TheVariants.{Sent, Got}
use Rattle.mk_plan.specs.Journals.{view, sent, got}
use Rattle.mk_plan.specs.Ready.{IsReady}
use Rattle.mk_plan.specs.Sequential.{Messages}
use Rattle.mk_frame.specs.Frames.{frames_of}
use Rattle.mk_scenario.specs.declared.parts.Scenario.{Scenario}
use Rattle.mk_outside.specs.declared.fleet.LogEntry.{LogEntry}
use Rattle.mk_outside.specs.declared.fleet.LogEntry.TheVariants.{NotHeard, NotSaid}
use Rattle.mk_outside.specs.Logs.{heard_on, said_on, last_read, last_write}
use Rattle.mk_run_laws.specs.Hearing.{messages_heard}
use Rattle.mk_run_laws.specs.Handshake.{setup_count, sim_link}
use Rattle.mk_run_laws.specs.Channels.{Channel, IsChannelAt}
use Rattle.mk_run_laws.specs.Rests.{with_number, within, run_messages, heard_counts, at_rest, all_frames, SaysAll, IsWellAtRest, RestsWell}
use Rattle.mk_run_laws.specs.Running.{IsInStep, IsRestOf, BeginsOnLink, RestsEnd}
use Rattle.mk_run_laws.proofs.Taking.{taken_heard, none_heard, none_first, unfinished_none}
use Rattle.mk_base.proofs.Counts.{same_or_not}

-- ---- the longest beginning

-- with a message in front there is one more of its simulator
count_head : (s : SimNo) (m : Message) (A : List Entry) (i : ℕ) → length (got (Got s m ∷ A) i) ≡ (if s.0 == i then suc (length (got A i)) else length (got A i))
count_head s m A i = elim (s.0 == i) as (λ b. length (cons_option (if b then Some m else None) (got A i)) ≡ (if b then suc (length (got A i)) else length (got A i))) [ true ↦ refl | false ↦ refl ]

count_here : (s : SimNo) (m : Message) (A : List Entry) → length (got (Got s m ∷ A) s.0) ≡ suc (length (got A s.0))
count_here s m A = count_head s m A s.0 ∙ ap (λ (b : Bool). if b then suc (length (got A s.0)) else length (got A s.0)) (eq-eqb s.0 s.0 refl)

count_away : (s : SimNo) (m : Message) (A : List Entry) (i : ℕ) → (s.0 ≡ i → ⊥) → length (got (Got s m ∷ A) i) ≡ length (got A i)
count_away s m A i n = count_head s m A i ∙ ap (λ (b : Bool). if b then suc (length (got A i)) else length (got A i)) (differ s.0 i n)
  where
    differ : (a b : ℕ) → (a ≡ b → ⊥) → (a == b) ≡ false
    differ a b n = elim (a == b) as (λ c. (a == b) ≡ c → c ≡ false) [ true ↦ λ e. absurd (n (eqb-true a b e)) | false ↦ λ e. refl ] refl

-- the messages of these entries are no more than are left
abbrev Bounded : (ℕ → Option ℕ) → List Entry → Type 0
Bounded left A = (i n : ℕ) → left i ≡ Some n → length (got A i) ≤ n

-- what follows is nothing, or begins with a message of a simulator that has none left
abbrev Over : (ℕ → Option ℕ) → List Entry → List Entry → Type 0
Over left A K = (K ≡ []) ⊎ ((s : SimNo) × (m : Message) × (later : List Entry) × (K ≡ Got s m ∷ later) × (left s.0 ≡ Some (length (got A s.0))))

pub number_here : (s : ℕ) (n : Option ℕ) (left : ℕ → Option ℕ) → with_number s n left s ≡ n
number_here s n left = ap (λ (b : Bool). if b then n else left s) (eq-eqb s s refl)

pub number_away : (s : ℕ) (n : Option ℕ) (left : ℕ → Option ℕ) (i : ℕ) → (i ≡ s → ⊥) → with_number s n left i ≡ left i
number_away s n left i differs = elim (same_or_not i s) [ inl e ↦ absurd (differs e) | inr apart ↦ ap (λ (b : Bool). if b then n else left i) (differ i s apart) ]
  where
    differ : (a b : ℕ) → (a ≡ b → ⊥) → (a == b) ≡ false
    differ a b n = elim (a == b) as (λ c. (a == b) ≡ c → c ≡ false) [ true ↦ λ e. absurd (n (eqb-true a b e)) | false ↦ λ e. refl ] refl

abbrev after_got : (ℕ → Option ℕ) → SimNo → Message → List Entry → Option ℕ → List Entry
after_got left s m J o = elim o [
  | None ↦ Got s m ∷ within left J
  | Some n ↦ elim n [ zero ↦ [] | suc k ↦ Got s m ∷ within (with_number s.0 (Some k) left) J ]
]

-- all that is within these numbers, up to the first message beyond them
pub within_is : (left : ℕ → Option ℕ) (A K : List Entry) → Bounded left A → Over left A K → within left (A ++ K) ≡ A
within_is left [] K fits (inl none) = ap (within left) none
within_is left [] K fits (inr (s, m, later, is, spent)) = ap (within left) is ∙ ap (after_got left s m later) spent
within_is left (Sent s item ∷ A) K fits over = ap (λ (l : List Entry). Sent s item ∷ l) (within_is left A K fits over)
within_is left (Got s m ∷ A) K fits over = go (λ l f o. within_is l A K f o) (left s.0) refl
  where
    go : ((l : ℕ → Option ℕ) → Bounded l A → Over l A K → within l (A ++ K) ≡ A) → (o : Option ℕ) → left s.0 ≡ o → after_got left s m (A ++ K) o ≡ Got s m ∷ A
    go rest None e = ap (λ (l : List Entry). Got s m ∷ l) (rest left
        (λ i n h. elim (same_or_not s.0 i) [ inl q ↦ absurd (none_some (sym e ∙ ap left q ∙ h)) | inr apart ↦ subst (λ (k : ℕ). k ≤ n) (count_away s m A i apart) (fits i n h) ])
        (elim over [
          | inl none ↦ inl none
          | inr (t, m', later, is, spent) ↦ inr (t, m', later, is, elim (same_or_not s.0 t.0) [ inl q ↦ absurd (none_some (sym e ∙ ap left q ∙ spent)) | inr apart ↦ spent ∙ ap Some (count_away s m A t.0 apart) ])
        ]))
    go rest (Some zero) e = absurd (let h = fits s.0 0 e in let c = count_here s m A in omega (arith, h, c))
    go rest (Some (suc k)) e = ap (λ (l : List Entry). Got s m ∷ l) (rest (with_number s.0 (Some k) left)
        (λ i n h. elim (same_or_not s.0 i) [
          | inl q ↦ let n_is : k ≡ n = some_same (sym (number_here s.0 (Some k) left) ∙ ap (with_number s.0 (Some k) left) q ∙ h) in
              let f = fits s.0 (suc k) e in let c = count_here s m A in subst (λ (j : ℕ). length (got A j) ≤ n) q (omega (arith, f, c, n_is))
          | inr apart ↦ subst (λ (j : ℕ). j ≤ n) (count_away s m A i apart) (fits i n (sym (number_away s.0 (Some k) left i (λ q. apart (sym q))) ∙ h))
        ])
        (elim over [
          | inl none ↦ inl none
          | inr (t, m', later, is, spent) ↦ inr (
            t,
            m',
            later,
            is,
            elim (same_or_not s.0 t.0) [
              | inl q ↦ let c = count_here s m A in let both : suc k ≡ suc (length (got A s.0)) = some_same (sym e ∙ ap left q ∙ spent ∙ ap (λ (j : ℕ). Some (length (got (Got s m ∷ A) j))) (sym q) ∙ ap Some c) in
                  let n_is : k ≡ length (got A s.0) = omega (arith, both) in
                  ap (with_number s.0 (Some k) left) (sym q) ∙ number_here s.0 (Some k) left ∙ ap Some n_is ∙ ap (λ (j : ℕ). Some (length (got A j))) q
              | inr apart ↦ number_away s.0 (Some k) left t.0 (λ q. apart (sym q)) ∙ spent ∙ ap Some (count_away s m A t.0 apart)
            ],
          )
        ]))

-- ---- from the run's account to the clause at a rest

-- a parked channel has said all that was queued on it, or a part of it after which a write took nothing
pub parked_said : (log : List LogEntry) (ms : List Message) (payloads : List (List ℕ)) (next : ℕ) (w : Channel) → w.parked ≡ true → IsChannelAt log ms payloads next w → SaysAll w.link log (frames_of payloads)
parked_said log ms payloads next w parked at = go w.unsent refl (at.parked parked).said_all
  where
    go : (unsent : List ℕ) → w.unsent ≡ unsent → (w.unsent ≡ []) ⊎ (last_write w.link log ≡ Some (NotSaid w.link)) → SaysAll w.link log (frames_of payloads)
    go unsent e (inl none) = inl (sym (append_nil (said_on w.link log)) ∙ ap (λ (b : List ℕ). said_on w.link log ++ b) (sym none) ∙ at.said)
    go [] e (inr not) = inl (sym (append_nil (said_on w.link log)) ∙ ap (λ (b : List ℕ). said_on w.link log ++ b) (sym e) ∙ at.said)
    go (x ∷ xs) e (inr not) = inr ((x ∷ xs, omega arith, sym at.said ∙ ap (λ (b : List ℕ). said_on w.link log ++ b) e), not)

-- and holds no message: what was heard is what was given
pub parked_messages : (log : List LogEntry) (ms : List Message) (payloads : List (List ℕ)) (next : ℕ) (w : Channel) → w.parked ≡ true → IsChannelAt log ms payloads next w → messages_heard (heard_on w.link log) ≡ ms
parked_messages log ms payloads next w parked at = taken_heard (heard_on w.link log) ms w.held at.heard
    ∙ ap (λ (more : List Message). ms ++ more) (none_heard w.held (none_first w.held (unfinished_none w.held (at.parked parked).unfinished))).0 ∙ append_nil ms

module _ (started : ℕ) (S : Scenario) (replies : Messages) (counts : (i : ℕ) (l : LinkNo) → sim_link started S i ≡ Some l → length (replies i) ≡ setup_count S i) (P : Plan) (J : List Entry) (before : List LogEntry) where
  -- a parked channel holds no message: what was heard is what was given
  pub parked_heard : (i : ℕ) (l : LinkNo) → sim_link started S i ≡ Some l → (messages : List Message) (items : List Item) (w : Channel) → w.link ≡ l → w.parked ≡ true → IsInStep S replies before i messages items w
      → run_messages S before i l ≡ messages
  parked_heard i l linked messages items w is parked step =
      let p = step.parked parked in
      let heard : messages_heard (heard_on w.link before) ≡ replies i ++ messages = taken_heard (heard_on w.link before) (replies i ++ messages) w.held step.heard
      ∙ ap (λ (ms : List Message). (replies i ++ messages) ++ ms) (none_heard w.held (none_first w.held (unfinished_none w.held p.unfinished))).0 ∙ append_nil (replies i ++ messages) in
      ap (λ (k : LinkNo). drop (setup_count S i) (messages_heard (heard_on k before))) (sym is) ∙ ap (drop (setup_count S i)) heard
      ∙ ap (λ (n : ℕ). drop n (replies i ++ messages)) (sym (counts i l linked)) ∙ drop-append_seam (replies i) messages

  module _ (r : IsRestOf started S replies P J before) (next : (r.more ≡ []) ⊎ BeginsOnLink started S r.more) where
    heard_of_link : (i : ℕ) (l : LinkNo) → sim_link started S i ≡ Some l → run_messages S before i l ≡ got r.at i
    heard_of_link i l linked = let t = r.channel i l linked in parked_heard i l linked (got r.at i) (sent r.at i) t.0 t.1 t.2 t.3

    left_of_link : (i : ℕ) (l : LinkNo) → sim_link started S i ≡ Some l → heard_counts started S before i ≡ Some (length (got r.at i))
    left_of_link i l linked = ap (option_map (λ (k : LinkNo). length (run_messages S before i k))) linked ∙ ap (λ (ms : List Message). Some (length ms)) (heard_of_link i l linked)

    fits : Bounded (heard_counts started S before) r.at
    fits i n h = go (sim_link started S i) refl h
      where
        go : (o : Option LinkNo) → sim_link started S i ≡ o → option_map (λ (k : LinkNo). length (run_messages S before i k)) o ≡ Some n → length (got r.at i) ≤ n
        go None e q = absurd (none_some q)
        go (Some l) e q = let size : length (run_messages S before i l) ≡ length (got r.at i) = ap length (heard_of_link i l e) in let same : length (run_messages S before i l) ≡ n = some_same q in omega (arith, size, same)

    over : Over (heard_counts started S before) r.at r.more
    over = elim next [
      | inl none ↦ inl none
      | inr (s, m, later, l, is, linked) ↦ inr (s, m, later, is, left_of_link s.0 l linked)
    ]

    -- the journal at the rest is the one over which nobody was ready
    pub rest_is : at_rest started S before J ≡ r.at
    rest_is = ap (within (heard_counts started S before)) r.parts ∙ within_is (heard_counts started S before) r.at r.more fits over

    pub well_at_rest : IsWellAtRest started S P J before
    well_at_rest = record {
      has_all = λ i l linked. ap (λ (A : List Entry). got A i) rest_is ∙ sym (heard_of_link i l linked);
      replied = λ i inside. ap (λ (A : List Entry). (view P A).open_at i) rest_is ∙ r.replied i inside;
      nobody = λ i x ready. r.nobody i x (subst (λ (A : List Entry). IsReady P (view P A) i x) rest_is ready);
      said = λ i l linked. let t = r.channel i l linked in subst (λ (A : List Entry). SaysAll l before (all_frames S i (sent A i))) (sym rest_is)
          (subst (λ (k : LinkNo). SaysAll k before (all_frames S i (sent r.at i))) t.1 (parked_said before (replies i ++ got r.at i) _ _ t.0 t.2 t.3));
      heard_all = λ i l linked. let t = r.channel i l linked in subst (λ (k : LinkNo). last_read k before ≡ Some (NotHeard k)) t.1 (t.3.parked t.2).heard_all;
    }

-- so each rest of a run is one
pub rests_well : (started : ℕ) (S : Scenario) (replies : Messages) (counts : (i : ℕ) (l : LinkNo) → sim_link started S i ≡ Some l → length (replies i) ≡ setup_count S i) (P : Plan) (J : List Entry) (log : List LogEntry)
    → RestsEnd started S replies P J log → RestsWell started S P J log
rests_well started S replies counts P J log rests before after is up = let t = rests before after is up in well_at_rest started S replies counts P J before t.0 t.1
