-- What a paced run's journal was when the fleet slept, and what stands there.
use Rattle.std.proofs.Common.{◌≡◌, ℕ, ◌≤◌, ℤ, Bool, false, List, [], ◌∷◌, ◌++◌, length, Option, Some, None, option_map, refl, sym, ap, ◌∙◌, subst, ◌⊎◌, inl, inr, arith, if◌then◌else◌}
use Rattle.mk_base.specs.declared.LinkNo.{LinkNo}
use Rattle.mk_base.specs.declared.SimNo.{SimNo}
use Rattle.mk_base.specs.declared.tier.Tier.{Tier}
use Rattle.mk_base.specs.Lists.{IsIn}
use Rattle.mk_base.proofs.Lists.{none_some, some_same}
use Rattle.mk_plan.specs.declared.Entry.{Entry}
use Rattle.mk_plan.specs.declared.Entry.TheVariants.{Got}
use Rattle.mk_plan.specs.declared.Input.{Input}
use Rattle.mk_plan.specs.declared.Item.{Item}
use Rattle.mk_plan.specs.declared.Item.TheVariants.{Step, GetData, Answer, Refuse}
use Rattle.mk_plan.specs.declared.Message.{Message}
use Rattle.mk_plan.specs.declared.Plan.{Plan}
use Rattle.mk_plan.specs.Journals.{sent, got}
use Rattle.mk_plan.specs.Sequential.{Messages}
use Rattle.mk_scenario.specs.declared.parts.Scenario.{Scenario}
use Rattle.mk_outside.specs.declared.fleet.LogEntry.{LogEntry}
use Rattle.mk_outside.specs.declared.fleet.LogEntry.TheVariants.{NotHeard, Told, Nap}
use Rattle.mk_outside.specs.Logs.{greatest_told, last_read, told_by}
use Rattle.mk_run_laws.specs.Handshake.{setup_count, sim_link}
use Rattle.mk_run_laws.specs.Rests.{SaysAll, all_frames, at_rest, heard_counts, run_messages, within}
use Rattle.mk_run_laws.specs.inner.Running.{IsUnready}
use Rattle.mk_run_laws.proofs.Resting.{parked_heard, parked_said, within_is}
use Rattle.mk_pace_laws.specs.Clocks.{IsRising, last_told}
use Rattle.mk_pace_laws.specs.Laws.{NapsAreWell}
use Rattle.mk_pace_laws.specs.Moments.{Tempo, is_early, moment_at, not_early}
use Rattle.mk_pace_laws.specs.Naps.{AreTold, IsEarly, IsNapOf, IsWellAtNap}
use Rattle.mk_pace_laws.proofs.Rising.{last_is_greatest, rising_front}
use Rattle.mk_base.proofs.Counts.{less_test, none_below}

-- ---- what was told

-- a number that was told is no greater than the greatest
pub told_below : (n : ℕ) (log : List LogEntry) → IsIn (Told n) log → n ≤ greatest_told log
told_below n [] there = absurd there
told_below n (e ∷ log) (inl here) = let is : told_by e ≡ n = ap told_by (sym here) in omega (arith, is)
told_below n (e ∷ log) (inr there) = let below = told_below n log there in omega (arith, below)

-- each Step of these items was due by then
abbrev AreDue : Tempo → ℕ → List Item → Type 0
AreDue T now items = (first later : List Item) (x : Tier) (inputs : List Input) (advance : ℤ) → items ≡ first ++ Step x inputs advance ∷ later → moment_at T x.time ≤ now

due_by : (T : Tempo) (now : ℕ) (log : List LogEntry) (items : List Item) → greatest_told log ≡ now → AreTold T log items → AreDue T now items
due_by T now log items greatest told first later x inputs advance parts =
    let t = told first later x inputs advance parts in
    let below = told_below t.0 log t.1 in
    omega (arith, greatest, below, t.2)

-- ---- what was queued are the items before the first early Step

pub queued_are : (T : Tempo) (now : ℕ) (queued waiting : List Item) → AreDue T now queued → IsEarly T now waiting → not_early T now (queued ++ waiting) ≡ queued
queued_are T now [] waiting due (inl none) = ap (not_early T now) none
queued_are T now [] waiting due (inr (x, inputs, advance, more, is, late)) = ap (not_early T now) is ∙ ap (λ (b : Bool). if b then [] else Step x inputs advance ∷ not_early T now more) (less_test now (moment_at T x.time) late)
queued_are T now (item ∷ queued) waiting due early =
    ap (λ (b : Bool). if b then [] else item ∷ not_early T now (queued ++ waiting)) (on_time item refl)
    ∙ ap (λ (l : List Item). item ∷ l) (queued_are T now queued waiting (λ first later x inputs advance is. due (item ∷ first) later x inputs advance (ap (λ (l : List Item). item ∷ l) is)) early)
  where
    on_time : (it : Item) → item ≡ it → is_early T now item ≡ false
    on_time (Step x inputs advance) e = ap (is_early T now) e ∙ none_below now (moment_at T x.time) (due [] queued x inputs advance (ap (λ (i : Item). i ∷ queued) e))
    on_time (GetData wanted) e = ap (is_early T now) e
    on_time (Answer id content) e = ap (is_early T now) e
    on_time (Refuse id reason) e = ap (is_early T now) e

-- ---- the journal at the sleep

module _ (started : ℕ) (S : Scenario) (replies : Messages) (counts : (i : ℕ) (l : LinkNo) → sim_link started S i ≡ Some l → length (replies i) ≡ setup_count S i) (P : Plan) (T : Tempo) (J : List Entry) (before : List LogEntry)
    (same : greatest_told before ≡ last_told before) (r : IsNapOf started S replies P T J before) where
  heard_of_link : (i : ℕ) (l : LinkNo) → sim_link started S i ≡ Some l → run_messages S before i l ≡ got r.at i
  heard_of_link i l linked = let t = r.channels i l linked in parked_heard started S replies counts P J before i l linked (got r.at i) t.queued t.channel t.link t.parked t.in_step

  left_of_link : (i : ℕ) (l : LinkNo) → sim_link started S i ≡ Some l → heard_counts started S before i ≡ Some (length (got r.at i))
  left_of_link i l linked = ap (option_map (λ (k : LinkNo). length (run_messages S before i k))) linked ∙ ap (λ (ms : List Message). Some (length ms)) (heard_of_link i l linked)

  fits : (i n : ℕ) → heard_counts started S before i ≡ Some n → length (got r.at i) ≤ n
  fits i n h = go (sim_link started S i) refl h
    where
      go : (o : Option LinkNo) → sim_link started S i ≡ o → option_map (λ (k : LinkNo). length (run_messages S before i k)) o ≡ Some n → length (got r.at i) ≤ n
      go None e q = absurd (none_some q)
      go (Some l) e q = let size : length (run_messages S before i l) ≡ length (got r.at i) = ap length (heard_of_link i l e) in let is : length (run_messages S before i l) ≡ n = some_same q in omega (arith, size, is)

  over : (r.more ≡ []) ⊎ ((s : SimNo) × (m : Message) × (later : List Entry) × (r.more ≡ Got s m ∷ later) × (heard_counts started S before s.0 ≡ Some (length (got r.at s.0))))
  over = elim r.next [
    | inl none ↦ inl none
    | inr (s, m, later, l, is, linked) ↦ inr (s, m, later, is, left_of_link s.0 l linked)
  ]

  nap_is : at_rest started S before J ≡ r.at
  nap_is = ap (within (heard_counts started S before)) r.parts ∙ within_is (heard_counts started S before) r.at r.more fits over

  said_of_link : (i : ℕ) (l : LinkNo) → sim_link started S i ≡ Some l → SaysAll l before (all_frames S i (not_early T (last_told before) (sent r.at i)))
  said_of_link i l linked =
      let t = r.channels i l linked in
      let items : not_early T (last_told before) (sent r.at i) ≡ t.queued = ap (not_early T (last_told before)) t.items ∙ queued_are T (last_told before) t.queued t.waiting (due_by T (last_told before) before t.queued same t.due) t.early in
      subst (λ (l2 : List Item). SaysAll l before (all_frames S i l2)) (sym items)
      (subst (λ (k : LinkNo). SaysAll k before (all_frames S i t.queued)) t.link (parked_said before _ _ _ t.channel t.parked t.in_step))

  pub well_at_nap : IsWellAtNap started S P T J before
  well_at_nap = record {
    has_all = λ i l linked. ap (λ (A : List Entry). got A i) nap_is ∙ sym (heard_of_link i l linked);
    nobody = subst (IsUnready P) (sym nap_is) r.nobody;
    said = λ i l linked. subst (λ (A : List Entry). SaysAll l before (all_frames S i (not_early T (last_told before) (sent A i)))) (sym nap_is) (said_of_link i l linked);
    heard_all = λ i l linked. let t = r.channels i l linked in subst (λ (k : LinkNo). last_read k before ≡ Some (NotHeard k)) t.link (t.in_step.parked t.parked).heard_all;
  }

pub naps_well : NapsAreWell
naps_well started S replies counts P T J log rising naps before after is =
    well_at_nap started S replies counts P T J before (last_is_greatest before (rising_front before (Nap ∷ after) (subst IsRising is rising))) (naps before after is)
