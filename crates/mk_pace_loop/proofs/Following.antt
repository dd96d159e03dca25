-- What stands right behind a Step that was sent: it can be sent, was sent, or wasn't.
use Rattle.std.proofs.Common.{◌≡◌, inl, inr, ℕ, ◌+◌, ◌<◌, ◌≤◌, Bool, true, false, List, [], ◌∷◌, ◌++◌, length, filter, Option, Some, None, slice_get, refl, sym, ap, ◌∙◌, subst, arith, length-append, true≢false, if◌then◌else◌}
use Rattle.mk_base.specs.declared.SimNo.{SimNo}
use Rattle.mk_base.specs.Lists.{BeginsWith}
use Rattle.mk_base.proofs.Lists.{append_nil, filter_append, none_some, some_same}
use Rattle.mk_plan.specs.declared.Entry.{Entry}
use Rattle.mk_plan.specs.declared.Entry.TheVariants.{Sent}
use Rattle.mk_plan.specs.declared.Item.{Item}
use Rattle.mk_plan.specs.declared.Item.TheVariants.{Step, GetData, Answer, Refuse}
use Rattle.mk_plan.specs.declared.Plan.{Plan}
use Rattle.mk_plan.specs.Journals.{got, sent}
use Rattle.mk_plan.specs.Plans.{first_id, sim_count}
use Rattle.mk_plan.specs.Report.{is_step}
use Rattle.mk_plan.specs.Sequential.{takes_id, id_after}
use Rattle.mk_message.specs.Written.{item_text}
use Rattle.mk_frame.specs.Frames.{limit}
use Rattle.mk_outside.specs.declared.fleet.LogEntry.{LogEntry}
use Rattle.mk_run_laws.specs.Handshake.{is_within}
use Rattle.mk_run_laws.specs.Channels.{Channel}
use Rattle.mk_run_links.specs.Crews.{IsLengthOf}
use Rattle.mk_run_local.specs.Laws.{RepliesAreKinds}
use Rattle.mk_run_crew.specs.declared.halt.Halt.{Halt}
use Rattle.mk_run_crew.specs.declared.halt.Halt.TheVariants as halt
use Rattle.mk_run_crew.specs.Seen.{CrewSeen, crew_of}
use Rattle.mk_run_crew.specs.Calls.{SendsAs, ShowsUnsent}
use Rattle.mk_run.specs.declared.outcome.Outcome.{Outcome}
use Rattle.mk_run.specs.Outcomes.{outcome_of}
use Rattle.mk_run.specs.inner.Sendings.{CanTake, IsItemAt, IsUnsent}
use Rattle.mk_run.specs.inner.Underway.{Setting, put}
use Rattle.mk_run.proofs.Linked.{linked_outside, within_below}
use Rattle.mk_run.proofs.Putting.{put_away, put_here}
use Rattle.mk_pace_held.specs.declared.held.Due.{Due}
use Rattle.mk_pace_held.specs.declared.held.Held.{Held}
use Rattle.mk_pace_held.specs.Firsts.{IsChanged}
use Rattle.mk_pace_laws.specs.declared.end.Moment.{Moment}
use Rattle.mk_pace_laws.specs.declared.end.PaceEnd.{PaceEnd}
use Rattle.mk_pace_laws.specs.declared.end.PaceEnd.TheVariants as pace
use Rattle.mk_pace_laws.specs.Ends.{IsBroken, IsLongAmong, QueuedOut, fault_of}
use Rattle.mk_pace_laws.specs.Moments.{Tempo, before_step, moments_of, sent_out, timing}
use Rattle.mk_pace_laws.specs.Naps.{AreTold}
use Rattle.mk_pace_loop.specs.inner.Pacing.{IsPacingBut, IsPacingFor}
use Rattle.mk_pace_loop.specs.inner.PacedOut.{EndsPace, HasPacedOut}
use Rattle.mk_pace_loop.specs.inner.Waiting.{DueAs, waiting_seen}
use Rattle.mk_pace_loop.proofs.HeldFirst.{IsFront, front_is}
use Rattle.mk_pace_loop.proofs.OneSent.{can_take, sent_on}
use Rattle.mk_pace_loop.proofs.Placed.{sent_at}
use Rattle.mk_base.proofs.Counts.{same_or_not}
use Rattle.mk_base.proofs.Items.{not_empty, same_heads}

-- ---- an item that is no Step

no_step : (T : Tempo) (item : Item) (due : Option Due) → DueAs T item due → due ≡ None → is_step item ≡ false
no_step T (Step x inputs advance) due is none = absurd (none_some (sym none ∙ is))
no_step T (GetData wanted) due is none = refl
no_step T (Answer id content) due is none = refl
no_step T (Refuse id reason) due is none = refl

none_told : (T : Tempo) (log : List LogEntry) (item : Item) → is_step item ≡ false → AreTold T log (item ∷ [])
none_told T log item late [] later x inputs advance parts = absurd (true≢false (ap is_step (sym (same_heads parts).0) ∙ late))
none_told T log item late (d ∷ first) later x inputs advance parts = absurd (not_empty first later (Step x inputs advance) (same_heads parts).1)

pub steps_pushed : (queued : List Item) (item : Item) → is_step item ≡ false → length (filter is_step (queued ++ item ∷ [])) ≡ length (filter is_step queued)
steps_pushed queued item late = ap (λ (l : List Item). length l) (filter_append is_step queued (item ∷ []) ∙ ap (λ (b : Bool). filter is_step queued ++ (if b then item ∷ [] else [])) late ∙ append_nil (filter is_step queued))

-- ---- the item at a place

pub same_item : (J : List Entry) (place : ℕ) (item other : Item) → IsItemAt J place item → IsItemAt J place other → item ≡ other
same_item J place item other one two = go one.0 two.0 (some_same (sym one.1 ∙ two.1))
  where
    go : (s t : SimNo) → Sent s item ≡ Sent t other → item ≡ other
    go s t e = cc

-- ---- what was sent out at an end

-- of all items those before the next Step begin with those that were queued
before_more : (queued waiting : List Item) → BeginsWith (before_step (length (filter is_step queued)) (queued ++ waiting)) queued
before_more [] waiting = (before_step 0 waiting, refl)
before_more (Step x inputs advance ∷ queued) waiting = let t = before_more queued waiting in (t.0, ap (λ (l : List Item). Step x inputs advance ∷ l) t.1)
before_more (GetData wanted ∷ queued) waiting = let t = before_more queued waiting in (t.0, ap (λ (l : List Item). GetData wanted ∷ l) t.1)
before_more (Answer id content ∷ queued) waiting = let t = before_more queued waiting in (t.0, ap (λ (l : List Item). Answer id content ∷ l) t.1)
before_more (Refuse id reason ∷ queued) waiting = let t = before_more queued waiting in (t.0, ap (λ (l : List Item). Refuse id reason ∷ l) t.1)

module _ (begins : ℕ → Type 0) (S : Setting) (T : Tempo) (strict : Option ℕ) (P : Plan) (J : List Entry) (log : List LogEntry) (C : CrewSeen) (holds : List (List Held)) (moments : List Moment)
    (p : IsPacingFor begins S P J log (crew_of C) C.sims (waiting_seen T strict holds moments)) where
  -- at least what was queued was sent out
  out_more : (i : ℕ) → i < sim_count P → BeginsWith (sent_out J moments i) (p.queued i)
  out_more i low =
      let g = p.holding i low in
      let t = before_more (p.queued i) g.waiting in
      (t.0, ap (λ (n : ℕ). before_step n (sent J i)) (p.counts i low) ∙ ap (before_step (length (filter is_step (p.queued i)))) g.items ∙ t.1)

  few_got : (i : ℕ) → is_within S.scenario i ≡ true → length (got J i) ≤ length (filter takes_id (sent_out J moments i))
  few_got i inside =
      let t = out_more i (subst (λ (n : ℕ). i < n) (sym p.suits.sims) (within_below S.scenario i inside)) in
      let all : length (filter takes_id (sent_out J moments i)) ≡ length (filter takes_id (p.queued i)) + length (filter takes_id t.0) =
      ap (λ (l : List Item). length (filter takes_id l)) t.1 ∙ ap (λ (l : List Item). length l) (filter_append takes_id (p.queued i) t.0) ∙ length-append (filter takes_id (p.queued i)) (filter takes_id t.0) in
      let so_far = p.replied i inside in
      omega (arith, all, so_far)

  -- the run ends where it is
  pub ends_here : (end : PaceEnd) → ((i : ℕ) → i < sim_count P → QueuedOut end (sent_out J moments i) (p.queued i)) → EndsPace ⊥ S P (timing T strict moments) J log (crew_of C) end → None ≡ fault_of end → (IsBroken end → ⊥)
      → HasPacedOut ⊥ S (timing T strict moments) P J log (crew_of C) end
  ends_here end out ends unnamed whole = record {
    suits = p.suits;
    stands = p.stands;
    patient = p.patient;
    in_range = p.in_range;
    kinds = p.kinds;
    channels = λ i l linked. let low : i < sim_count P = subst (λ (n : ℕ). i < n) (sym p.suits.sims) (linked_outside S.started S.scenario i l linked).1 in record {
      messages = got J i;
      items = p.queued i;
      channel = p.channels i l linked;
      given = ([], sym (append_nil (got J i)));
      queued = let g = p.holding i low in (g.waiting, g.items);
      out = out i low;
      told = p.told i;
      timely = p.timely i l linked;
    };
    no_other = p.no_other;
    origin = p.origin;
    moments_are = p.moments_are;
    within = few_got;
    setup_rests = p.setup_rests;
    on_links = p.on_links;
    naps = p.naps;
    looks = p.looks;
    ends = ends;
    fault = p.no_fault ∙ unnamed;
    unfinished = λ broken. absurd (whole broken);
  }

  -- ---- an item that wasn't sent

  module _ (s : ℕ) (low : s < sim_count P) (item : Item) (rest : List Item) (next : sent J s ≡ p.queued s ++ item ∷ rest) where
    long_among : (n : ℕ) → IsLengthOf n item s C.channels → limit < n → IsLongAmong S.started S.scenario P J s n
    long_among n size beyond =
        let t = p.no_other s size.0 size.1 in
        let g = p.channels s t.0 t.1 in
        let same : g.channel ≡ size.0 = some_same (sym g.there ∙ size.1) in
        let a = sent_at J s (p.queued s) item rest next in
        let id_is : size.0.next ≡ id_after (first_id P s) (sent a.before s) =
        ap (λ (w : Channel). w.next) (sym same) ∙ g.in_step.next_id ∙ ap (λ (k : ℕ). id_after k (p.queued s)) (sym (p.suits.first s low)) ∙ ap (id_after (first_id P s)) (sym a.sent_before) in
        record { before = a.before; sim = a.sim; item = item; later = a.later; is = a.parts; to = a.whose; link = t.0; linked = t.1; bytes = ap (λ (k : ℕ). length (item_text k item)) (sym id_is) ∙ sym size.2; beyond = beyond }

    unsent_by : (h : Halt) → ShowsUnsent h s item C → HasPacedOut ⊥ S (timing T strict moments) P J log (crew_of C) (pace.Outcome (outcome_of h))
    unsent_by (halt.Setup fault) shown = absurd shown
    unsent_by halt.Fleet shown = absurd shown
    unsent_by (halt.Gone sim) shown = absurd shown
    unsent_by (halt.Garbled sim test) shown = absurd shown
    unsent_by (halt.LongFrame sim n) shown = absurd shown
    unsent_by (halt.LongItem sim n) shown = ends_here (pace.Outcome (outcome_of (halt.LongItem sim n))) (λ i below. tt) (subst (λ (i : ℕ). IsLongAmong S.started S.scenario P J i n) (sym shown.0) (long_among n shown.2 shown.3)) refl (λ broken. broken)
    unsent_by halt.Mem shown = ends_here (pace.Outcome (outcome_of halt.Mem)) (λ i below. tt) tt refl (λ broken. broken)

    pub unsent_ends : (end : Outcome) → IsUnsent end s item C → HasPacedOut ⊥ S (timing T strict moments) P J log (crew_of C) (pace.Outcome end)
    unsent_ends end u = subst (λ (e : Outcome). HasPacedOut ⊥ S (timing T strict moments) P J log (crew_of C) (pace.Outcome e)) (sym u.1) (unsent_by u.0 u.2)

  -- no memory was there to note a moment
  pub mem_ends : HasPacedOut ⊥ S (timing T strict moments) P J log (crew_of C) (pace.Outcome (outcome_of halt.Mem))
  mem_ends = ends_here (pace.Outcome (outcome_of halt.Mem)) (λ i below. tt) tt refl (λ broken. broken)

-- ---- what waits first of a simulator, whatever it is

module _ (S : Setting) (T : Tempo) (strict : Option ℕ) (P : Plan) (J : List Entry) (log : List LogEntry) (C : CrewSeen) (holds : List (List Held)) (moments : List Moment) (s : ℕ) (low : s < sim_count P) (h : Held) (q : List Held)
    (p : IsPacingBut s S P J log (crew_of C) C.sims (waiting_seen T strict holds moments)) (there : slice_get holds s ≡ Some (h ∷ q)) where
  front : (item : Item) × (rest : List Item) × IsFront P T J s (p.queued s) (p.holding s low).waiting h q item rest
  front = front_is P T J holds s (p.queued s) h q (p.holding s low) there

  front_at : IsItemAt J h.place front.0
  front_at = (front.2.is.sim, front.2.is.there)

  pub follower_taken : (item : Item) × IsItemAt J h.place item × CanTake s item h.id C
  follower_taken = (front.0, front_at, can_take S T strict P J log C holds moments s low h q front.0 front.1 p front.2)

  pub follower_unsent : (end : Outcome) → ((item : Item) → IsItemAt J h.place item → IsUnsent end s item C) → HasPacedOut ⊥ S (timing T strict moments) P J log (crew_of C) (pace.Outcome end)
  follower_unsent end unsent = unsent_ends (λ i. i ≡ s → ⊥) S T strict P J log C holds moments p s low front.0 front.1 front.2.items end (unsent front.0 front_at)

  -- an item that is no Step
  pub follower_sent : h.due ≡ None → RepliesAreKinds → (D : CrewSeen) → ((item : Item) → IsItemAt J h.place item → SendsAs s item h.id C D) → (new : List (List Held)) → IsChanged s (h ∷ q) q holds new → IsPacingBut s S P J log (crew_of D) D.sims (waiting_seen T strict new moments)
  follower_sent none law D so new changed =
      sent_on S T strict P J log C holds moments s low h q front.0 front.1 p front.2 law D (so front.0 front_at) new changed moments p.moments_are counts (none_told T log front.0 late)
    where
      late : is_step front.0 ≡ false
      late = no_step T front.0 h.due front.2.is.due none

      counts : (i : ℕ) → i < sim_count P → length (moments_of i moments) ≡ length (filter is_step (put p.queued s (p.queued s ++ front.0 ∷ []) i))
      counts i below = elim (same_or_not i s) [
        | inl e ↦ subst (λ (j : ℕ). length (moments_of j moments) ≡ length (filter is_step (put p.queued s (p.queued s ++ front.0 ∷ []) j))) (sym e)
            (p.counts s low ∙ sym (ap (λ (xs : List Item). length (filter is_step xs)) (put_here p.queued s (p.queued s ++ front.0 ∷ [])) ∙ steps_pushed (p.queued s) front.0 late))
        | inr apart ↦ p.counts i below ∙ ap (λ (xs : List Item). length (filter is_step xs)) (sym (put_away p.queued s (p.queued s ++ front.0 ∷ []) i apart))
      ]
