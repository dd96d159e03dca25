-- The Step that waits first of all: it was sent and its moment noted, or it is later than is allowed.
use Rattle.std.proofs.Common.{◌≡◌, ◌≢◌, ◌⊎◌, inl, inr, ℕ, ◌+◌, ◌<◌, ◌≤◌, ℤ, List, [], ◌∷◌, ◌++◌, length, filter, Option, Some, option_map, slice_get, unwrap_or, refl, sym, ap, ◌∙◌, subst, arith, length-append}
use Rattle.std.specs.Bool.{⊤}
use Rattle.mk_base.specs.declared.SimNo.{SimNo}
use Rattle.mk_base.specs.declared.tier.Tier.{Tier}
use Rattle.mk_base.specs.Lists.{IsIn}
use Rattle.mk_base.proofs.Lists.{filter_append, in_back, some_same}
use Rattle.mk_plan.specs.declared.Entry.{Entry}
use Rattle.mk_plan.specs.declared.Entry.TheVariants.{Sent}
use Rattle.mk_plan.specs.declared.Input.{Input}
use Rattle.mk_plan.specs.declared.Item.{Item}
use Rattle.mk_plan.specs.declared.Item.TheVariants.{Step}
use Rattle.mk_plan.specs.declared.Plan.{Plan}
use Rattle.mk_plan.specs.Journals.{sent}
use Rattle.mk_plan.specs.Plans.{sim_count}
use Rattle.mk_plan.specs.Report.{is_step}
use Rattle.mk_outside.specs.declared.fleet.LogEntry.{LogEntry}
use Rattle.mk_outside.specs.declared.fleet.LogEntry.TheVariants.{Told}
use Rattle.mk_outside.specs.Logs.{told_by}
use Rattle.mk_run_laws.proofs.Moving.{last_later}
use Rattle.mk_run_local.specs.Laws.{RepliesAreKinds}
use Rattle.mk_run_crew.specs.Seen.{CrewSeen, crew_of}
use Rattle.mk_run_crew.specs.Calls.{SendsAs}
use Rattle.mk_run.specs.inner.Sendings.{IsItemAt}
use Rattle.mk_run.specs.inner.Underway.{Setting, put}
use Rattle.mk_run.proofs.Putting.{put_away, put_here}
use Rattle.mk_pace_held.specs.declared.held.Due.{Due}
use Rattle.mk_pace_held.specs.declared.held.First.{First}
use Rattle.mk_pace_held.specs.declared.held.Held.{Held}
use Rattle.mk_pace_held.specs.Firsts.{IsChanged, IsFirst, IsNoLater}
use Rattle.mk_pace_laws.specs.declared.end.Moment.{Moment}
use Rattle.mk_pace_laws.specs.declared.end.PaceEnd.TheVariants as pace
use Rattle.mk_pace_laws.specs.Clocks.{is_told, last_told}
use Rattle.mk_pace_laws.specs.Ends.{IsAskedBefore, IsLate, IsNextStep}
use Rattle.mk_pace_laws.specs.Moments.{Tempo, moment_at, moments_of, sent_out, timing}
use Rattle.mk_pace_laws.specs.Naps.{AreTold}
use Rattle.mk_pace_laws.proofs.SentOut.{WaitsByStep, sent_out_is}
use Rattle.mk_pace_loop.specs.inner.Pacing.{AreHeldItems, BeginsWithStep, IsHeldItem, IsPacing, IsPacingBut}
use Rattle.mk_pace_loop.specs.inner.PacedOut.{HasPacedOut}
use Rattle.mk_pace_loop.specs.inner.Turns.{HasJustTold}
use Rattle.mk_pace_loop.specs.inner.Waiting.{DueAs, waiting_seen}
use Rattle.mk_pace_loop.proofs.Following.{ends_here}
use Rattle.mk_pace_loop.proofs.HeldFirst.{IsFirstOf, IsFront, IsStepDue, but_one, due_step, first_below, first_parts, first_taken, front_is}
use Rattle.mk_pace_loop.proofs.Noted.{moments_away, moments_here, noted}
use Rattle.mk_pace_loop.proofs.OneSent.{sent_on}
use Rattle.mk_pace_loop.proofs.Placed.{sent_at, step_time_of, two_places}
use Rattle.mk_base.proofs.Counts.{same_or_not}
use Rattle.mk_base.proofs.Items.{not_empty, same_heads, same_behind}

-- ---- what the clock told last

pub just_in : (told : ℕ) (log : List LogEntry) → HasJustTold told log → IsIn (Told told) log
just_in told log j = subst (IsIn (Told told)) (sym j.1) (in_back (Told told) j.0 (Told told ∷ []) (inl refl))

pub just_last : (told : ℕ) (log : List LogEntry) → HasJustTold told log → last_told log ≡ told
just_last told log j = ap last_told j.1 ∙ ap (λ (o : Option LogEntry). unwrap_or (option_map told_by o) 0) (last_later is_told j.0 (Told told ∷ []) (Told told) refl)

-- ---- what waits begins with a Step

waits_by : (P : Plan) (T : Tempo) (J : List Entry) (s : ℕ) (before : List Item) (q : List Held) (waiting : List Item) → BeginsWithStep q → AreHeldItems P T J s before q waiting → WaitsByStep waiting
waits_by P T J s before [] [] step are = inl refl
waits_by P T J s before [] (item ∷ waiting) step are = absurd are
waits_by P T J s before (h ∷ q) [] step are = absurd are
waits_by P T J s before (h ∷ q) (item ∷ waiting) step are =
    let d = due_step T item step.0 (subst (DueAs T item) step.1 are.0.due) in
    inr (step.0.at, d.inputs, d.advance, waiting, ap (λ (i : Item). i ∷ waiting) d.item_is)

module _ (S : Setting) (T : Tempo) (strict : Option ℕ) (P : Plan) (J : List Entry) (log : List LogEntry) (C : CrewSeen) (holds : List (List Held)) (moments : List Moment) (p : IsPacing S P J log (crew_of C) C.sims (waiting_seen T strict holds moments)) where
  -- the items that were queued are those that were sent out
  pub out_is : (i : ℕ) → i < sim_count P → sent_out J moments i ≡ p.queued i
  out_is i low =
      let g = p.holding i low in
      sent_out_is J moments i (p.queued i) g.waiting g.items (waits_by P T J i (p.queued i) g.held g.waiting (p.steps i g.held tt g.there) g.are) (p.counts i low)

  module _ (f : First) (first : IsFirst f holds) where
    abbrev s : ℕ
    s = f.sim.0

    pub first_low : s < sim_count P
    first_low = subst (λ (n : ℕ). s < n) p.count (first_below f holds first)

    parts : IsFirstOf f first.items
    parts = first_parts f.sim first.items f first.here

    there : slice_get holds s ≡ Some (parts.held ∷ parts.rest)
    there = first.there ∙ ap (λ (q : List Held). Some q) parts.is

    front : (item : Item) × (rest : List Item) × IsFront P T J s (p.queued s) (p.holding s first_low).waiting parts.held parts.rest item rest
    front = front_is P T J holds s (p.queued s) parts.held parts.rest (p.holding s first_low) there

    step : IsStepDue T front.0 f.due
    step = due_step T front.0 f.due (subst (DueAs T front.0) parts.due front.2.is.due)

    next : sent J s ≡ p.queued s ++ Step f.due.at step.inputs step.advance ∷ front.1
    next = front.2.items ∙ ap (λ (item : Item). p.queued s ++ item ∷ front.1) step.item_is

    -- ---- it is later than is allowed

    -- another Step that comes next of its simulator
    module _ (t : SimNo) (y : Tier) (apart : t.0 ≢ s) (n : IsNextStep J moments t.0 y) where
      other_low : t.0 < sim_count P
      other_low =
          let a = sent_at J t.0 (sent_out J moments t.0) (Step y n.0 n.1) n.2 n.3 in
          subst (λ (k : ℕ). k < sim_count P) a.whose (step_time_of P J a.before a.later a.sim y n.0 n.1 p.stands a.parts).2

      other_waits : (p.holding t.0 other_low).waiting ≡ Step y n.0 n.1 ∷ n.2
      other_waits = let g = p.holding t.0 other_low in same_behind (p.queued t.0) g.waiting (Step y n.0 n.1 ∷ n.2) (sym g.items ∙ n.3 ∙ ap (λ (l : List Item). l ++ Step y n.0 n.1 ∷ n.2) (out_is t.0 other_low))

      -- where it is held
      record IsOther : Type 0 where
        held : Held
        rest : List Held
        at : slice_get holds t.0 ≡ Some (held ∷ rest)
        is : IsHeldItem P T J t.0 (p.queued t.0) held (Step y n.0 n.1)

      other : IsOther
      other = let g = p.holding t.0 other_low in go g.held g.there (subst (AreHeldItems P T J t.0 (p.queued t.0) g.held) other_waits g.are)
        where
          go : (q : List Held) → slice_get holds t.0 ≡ Some q → AreHeldItems P T J t.0 (p.queued t.0) q (Step y n.0 n.1 ∷ n.2) → IsOther
          go [] at are = absurd are
          go (g ∷ q) at are = record { held = g; rest = q; at = at; is = are.0 }

      abbrev due_other : Due
      due_other = record { at = y; moment = moment_at T y.time }

      abbrev first_other : First
      first_other = record { sim = record { 0 = t.0 }; place = other.held.place; due = due_other }

      no_later : IsNoLater f first_other
      no_later = first.least t.0 (other.held ∷ other.rest) first_other other.at (ap (option_map (λ (d : Due). record { sim = record { 0 = t.0 }; place = other.held.place; due = d })) other.is.due)

      mine_there : slice_get J f.place ≡ Some (Sent f.sim (Step f.due.at step.inputs step.advance))
      mine_there = ap (slice_get J) (sym parts.place) ∙ front.2.is.there ∙ ap (λ (item : Item). Some (Sent front.2.is.sim item)) step.item_is
          ∙ ap (λ (k : ℕ). Some (Sent (record { 0 = k }) (Step f.due.at step.inputs step.advance))) front.2.is.whose

      other_there : slice_get J other.held.place ≡ Some (Sent t (Step y n.0 n.1))
      other_there = other.is.there ∙ ap (λ (k : ℕ). Some (Sent (record { 0 = k }) (Step y n.0 n.1))) other.is.whose

      places_apart : f.place ≡ other.held.place → ⊥
      places_apart e = apart (sim_same f.sim t (some_same (sym mine_there ∙ ap (slice_get J) e ∙ other_there)))
        where
          sim_same : (a b : SimNo) → Sent a (Step f.due.at step.inputs step.advance) ≡ Sent b (Step y n.0 n.1) → b.0 ≡ a.0
          sim_same a b e = ap (λ (x : SimNo). x.0) (sym (sims e))
            where
              sims : Sent a (Step f.due.at step.inputs step.advance) ≡ Sent b (Step y n.0 n.1) → a ≡ b
              sims e = cc

      asked_before : f.place ≤ other.held.place → IsAskedBefore J f.sim f.due.at t y
      asked_before few =
          let w = two_places J f.place other.held.place (Sent f.sim (Step f.due.at step.inputs step.advance)) (Sent t (Step y n.0 n.1)) mine_there other_there (below f.place other.held.place few places_apart) in
          (w.0, w.1, w.2, step.inputs, n.0, step.advance, n.1, w.3)
        where
          below : (a b : ℕ) → a ≤ b → (a ≡ b → ⊥) → a < b
          below a b few apart = grind (arith, few, apart)

      pub comes_before : (moment_at T f.due.at.time < moment_at T y.time) ⊎ ((moment_at T f.due.at.time ≡ moment_at T y.time) × IsAskedBefore J f.sim f.due.at t y)
      comes_before = elim no_later [
        | inl less ↦ inl (subst (λ (m : ℕ). m < moment_at T y.time) step.moment_is less)
        | inr same ↦ inr (sym step.moment_is ∙ same.0, asked_before same.1)
      ]

    is_late : (told late allowed : ℕ) → strict ≡ Some allowed → told ≡ f.due.moment + late → allowed < late → HasJustTold told log → IsLate (timing T strict moments) J log f.sim f.due.at.time late allowed
    is_late told late allowed bound told_is beyond just = record {
      strict_is = bound;
      at = f.due.at;
      time_is = refl;
      next = (step.inputs, step.advance, front.1, next ∙ ap (λ (l : List Item). l ++ Step f.due.at step.inputs step.advance ∷ front.1) (sym (out_is s first_low)));
      first = λ t y apart n. comes_before t y apart n;
      told = just_last told log just ∙ told_is ∙ ap (λ (m : ℕ). m + late) step.moment_is;
      beyond = beyond;
    }

    -- the run ends by it
    pub late_ends : (told late allowed : ℕ) → strict ≡ Some allowed → told ≡ f.due.moment + late → allowed < late → HasJustTold told log → HasPacedOut ⊥ S (timing T strict moments) P J log (crew_of C) (pace.Late f.sim f.due.at.time late allowed)
    late_ends told late allowed bound told_is beyond just =
        ends_here (λ i. ⊤) S T strict P J log C holds moments p (pace.Late f.sim f.due.at.time late allowed) (λ i low. sym (out_is i low)) (is_late told late allowed bound told_is beyond just) refl (λ broken. broken)

    -- ---- it was sent

    module _ (h : Held) (q : List Held) (new : List (List Held)) (changed : IsChanged s (h ∷ q) q holds new) (told : ℕ) where
      abbrev note : Moment
      note = record { sim = f.sim; at = f.due.at; moment = f.due.moment; told = told }

      abbrev but : IsPacingBut s S P J log (crew_of C) C.sims (waiting_seen T strict holds moments)
      but = but_one s S T strict P J log (crew_of C) C.sims holds moments p

      taken : (item : Item) × (rest : List Item) × IsFront P T J s (but.queued s) (but.holding s first_low).waiting h q item rest
      taken = front_is P T J holds s (but.queued s) h q (but.holding s first_low) changed.there

      taken_step : IsStepDue T taken.0 f.due
      taken_step = due_step T taken.0 f.due (subst (DueAs T taken.0) (first_taken f holds h q first changed.there) taken.2.is.due)

      taken_next : sent J s ≡ but.queued s ++ Step f.due.at taken_step.inputs taken_step.advance ∷ taken.1
      taken_next = taken.2.items ∙ ap (λ (item : Item). but.queued s ++ item ∷ taken.1) taken_step.item_is

      one_more : length (filter is_step (but.queued s ++ taken.0 ∷ [])) ≡ length (filter is_step (but.queued s)) + 1
      one_more = ap (λ (item : Item). length (filter is_step (but.queued s ++ item ∷ []))) taken_step.item_is ∙ ap (λ (l : List Item). length l) (filter_append is_step (but.queued s) (Step f.due.at taken_step.inputs taken_step.advance ∷ []))
          ∙ length-append (filter is_step (but.queued s)) (Step f.due.at taken_step.inputs taken_step.advance ∷ [])

      counts_here : length (moments_of s (moments ++ note ∷ [])) ≡ length (filter is_step (put but.queued s (but.queued s ++ taken.0 ∷ []) s))
      counts_here = ap (λ (l : List Moment). length l) (moments_here moments note) ∙ length-append (moments_of s moments) (note ∷ []) ∙ ap (λ (k : ℕ). k + 1) (but.counts s first_low) ∙ sym one_more
          ∙ ap (λ (xs : List Item). length (filter is_step xs)) (sym (put_here but.queued s (but.queued s ++ taken.0 ∷ [])))

      counts : (i : ℕ) → i < sim_count P → length (moments_of i (moments ++ note ∷ [])) ≡ length (filter is_step (put but.queued s (but.queued s ++ taken.0 ∷ []) i))
      counts i below = elim (same_or_not i s) [
        | inl e ↦ subst (λ (j : ℕ). length (moments_of j (moments ++ note ∷ [])) ≡ length (filter is_step (put but.queued s (but.queued s ++ taken.0 ∷ []) j))) (sym e) counts_here
        | inr apart ↦ ap (λ (l : List Moment). length l) (moments_away moments note i apart) ∙ but.counts i below ∙ ap (λ (xs : List Item). length (filter is_step xs)) (sym (put_away but.queued s (but.queued s ++ taken.0 ∷ []) i apart))
      ]

      told_it : f.due.moment ≤ told → HasJustTold told log → AreTold T log (taken.0 ∷ [])
      told_it due just first later x inputs advance is = (told, just_in told log just, subst (λ (m : ℕ). m ≤ told) (taken_step.moment_is ∙ ap (moment_at T) (time_same first is)) due)
        where
          step_of : (a b : Tier) (i j : List Input) (m n : ℤ) → Step a i m ≡ Step b j n → a ≡ b
          step_of a b i j m n e = cc

          time_same : (l : List Item) → taken.0 ∷ [] ≡ l ++ Step x inputs advance ∷ later → f.due.at.time ≡ x.time
          time_same [] e = ap (λ (a : Tier). a.time) (step_of f.due.at x taken_step.inputs inputs taken_step.advance advance (sym taken_step.item_is ∙ (same_heads e).0))
          time_same (d ∷ l) e = absurd (not_empty l later (Step x inputs advance) (same_heads e).1)

      taken_at : IsItemAt J h.place taken.0
      taken_at = (taken.2.is.sim, taken.2.is.there)

      pub step_sent : f.due.moment ≤ told → ((allowed : ℕ) → strict ≡ Some allowed → told ≤ f.due.moment + allowed) → HasJustTold told log → RepliesAreKinds → (D : CrewSeen) → ((item : Item) → IsItemAt J h.place item → SendsAs s item h.id C D)
          → IsPacingBut s S P J log (crew_of D) D.sims (waiting_seen T strict new (moments ++ note ∷ []))
      step_sent due in_time just law D so =
          sent_on S T strict P J log C holds moments s first_low h q taken.0 taken.1 but taken.2 law D (so taken.0 taken_at) new changed (moments ++ note ∷ [])
          (noted T strict J log moments note (but.queued s) taken.1 taken_step.inputs taken_step.advance but.moments_are (but.counts s first_low) taken_next taken_step.moment_is due (just_in told log just) in_time (sym (just_last told log just)))
          counts (told_it due just)
