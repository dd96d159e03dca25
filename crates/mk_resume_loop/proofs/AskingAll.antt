-- Whoever was ready was asked: what the calls of a resumed run's asking come to.
use Rattle.std.proofs.Common.{◌≡◌, inl, inr, ℕ, ◌<◌, ◌≤◌, List, [], ◌∷◌, ◌++◌, length, slice_get, Option, Some, None, Result, Ok, Err, OnOk, OnErr, IfErr, refl, sym, ap, ◌∙◌, subst, arith}
use Rattle.mk_base.specs.declared.SimNo.{SimNo}
use Rattle.mk_base.specs.Lists.{BeginsWith}
use Rattle.mk_base.proofs.Lists.{append_nil, below_get, none_some, some_same}
use Rattle.mk_plan.specs.declared.Item.{Item}
use Rattle.mk_plan.specs.declared.Item.TheVariants.{Step}
use Rattle.mk_plan.specs.declared.Message.{Message}
use Rattle.mk_plan.specs.declared.Entry.{Entry}
use Rattle.mk_plan.specs.declared.Entry.TheVariants.{Sent}
use Rattle.mk_plan.specs.Journals.{got, view}
use Rattle.mk_plan.specs.Ready.{IsDone}
use Rattle.mk_order.proofs.SameEnd.{done_is_quiet}
use Rattle.mk_outside.specs.declared.fleet.LogEntry.{LogEntry}
use Rattle.mk_sched.specs.Cores.{CoreState, Stands}
use Rattle.mk_sched.specs.Answers.{SomeOpen, SomeReady, IsAsked, IsOver, AwaitsMessage}
use Rattle.mk_run_local.specs.Laws.{RepliesAreKinds}
use Rattle.mk_run_crew.specs.declared.halt.Halt.{Halt}
use Rattle.mk_run_crew.specs.Calls.{ShowsUnsent}
use Rattle.mk_run_crew.specs.Seen.{CrewSeen, crew_of}
use Rattle.mk_run.specs.Outcomes.{outcome_of}
use Rattle.mk_run.specs.inner.Underway.{Setting, reply_in}
use Rattle.mk_run.proofs.LoopSteps.{asked_ready}
use Rattle.mk_sched.proofs.Pushed.{fault_after_sent, patient_sent}
use Rattle.mk_run.proofs.Pushed.{range_sent}
use Rattle.mk_resume_walk.specs.Talks.{free_items}
use Rattle.mk_resume_links.specs.Rests.{Counts}
use Rattle.mk_resume_links.specs.inner.Catching.{awaited}
use Rattle.mk_resume_links.proofs.Catching.{catching_ready, catching_sent}
use Rattle.mk_resume_links.proofs.Growing.{free_sent_away, free_sent_here}
use Rattle.mk_resume_loop.specs.declared.behind.Standing.{Standing}
use Rattle.mk_resume_loop.specs.declared.ending.ResumeEnd.{ResumeEnd}
use Rattle.mk_resume_loop.specs.declared.ending.ResumeEnd.TheVariants as ends
use Rattle.mk_resume_loop.specs.inner.Asking.{AsksAs, IsSentLast, IsUnsentLast}
use Rattle.mk_resume_loop.specs.inner.Ending.{HasEnded}
use Rattle.mk_resume_loop.specs.inner.Turns.{GoesOn, IsStopping}
use Rattle.mk_resume_loop.specs.inner.Underway.{BehindSeen, IsResuming, IsResumingWith, course_of, saved_of}
use Rattle.mk_resume_loop.proofs.Asked.{asked_low, longer_begins, paid_by_sent}
use Rattle.mk_resume_loop.proofs.Standing.{next_behind}
use Rattle.mk_resume_loop.proofs.Turning.{asked_later, asked_on, ends_with_step}
use Rattle.mk_resume_loop.proofs.Unsent.{unsent_ends}
use Rattle.mk_base.proofs.Counts.{same_or_not}

module _ (T : Setting) (old new : CoreState) (first : List Entry) (heard : Counts) (log : List LogEntry) (C : CrewSeen) (s : SimNo) (u : IsResuming T old.plan first old.entries heard log (crew_of C) C.sims) (stands : Stands new.plan new.entries) (a : IsAsked old s new) where
  abbrev J : List Entry
  J = old.entries

  abbrev item : Item
  item = Step a.at a.inputs a.advance

  abbrev K : List Entry
  K = J ++ Sent s item ∷ []

  abbrev queued : ℕ → List Item
  queued i = free_items J i (heard i)

  abbrev awaits : ℕ → List Message
  awaits = awaited T.scenario (reply_in T) J heard

  -- the journal has the Step, and nothing was sent yet
  with_step : IsResumingWith (course_of T first heard queued awaits log) old.plan K (crew_of C) C.sims
  with_step = record {
    suits = u.suits;
    stands = subst (λ (c : CoreState). Stands c.plan c.entries) a.moved stands;
    begins = longer_begins J first (Sent s item) u.begins;
    patient = patient_sent old.plan J s item u.patient;
    in_range = range_sent J s item u.in_range;
    no_fault = fault_after_sent old.plan J s item u.no_fault;
    paid = paid_by_sent old.plan J s item;
    catching = (catching_sent (saved_of first) T.started T.scenario T.replies (reply_in T) old.plan queued awaits J heard log (crew_of C) s item u.catching
        (catching_ready (saved_of first) T.started T.scenario T.replies (reply_in T) old.plan queued awaits J heard log (crew_of C) s.0 a.at u.catching (asked_ready old new s u.stands a))).0;
    no_other = u.no_other;
    come = u.come;
    only_within = u.only_within;
    log_right = u.log_right;
  }

  -- it wasn't sent
  module _ (caught : heard s.0 ≡ length (got old.entries s.0)) where
    more : free_items K s.0 (heard s.0) ≡ queued s.0 ++ item ∷ []
    more = free_sent_here J s item (heard s.0) (let few : length (got J s.0) ≤ heard s.0 = omega (arith, caught) in few)

    firsts : (i : ℕ) → BeginsWith (free_items K i (heard i)) (queued i)
    firsts i = elim (same_or_not i s.0) [
      | inl q ↦ subst (λ (j : ℕ). BeginsWith (free_items K j (heard j)) (queued j)) (sym q) (item ∷ [], more)
      | inr apart ↦ ([], free_sent_away J s item i (heard i) apart ∙ sym (append_nil (queued i)))
    ]

    asked_unsent : (h : Halt) → ShowsUnsent h s.0 item C → IsStopping ⊥ T first new log C (ends.Outcome (outcome_of h))
    asked_unsent h shown = (
      heard,
      subst (λ (c : CoreState). HasEnded ⊥ T c.plan first c.entries heard log (crew_of C) (ends.Outcome (outcome_of h))) (sym a.moved)
          (unsent_ends ⊥ queued awaits T old.plan first K heard log C C.sims s item [] (asked_low T old new first heard log C s u stands a) with_step firsts more h shown),
    )

module _ (T : Setting) (old new : CoreState) (first : List Entry) (heard : Counts) (log : List LogEntry) (C : CrewSeen) (B : BehindSeen) (s : SimNo) (u : GoesOn T first heard old log C B) (stands : Stands new.plan new.entries) (a : IsAsked old s new) where
  -- one that has caught up was sent its Step, one that is behind gets it later
  pub asked_so : RepliesAreKinds → (D : CrewSeen) → AsksAs (Ok tt) new s C D B → GoesOn T first heard new log D B
  asked_so law D asks = go t.0 t.1
    where
      low : s.0 < length B.sims
      low = subst (λ (n : ℕ). s.0 < n) (sym u.1.sims) (asked_low T old new first heard log C s u.0 stands a)

      t : (o : Option Standing) × (slice_get B.sims s.0 ≡ Some o)
      t = below_get B.sims s.0 low

      go : (o : Option Standing) → slice_get B.sims s.0 ≡ Some o → GoesOn T first heard new log D B
      go None there = asked_on T old new first heard log C B s u stands a there law D (asks.1 there)
      go (Some c) there = subst (λ (E : CrewSeen). GoesOn T first heard new log E B) (sym (asks.0 c there))
          (asked_later T old new first heard log C B s u stands a c there (next_behind old.entries s.0 (heard s.0) c.place (u.1.each s.0 (Some c) there).0))

  -- or it wasn't sent, and the run ends
  pub asked_not : (D : CrewSeen) (end : ResumeEnd) → AsksAs (Err end) new s C D B → IsStopping ⊥ T first new log D end
  asked_not D end asks =
      let why = asks.2 (Step a.at a.inputs a.advance) _ (ends_with_step T old new first heard log C B s u stands a asks.0) in
      subst (λ (E : CrewSeen). IsStopping ⊥ T first new log E end) (sym asks.1)
      (subst (λ (e : ResumeEnd). IsStopping ⊥ T first new log C e) (sym (why.1 ∙ ap ends.Outcome why.2.1))
      (asked_unsent T old new first heard log C s u.0 stands a (u.1.each s.0 None asks.0) why.2.0 why.2.2))

-- ---- the calls of an ask

module _ (core : CoreState) (s : SimNo) (C : CrewSeen) (B : BehindSeen) where
  pub asks_later : (c : Standing) → slice_get B.sims s.0 ≡ Some (Some c) → AsksAs (Ok tt) core s C C B
  asks_later c there = ((λ d is. refl), (λ none. absurd (none_some (some_same (sym none ∙ there)))))

  pub asks_now : (D : CrewSeen) → slice_get B.sims s.0 ≡ Some None → (r : Result (Unit {0}) ResumeEnd) → OnOk r (IsSentLast core s C D) → IfErr r (λ end. IsUnsentLast end core s C) → OnErr r (D ≡ C) → AsksAs r core s C D B
  asks_now D none (Ok done) sent unsent same = ((λ c is. absurd (none_some (some_same (sym none ∙ is)))), (λ caught. sent))
  asks_now D none (Err end) sent unsent same = (none, same, unsent)

-- ---- nobody is ready

pub waits_so : (old new : CoreState) → AwaitsMessage old new → (SomeReady new.plan new.entries → ⊥) × SomeOpen new.plan new.entries
waits_so old new w = subst (λ (c : CoreState). (SomeReady c.plan c.entries → ⊥) × SomeOpen c.plan c.entries) (sym w.same) (w.nobody, w.waiting)

pub over_so : (old new : CoreState) → IsOver old new → (SomeReady new.plan new.entries → ⊥) × IsDone new.plan (view new.plan new.entries)
over_so old new o = subst (λ (c : CoreState). (SomeReady c.plan c.entries → ⊥) × IsDone c.plan (view c.plan c.entries)) (sym o.same)
    ((λ (r : SomeReady old.plan old.entries). done_is_quiet old.plan (view old.plan old.entries) o.done r.0 r.1 r.2), o.done)
