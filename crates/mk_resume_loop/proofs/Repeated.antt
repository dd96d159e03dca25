-- A message of a simulator that has to send it again: what its comparison with the saved one comes to.
use Rattle.std.proofs.Common.{◌≡◌, inl, inr, ℕ, ◌+◌, ◌≤◌, List, slice_get, Some, None, Result, Ok, Err, OnOk, refl, sym, subst, arith}
use Rattle.mk_base.specs.declared.SimNo.{SimNo}
use Rattle.mk_plan.specs.declared.Message.{Message}
use Rattle.mk_plan.specs.declared.Entry.{Entry}
use Rattle.mk_plan.specs.declared.Entry.TheVariants.{Got}
use Rattle.mk_outside.specs.declared.fleet.LogEntry.{LogEntry}
use Rattle.mk_sched.specs.Cores.{CoreState}
use Rattle.mk_run_crew.specs.Seen.{CrewSeen, crew_of}
use Rattle.mk_run.specs.inner.Underway.{Setting}
use Rattle.mk_resume_links.specs.Rests.{Counts}
use Rattle.mk_resume_loop.specs.declared.behind.Standing.{Standing}
use Rattle.mk_resume_loop.specs.declared.ending.ResumeEnd.{ResumeEnd}
use Rattle.mk_resume_loop.specs.Resumed.{IsCutOff, QueuedAllAt, fault_at}
use Rattle.mk_resume_loop.specs.inner.Comparisons.{IsApart}
use Rattle.mk_resume_loop.specs.inner.Ending.{EndsBy}
use Rattle.mk_resume_loop.specs.inner.Turns.{IsDue, IsPast, IsSized, IsStopping, PassesAs, TakesAs, Walk}
use Rattle.mk_resume_loop.specs.inner.Underway.{BehindSeen, StandsAt}
use Rattle.mk_resume_loop.proofs.Endings.{untaken_ends}
use Rattle.mk_resume_loop.proofs.Numbered.{entry_there, next_number}
use Rattle.mk_resume_loop.proofs.Passed.{again_not, again_on, differs_on}
use Rattle.mk_resume_loop.proofs.Repeating.{again_due}

module _ (T : Setting) (core : CoreState) (first : List Entry) (heard : Counts) (log : List LogEntry) (C : CrewSeen) (B : BehindSeen) (s : SimNo) (m : Message) (c : Standing) (there : slice_get B.sims s.0 ≡ Some (Some c)) (h : IsPast T first heard core log s m C B) where
  stand : StandsAt core.plan core.entries s.0 (heard s.0) (Some c)
  stand = h.1.each s.0 (Some c) there

  -- the saved one stands at its place
  pub saved_there : (x : SimNo) × (k : Message) × (slice_get core.entries c.place ≡ Some (Got x k))
  saved_there = entry_there core.entries s.0 (heard s.0) c.place stand.0

  -- and is of this number
  pub saved_number : c.gone ≡ heard s.0 + heard s.0 + 2
  saved_number = next_number core.plan core.entries s.0 (heard s.0) c h.0.resuming.stands.orderly.0 h.0.resuming.no_fault stand

  pub some_gone : 2 ≤ c.gone
  some_gone = omega (arith, saved_number)

  pub all_sized : IsSized core B
  all_sized = record { sims = h.1.sims; indexed = h.1.indexed }

  -- it came again: its simulator is due what stands behind it
  pub due_again : (x : SimNo) (kept : Message) → slice_get core.entries c.place ≡ Some (Got x kept) → kept ≡ m → (R : Walk) × IsDue R core C s.0 c.gone c.id
  due_again x kept at same = (_, again_due T first heard core log s m C h.0 c stand x (subst (λ (k : Message). slice_get core.entries c.place ≡ Some (Got x k)) same at))

-- another came
pub apart_so : (core : CoreState) (C : CrewSeen) (B : BehindSeen) (s : SimNo) (m : Message) (c : Standing) (there : slice_get B.sims s.0 ≡ Some (Some c)) (x : SimNo) (kept : Message) → slice_get core.entries c.place ≡ Some (Got x kept) → (number : ℕ) → ((n : ℕ) → c.gone ≡ n + n + 2 → number ≡ n)
    → (end : ResumeEnd) → IsApart end s number kept m → TakesAs (Err end) s m core C B core C B
apart_so core C B s m c there x kept at number counts end (inl mem) = λ T first heard log h.
    (heard, untaken_ends T first ⊥ core core heard log s m (crew_of C) C.sims h.0 end (subst (λ (e : ResumeEnd). None ≡ fault_at e) (sym mem) refl) (λ items. subst (λ (e : ResumeEnd). QueuedAllAt e items items) (sym mem) tt) (λ broken. absurd (subst IsCutOff mem broken)) (subst (EndsBy ⊥ T core.plan first core.entries heard log (crew_of C)) (sym mem) tt))
apart_so core C B s m c there x kept at number counts end (inr t) = λ T first heard log h.
    subst (IsStopping ⊥ T first core log C) (sym t.1) (differs_on T core first heard log C C B B s m h c there x kept at t.0 number (counts (heard s.0) (saved_number T core first heard log C B s m c there h)))

-- it came again, and what is free then was sent, or not
pub again_so : (core : CoreState) (C D : CrewSeen) (B E : BehindSeen) (s : SimNo) (m : Message) (c : Standing) (there : slice_get B.sims s.0 ≡ Some (Some c)) (x : SimNo) (kept : Message) → slice_get core.entries c.place ≡ Some (Got x kept) → kept ≡ m → core.ended ≡ None
    → (r : Result (Unit {0}) ResumeEnd) → PassesAs r core s.0 c.gone c.id C D E → OnOk r (IsSized core E) → ((i : ℕ) → (i ≡ s.0 → ⊥) → slice_get E.sims i ≡ slice_get B.sims i) → TakesAs r s m core C B core D E
again_so core C D B E s m c there x kept at same going (Ok done) passes sized others =
    (going, λ T first heard log h. again_on T core first heard log C D B E s m h c there x (subst (λ (k : Message). slice_get core.entries c.place ≡ Some (Got x k)) same at) passes sized others)
again_so core C D B E s m c there x kept at same going (Err end) passes sized others =
    λ T first heard log h. again_not T core first heard log C D B E s m h c there x (subst (λ (k : Message). slice_get core.entries c.place ≡ Some (Got x k)) same at) end passes
