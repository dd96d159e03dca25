-- For proofs alone. What sending a Step that was asked comes to.
use Rattle.std.specs.Prelude.{◌≡◌, ℕ, None, Some, Result, Ok, Err, slice_get}
use Rattle.mk_base.specs.declared.SimNo.{SimNo}
use Rattle.mk_plan.specs.declared.Item.{Item}
use Rattle.mk_sched.specs.Cores.{CoreState}
use Rattle.mk_run_crew.specs.Calls.{SendsAs}
use Rattle.mk_run_crew.specs.Seen.{CrewSeen}
use Rattle.mk_run.specs.declared.outcome.Outcome.{Outcome}
use Rattle.mk_run.specs.inner.Sendings.{EndsWithItem, IsUnsent}
use Rattle.mk_resume_loop.specs.declared.behind.Standing.{Standing}
use Rattle.mk_resume_loop.specs.declared.ending.ResumeEnd.{ResumeEnd}
use Rattle.mk_resume_loop.specs.declared.ending.ResumeEnd.TheVariants as ends
use Rattle.mk_resume_loop.specs.inner.Underway.{BehindSeen}

-- the item that the journal ends with was sent
abbrev pub IsSentLast : CoreState → SimNo → CrewSeen → CrewSeen → Type 0
IsSentLast core s C D = (item : Item) (id : ℕ) → EndsWithItem core s item id
    → SendsAs s.0 item id C D

-- why it wasn't
abbrev pub IsUnsentLast : ResumeEnd → CoreState → SimNo → CrewSeen → Type 0
IsUnsentLast end core s C = (item : Item) (id : ℕ) → EndsWithItem core s item id → (o : Outcome)
    × (end ≡ ends.Outcome o) × IsUnsent o s.0 item C

-- the Step that the journal ends with was sent to a simulator that has caught up, and one that is
-- behind stands as it was; or it wasn't sent, and the crew is as it was
abbrev pub AsksAs : Result (Unit {0}) ResumeEnd → CoreState → SimNo → CrewSeen → CrewSeen
    → BehindSeen → Type 0
AsksAs (Ok done) core s C D B = ((c : Standing) → slice_get B.sims s.0 ≡ Some (Some c) → D ≡ C)
    × (slice_get B.sims s.0 ≡ Some None → IsSentLast core s C D)
AsksAs (Err end) core s C D B = (slice_get B.sims s.0 ≡ Some None) × (D ≡ C)
    × IsUnsentLast end core s C
