-- What an outcome shows stays shown, whatever rises besides.
use Rattle.std.proofs.Common.{ℕ, List}
use Rattle.mk_base.specs.declared.LinkNo.{LinkNo}
use Rattle.mk_plan.specs.declared.Plan.{Plan}
use Rattle.mk_plan.specs.declared.Entry.{Entry}
use Rattle.mk_outside.specs.declared.fleet.LogEntry.{LogEntry}
use Rattle.mk_sched.specs.declared.faults.CoreFault.{CoreFault}
use Rattle.mk_run.specs.declared.outcome.Outcome.{Outcome}
use Rattle.mk_run.specs.declared.outcome.Outcome.TheVariants as outcome
use Rattle.mk_run.specs.inner.Shown.{EndsAs}

pub ends_as : (some all done : Type 0) (Full : CoreFault → Type 0) (Given : ℕ → LinkNo → Type 0) (held : (i : ℕ) (l : LinkNo) → Given i l → List ℕ) (Long : ℕ → ℕ → Type 0) (P : Plan) (J : List Entry) (log : List LogEntry) → (some → all)
    → (e : Outcome) → EndsAs some done Full Given held Long P J log e → EndsAs all done Full Given held Long P J log e
ends_as some all done Full Given held Long P J log more outcome.Done is = is
ends_as some all done Full Given held Long P J log more (outcome.Setup f) is = is
ends_as some all done Full Given held Long P J log more (outcome.Core f) is = is
ends_as some all done Full Given held Long P J log more outcome.Fleet is = more is
ends_as some all done Full Given held Long P J log more (outcome.Gone i) is = is
ends_as some all done Full Given held Long P J log more (outcome.Garbled i n) is = is
ends_as some all done Full Given held Long P J log more (outcome.LongFrame i n) is = is
ends_as some all done Full Given held Long P J log more (outcome.LongItem i n) is = is
ends_as some all done Full Given held Long P J log more outcome.Mem is = is
