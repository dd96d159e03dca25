-- For proofs alone. What an outcome shows before the crew is stopped, whatever kind of run it is.
use Rattle.std.specs.Prelude.{ℕ, ◌⊎◌, ⊤, List}
use Rattle.mk_base.specs.declared.LinkNo.{LinkNo}
use Rattle.mk_base.specs.Lists.{IsIn}
use Rattle.mk_plan.specs.declared.Plan.{Plan}
use Rattle.mk_plan.specs.declared.Entry.{Entry}
use Rattle.mk_frame.specs.Frames.{IsTooLong}
use Rattle.mk_outside.specs.declared.fleet.LogEntry.{LogEntry}
use Rattle.mk_outside.specs.declared.fleet.LogEntry.TheVariants.{Ended}
use Rattle.mk_session.specs.Fronts.{BeginsGarbled}
use Rattle.mk_sched.specs.declared.faults.CoreFault.{CoreFault}
use Rattle.mk_run.specs.declared.outcome.Outcome.{Outcome}
use Rattle.mk_run.specs.declared.outcome.Outcome.TheVariants as outcome
use Rattle.mk_sched.specs.Answers.{IsLastFaulty}

-- what an outcome shows, by what stands where a fault of the fleet has risen; where all is done;
-- where the journal is full, which is this fault; where the channel of a simulator gave all messages
-- that were taken of it, and what bytes it holds then; and where an item to a simulator has so many
-- bytes, more than a frame may have
abbrev pub EndsAs : (risen done : Type 0) (Full : CoreFault → Type 0)
    (Given : ℕ → LinkNo → Type 0) (held : (i : ℕ) (l : LinkNo) → Given i l → List ℕ)
    (Long : ℕ → ℕ → Type 0) → Plan → List Entry → List LogEntry → Outcome → Type 0
EndsAs risen done Full Given held Long P J log outcome.Done = done
EndsAs risen done Full Given held Long P J log (outcome.Setup f) = ⊥
EndsAs risen done Full Given held Long P J log (outcome.Core f) = IsLastFaulty P J f ⊎ Full f
EndsAs risen done Full Given held Long P J log outcome.Fleet = risen
EndsAs risen done Full Given held Long P J log (outcome.Gone i) = (l : LinkNo) × Given i.0 l
    × IsIn (Ended l) log
EndsAs risen done Full Given held Long P J log (outcome.Garbled i n) = (l : LinkNo)
    × (g : Given i.0 l) × BeginsGarbled (held i.0 l g) n
EndsAs risen done Full Given held Long P J log (outcome.LongFrame i n) = (l : LinkNo)
    × (g : Given i.0 l) × IsTooLong n (held i.0 l g)
EndsAs risen done Full Given held Long P J log (outcome.LongItem i n) = Long i.0 n
EndsAs risen done Full Given held Long P J log outcome.Mem = ⊤
