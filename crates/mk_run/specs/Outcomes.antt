-- How a run ends that its crew ends, and one without links.
use Rattle.std.specs.Prelude.{⊤}
use Rattle.mk_run_crew.specs.declared.halt.Halt.{Halt}
use Rattle.mk_run_crew.specs.declared.halt.Halt.TheVariants as halt
use Rattle.mk_run.specs.declared.outcome.Outcome.{Outcome}
use Rattle.mk_run.specs.declared.outcome.Outcome.TheVariants as outcome

-- the outcome that a halt of the crew is
abbrev pub outcome_of : Halt → Outcome
outcome_of (halt.Setup fault) = outcome.Setup fault
outcome_of halt.Fleet = outcome.Fleet
outcome_of (halt.Gone sim) = outcome.Gone sim
outcome_of (halt.Garbled sim test) = outcome.Garbled sim test
outcome_of (halt.LongFrame sim n) = outcome.LongFrame sim n
outcome_of (halt.LongItem sim n) = outcome.LongItem sim n
outcome_of halt.Mem = outcome.Mem

-- what may end a run whose simulators are all within the program: that nothing is left to do, a
-- fault of the handshake, one of the core, or want of memory
abbrev pub IsWithinOutcome : Outcome → Type 0
IsWithinOutcome outcome.Done = ⊤
IsWithinOutcome (outcome.Setup fault) = ⊤
IsWithinOutcome (outcome.Core fault) = ⊤
IsWithinOutcome outcome.Fleet = ⊥
IsWithinOutcome (outcome.Gone sim) = ⊥
IsWithinOutcome (outcome.Garbled sim test) = ⊥
IsWithinOutcome (outcome.LongFrame sim n) = ⊥
IsWithinOutcome (outcome.LongItem sim n) = ⊥
IsWithinOutcome outcome.Mem = ⊤
