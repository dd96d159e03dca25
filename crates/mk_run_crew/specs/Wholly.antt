-- Scenarios whose simulators are all within the program, and why a handshake with them ends early.
use Rattle.std.specs.Prelude.{Bool, ⊤}
use Rattle.std.specs.List.{list_all}
use Rattle.mk_scenario.specs.declared.parts.SimPart.{SimPart}
use Rattle.mk_scenario.specs.declared.parts.Scenario.{Scenario}
use Rattle.mk_run_laws.specs.Handshake.{is_local}
use Rattle.mk_run_crew.specs.declared.halt.Halt.{Halt}
use Rattle.mk_run_crew.specs.declared.halt.Halt.TheVariants as halt

-- each simulator runs within the program
abbrev pub is_wholly_within : Scenario → Bool
is_wholly_within S = list_all (λ (s : SimPart). is_local s.begin) S.sims

-- what may end a handshake without links: a fault of it, or want of memory
abbrev pub IsWithinHalt : Halt → Type 0
IsWithinHalt (halt.Setup fault) = ⊤
IsWithinHalt halt.Fleet = ⊥
IsWithinHalt (halt.Gone sim) = ⊥
IsWithinHalt (halt.Garbled sim test) = ⊥
IsWithinHalt (halt.LongFrame sim n) = ⊥
IsWithinHalt (halt.LongItem sim n) = ⊥
IsWithinHalt halt.Mem = ⊤
