-- For proofs alone. Beside `Calls`, which has what a reader needs.
use Rattle.mk_base.specs.declared.SimNo.{SimNo}
use Rattle.mk_launch.specs.declared.faults.StartFault.{StartFault}
use Rattle.mk_launch.specs.declared.faults.StartFault.TheVariants as start_fault
use Rattle.mk_session.specs.declared.answers.QueueFault.{QueueFault}
use Rattle.mk_session.specs.declared.answers.QueueFault.TheVariants as queue_fault
use Rattle.mk_run_crew.specs.declared.halt.Halt.{Halt}
use Rattle.mk_run_crew.specs.declared.halt.Halt.TheVariants as halt

-- why the links don't take an item to this simulator
abbrev pub unsent : SimNo → QueueFault → Halt
unsent sim (queue_fault.TooLong n) = halt.LongItem sim n
unsent sim queue_fault.Mem = halt.Mem

-- why a start failed
abbrev pub start_halt : StartFault → Halt
start_halt (start_fault.Failed sim) = halt.Fleet
start_halt start_fault.Mem = halt.Mem
