-- What is said of a fault of the core, by which a replay or a run ended.
use Rattle.std.specs.Prelude.{ℕ, List, [], ◌-◌, length, slice_get, unwrap_or, option_map}
use Rattle.mk_plan.specs.declared.Plan.{Plan}
use Rattle.mk_plan.specs.declared.Message.TheVariants as messages
use Rattle.mk_plan.specs.declared.Entry.{Entry}
use Rattle.mk_plan.specs.declared.Entry.TheVariants as entries
use Rattle.mk_plan.specs.Plans.{sim_id}
use Rattle.mk_sched.specs.declared.faults.CoreFault.{CoreFault}
use Rattle.mk_sched.specs.declared.faults.CoreFault.TheVariants as core
use Rattle.mosaikrun_endings.specs.declared.ending.Ending.{Ending}
use Rattle.mosaikrun_endings.specs.declared.ending.Ending.TheVariants.{Wrong, Failed, LoopLimit, Entries}

-- the text of a failure reply, and the empty text of another entry
abbrev pub failure_in : Entry → List ℕ
failure_in (entries.Got s (messages.Failure id text)) = text
failure_in (entries.Got s (messages.Ask id name args named)) = []
failure_in (entries.Got s (messages.Success id content)) = []
failure_in (entries.Sent s item) = []

-- the text of the failure reply that a journal ends with, and the empty text where it ends
-- otherwise, so that any fault is said of any journal
abbrev pub last_failure : List Entry → List ℕ
last_failure J = unwrap_or (option_map failure_in (slice_get J (length J - 1))) []

-- what is said of a fault of the core
abbrev pub stop_of : Plan → List Entry → CoreFault → Ending
stop_of P J (core.Wrong s place cause) = Wrong (sim_id P s.0) place cause
stop_of P J (core.Failed s place) = Failed (sim_id P s.0) (last_failure J)
stop_of P J (core.LoopLimit s time) = LoopLimit (sim_id P s.0) time
stop_of P J (core.TooLong count) = Entries count
