-- What is said of an outcome that is neither Done nor a fault of the core.
use Rattle.std.proofs.Common.{◌≡◌, ℕ, List, Err, refl}
use Rattle.mk_plan.specs.declared.Plan.{Plan}
use Rattle.mk_plan.specs.declared.Entry.{Entry}
use Rattle.mk_sched.specs.declared.faults.CoreFault.{CoreFault}
use Rattle.mk_run_crew.specs.declared.halt.Halt.{Halt}
use Rattle.mk_run_crew.specs.declared.halt.Halt.TheVariants as halt
use Rattle.mk_run.specs.declared.outcome.Outcome.{Outcome}
use Rattle.mk_run.specs.declared.outcome.Outcome.TheVariants as outcome
use Rattle.mk_run.specs.Outcomes.{outcome_of}
use Rattle.mosaikrun_run.specs.declared.sayings.Form.{Form}
use Rattle.mosaikrun_run.specs.Sayings.{IsHalt, halt_ending, saying_of}

-- it is that of a halt
pub halt_of_rest : (end : Outcome) → (end ≡ outcome.Done → ⊥) → ((fault : CoreFault) → end ≡ outcome.Core fault → ⊥) → IsHalt end
halt_of_rest outcome.Done not_done not_core = absurd (not_done refl)
halt_of_rest (outcome.Setup e) not_done not_core = (halt.Setup e, refl)
halt_of_rest (outcome.Core f) not_done not_core = absurd (not_core f refl)
halt_of_rest outcome.Fleet not_done not_core = (halt.Fleet, refl)
halt_of_rest (outcome.Gone sim) not_done not_core = (halt.Gone sim, refl)
halt_of_rest (outcome.Garbled sim test) not_done not_core = (halt.Garbled sim test, refl)
halt_of_rest (outcome.LongFrame sim n) not_done not_core = (halt.LongFrame sim n, refl)
halt_of_rest (outcome.LongItem sim n) not_done not_core = (halt.LongItem sim n, refl)
halt_of_rest outcome.Mem not_done not_core = (halt.Mem, refl)

-- and what is said of it is what is said of that halt
pub said_of_halt : (form : Form) (ids : List (List ℕ)) (P : Plan) (J : List Entry) (h : Halt) → saying_of form ids P J (outcome_of h) ≡ Err (halt_ending ids h)
said_of_halt form ids P J (halt.Setup e) = refl
said_of_halt form ids P J halt.Fleet = refl
said_of_halt form ids P J (halt.Gone sim) = refl
said_of_halt form ids P J (halt.Garbled sim test) = refl
said_of_halt form ids P J (halt.LongFrame sim n) = refl
said_of_halt form ids P J (halt.LongItem sim n) = refl
said_of_halt form ids P J halt.Mem = refl
