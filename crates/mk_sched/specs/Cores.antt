-- What a core is seen as, what stands of every core, and which messages it takes.
use Rattle.std.specs.Prelude.{◌≤◌, List, length, Option}
use Rattle.mk_plan.specs.declared.Plan.{Plan}
use Rattle.mk_plan.specs.declared.Entry.{Entry}
use Rattle.mk_plan.specs.Plans.{IsValidPlan}
use Rattle.mk_plan.specs.Orderly.{IsOrderly}
use Rattle.mk_plan.specs.Agreement.{Agrees}
use Rattle.mk_sched.specs.declared.faults.Ended.{Ended}

-- its plan, the entries of its journal, and what it answers from now on, if it has ended
pub record CoreState : Type 0 where
  pub plan : Plan
  pub entries : List Entry
  pub ended : Option Ended

-- the plan is valid; the journal is orderly, agrees with sequential execution, and keeps to the
-- limit of entries
pub record Stands (P : Plan) (J : List Entry) : Type 0 where
  pub valid : IsValidPlan P
  pub orderly : IsOrderly P J
  pub agrees : Agrees P J
  pub within : length J ≤ P.entries
