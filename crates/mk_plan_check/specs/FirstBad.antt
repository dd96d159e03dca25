-- What the answers of `check_plan` mean.
use Rattle.std.specs.Prelude.{◌≡◌, ℕ, zero, suc, Option, Some, None, Result, Ok, Err}
use Rattle.mk_plan.specs.declared.Plan.{Plan}
use Rattle.mk_plan.specs.Plans.{IsWellFormed, HasRanks, HasOneConnectionEach, HasInitialValues, HasKindsOfConnections}
use Rattle.mk_plan_check.specs.declared.PlanFault.{PlanFault}
use Rattle.mk_plan_check.specs.declared.PlanFault.TheVariants.{Bad, Mem}

-- the parts before this one hold, and this one doesn't
abbrev pub IsFirstBad : Plan → ℕ → Type 0
IsFirstBad P zero = ⊥
IsFirstBad P (suc zero) = ¬ IsWellFormed P
IsFirstBad P (suc (suc zero)) = IsWellFormed P × ¬ HasRanks P
IsFirstBad P (suc (suc (suc zero))) = IsWellFormed P × HasRanks P × ¬ HasOneConnectionEach P
IsFirstBad P (suc (suc (suc (suc zero)))) = IsWellFormed P × HasRanks P × HasOneConnectionEach P
    × ¬ HasInitialValues P
IsFirstBad P (suc (suc (suc (suc (suc zero))))) = IsWellFormed P × HasRanks P
    × HasOneConnectionEach P × HasInitialValues P × ¬ HasKindsOfConnections P
IsFirstBad P (suc (suc (suc (suc (suc (suc n)))))) = ⊥

-- what a fault says of the plan
abbrev pub FaultOf : Plan → PlanFault → Type 0
FaultOf P (Bad n) = IsFirstBad P n
FaultOf P Mem = Unit {0}

-- the answer for the first part that fails, or for none
abbrev pub AnswersTo : Option ℕ → Result (Unit {0}) PlanFault → Type 0
AnswersTo first (Ok done) = first ≡ None
AnswersTo first (Err (Bad n)) = first ≡ Some n
AnswersTo first (Err Mem) = Unit {0}
