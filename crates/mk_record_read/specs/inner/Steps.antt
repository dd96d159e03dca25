-- For proofs alone. Beside `Steps`, which has what a reader needs.
use Rattle.std.specs.Prelude.{◌≡◌, Result, IfOk, IfErr, ℕ, ◌+◌, ◌<◌, length, ◌≤◌, Bool, true, false, List, [], map, All, IsSome, ⊤}
use Rattle.mk_plan_check.specs.Tests.{first_bad}
use Rattle.mk_plan.specs.declared.Plan.{Plan}
use Rattle.mk_plan.specs.Plans.{IsValidPlan}
use Rattle.mk_record_read.specs.declared.faults.LineFault.{LineFault}
use Rattle.mk_record_read.specs.declared.faults.LineFault.TheVariants as fault
use Rattle.mk_record_read.specs.declared.faults.RecordFault.{RecordFault}
use Rattle.mk_record_read.specs.declared.faults.RecordFault.TheVariants as record_fault
use Rattle.mk_record_read.specs.declared.saved.Progress.{Progress}
use Rattle.mk_record_read.specs.Reading.{State, Step, Going, Ended, Bad, invalid, overlong}
use Rattle.mk_record_read.specs.Seen.{came}
use Rattle.mk_record_read.specs.inner.Seen.{state_of}
use Rattle.mk_record_read.specs.Steps.{IsKnown}

-- the step that was found from S ends the record, and the same is kept, or goes on with what is
-- kept now
abbrev pub IsStep : State → Step → Bool → Progress → Type 0
IsStep S step true kept = (step ≡ Ended) × (state_of kept ≡ S)
IsStep S step false kept = step ≡ Going (state_of kept)

-- the answer is the fault that was found, but for want of memory
abbrev pub IsBadStep : Step → LineFault → Type 0
IsBadStep step (fault.Bad n) = step ≡ Bad n
IsBadStep step fault.Mem = ⊤

-- what holds of the lines so far: from the first `ask` or `got` line on the plan is valid, before
-- it no message came, and each message is known
pub record IsSound (p : Progress) : Type 0 where
  pub valid : 8 ≤ p.last → IsValidPlan p.plan
  pub early : p.last < 8 → p.arrivals ≡ []
  pub known : All (IsKnown p.plan) (map came p.arrivals)

-- the same after a line; at the record's end the plan is valid in any case
pub record IsSoundAfter (ended : Bool) (p : Progress) : Type 0 where
  pub sound : IsSound p
  pub valid : ended ≡ true → IsValidPlan p.plan

-- what the answer on a line means: what its step makes of the lines before it is kept, or the
-- answer is the step's fault
pub record IsLineTaken (old : Progress) (step : Step) (result : Result Bool LineFault)
    (new : Progress) : Type 0 where
  pub ok : IfOk result (λ ended. IsStep (state_of old) step ended new)
  pub err : IfErr result (IsBadStep step)
  pub sound : IfOk result (λ ended. IsSoundAfter ended new)

-- the answer is that the plan isn't valid, as it isn't, but for want of memory
abbrev pub IsInvalid : Plan → LineFault → Type 0
IsInvalid P (fault.Bad n) = IsSome (first_bad P) × (n ≡ invalid)
IsInvalid P fault.Mem = ⊤

-- the answer is that bytes stand after the `end` line, as they do
abbrev pub IsOverlong : ℕ → List ℕ → RecordFault → Type 0
IsOverlong line bytes (record_fault.Line l n) = (0 < length bytes) × (l ≡ line + 1) × (n ≡ overlong)
IsOverlong line bytes record_fault.Mem = ⊥

-- the fault of the line with this number
abbrev pub IsFaultAt : ℕ → LineFault → RecordFault → Type 0
IsFaultAt line (fault.Bad n) f = f ≡ record_fault.Line line n
IsFaultAt line fault.Mem f = f ≡ record_fault.Mem
