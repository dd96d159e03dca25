-- For proofs alone. What holds of the simulators within the program and of the replies that are
-- kept.
use Rattle.std.specs.Prelude.{◌≡◌, ℕ, ℤ, Option, Some, None, ⊤}
use Rattle.mk_base.specs.Lists.{Each}
use Rattle.mk_base.specs.Numbers.{FitsIn64}
use Rattle.mk_plan.specs.Journals.{Arrival}
use Rattle.mk_local.specs.declared.entity.Entity.{Entity}
use Rattle.mk_local.specs.Simulators.{Simulator}
use Rattle.mk_run_local.specs.Seen.{WithinState, sim_at}
use Rattle.mk_run_local.specs.Calls.{IsFitSuccess}

-- the number is within 64 bits, if it is there
abbrev pub IsShortIfThere : Option ℤ → Type 0
IsShortIfThere None = ⊤
IsShortIfThere (Some n) = FitsIn64 n

-- an entity's numbers are within 64 bits
pub record IsFitEntity (e : Entity) : Type 0 where
  pub setting : FitsIn64 e.setting
  pub state : FitsIn64 e.state
  pub out : IsShortIfThere e.out
  pub at : IsShortIfThere e.at

-- and so are those of all entities of a simulator
abbrev pub IsFit : Simulator → Type 0
IsFit L = Each IsFitEntity L.entities

-- the numbers of each simulator are within 64 bits, and each reply that is kept is a success whose
-- whole numbers are in range
pub record AreFit (W : WithinState) : Type 0 where
  pub sims : (i : ℕ) (L : Simulator) → sim_at W i ≡ Some L → IsFit L
  pub kept : Each (λ (a : Arrival). IsFitSuccess a.message) W.kept
