-- For proofs alone. Which request comes next, by how many were answered.
use Rattle.std.specs.Prelude.{◌≡◌, ◌<◌, ◌≤◌, ◌+◌, ℕ}
use Rattle.mk_setup.specs.declared.stage.Stage.{Stage}
use Rattle.mk_setup.specs.declared.stage.Stage.TheVariants.{Init, Create, Done, Over}

-- of so many simulators and groups, the request after k others is of this stage
abbrev pub IsStage : ℕ → ℕ → ℕ → Stage → Type 0
IsStage sims groups k (Init i) = (k ≡ i) × (i < sims)
IsStage sims groups k (Create i) = (k ≡ sims + i) × (i < groups)
IsStage sims groups k (Done i) = (k ≡ sims + groups + i) × (i < sims)
IsStage sims groups k Over = sims + groups + sims ≤ k
