-- For proofs alone. Beside `Inputs`, which has what a reader needs.
use Rattle.std.specs.Prelude.{◌≡◌, ℕ, ◌<◌, List, length, slice_get, Some}
use Rattle.std.specs.Fmt.{decimal}
use Rattle.mk_plan.specs.declared.Input.{Input}
use Rattle.mk_local.specs.declared.inputs.Taken.{Taken}
use Rattle.mk_local.specs.declared.turn.Turn.{Turn}
use Rattle.mk_local.specs.Inputs.{seen, sum_of}

-- what the entity at place k takes
abbrev pub taken_at : Turn → List Input → ℕ → Taken
taken_at T inputs k = record { seen = seen T (decimal k) inputs; sum = sum_of T (decimal k) inputs }

-- these are what the first entities take, in order
abbrev pub AreTaken : Turn → List Input → List Taken → Type 0
AreTaken T inputs all = (k : ℕ) → k < length all → slice_get all k ≡ Some (taken_at T inputs k)
