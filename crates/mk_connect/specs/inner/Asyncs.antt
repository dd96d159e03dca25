-- For proofs alone. Beside `Asyncs`, which has what a reader needs.
use Rattle.std.specs.Prelude.{ℕ}
use Rattle.mk_plan.specs.declared.AsyncPair.{AsyncPair}

-- the pair of these simulators' numbers
abbrev pub async_of : ℕ × ℕ → AsyncPair
async_of k = record { from = record { 0 = k.0 }; to = record { 0 = k.1 } }
