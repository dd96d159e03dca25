-- For proofs alone. Beside `Steps`, which has what a reader needs.
use Rattle.std.specs.Prelude.{ℤ, Option, Some, None}
use Rattle.mk_local.specs.Steps.{earlier}

-- the same, where the second may be missing too
abbrev pub earlier_next : Option ℤ → Option ℤ → Option ℤ
earlier_next best None = best
earlier_next best (Some n) = earlier best n
