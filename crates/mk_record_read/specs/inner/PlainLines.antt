-- For proofs alone. The numbers of a plain line.
use Rattle.std.specs.Prelude.{ℕ, ◌<◌, ◌^◌, List}
use Rattle.mk_base.specs.Lists.{Each}

-- each number has at most 18 digits
abbrev pub AreSmall : List ℕ → Type 0
AreSmall ns = Each (λ n. n < 10 ^ 18) ns
