-- For proofs alone. What needs no escape within quotes.
use Rattle.std.specs.Prelude.{ℕ, Bool, ◌==◌, ◌&&◌, not, nat_lt}

-- the byte stands as it is within quotes
abbrev pub stands_so : ℕ → Bool
stands_so b = not (nat_lt b 32) && (not (b == 34) && not (b == 92))
