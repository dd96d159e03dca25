-- For proofs alone. The bytes of a plain name.
use Rattle.std.specs.Prelude.{ℕ, Bool, ◌==◌, ◌&&◌, not, nat_lt, nat_le}

-- the byte is one of ASCII, and stands as it is within quotes
abbrev pub is_free : ℕ → Bool
is_free b = nat_le 32 b && (nat_lt b 127 && (not (b == 34) && not (b == 92)))
