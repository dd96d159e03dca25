-- The number that decimal digits spell, and the numbers that 64 bits with a sign hold.
use Rattle.std.specs.Prelude.{ℕ, ◌+◌, ◌*◌, ◌-◌, ℤ, pos, negsuc, ◌≤ℤ◌, Bool, ◌&&◌, nat_le, List}
use Rattle.std.specs.List.{fold}

-- the byte is a decimal digit
abbrev pub is_digit : ℕ → Bool
is_digit b = nat_le 48 b && nat_le b 57

-- the number that these decimal digits spell
abbrev pub number_of : List ℕ → ℕ
number_of digits = fold (λ n d. n * 10 + (d - 48)) 0 digits

-- a number within 64 bits, one of them the sign: from −2^63 to 2^63 − 1
abbrev pub FitsIn64 : ℤ → Type 0
FitsIn64 n = (negsuc 9223372036854775807 ≤ℤ n) × (n ≤ℤ pos 9223372036854775807)
