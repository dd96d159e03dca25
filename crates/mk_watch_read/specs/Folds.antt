-- The names of rules, and what they make of two numbers.
use Rattle.std.specs.Prelude.{ℕ, ℤ, ◌+ℤ◌, List, codes}
use Rattle.std.specs.Int.{w64, saturate_signed, int_min, int_max}
use Rattle.mk_watch_read.specs.declared.rule.Fold.{Fold}
use Rattle.mk_watch_read.specs.declared.rule.Fold.TheVariants.{Sum, Least, Greatest, Last}

-- the name of each fold's rule
abbrev pub name_of : Fold → List ℕ
name_of Sum = codes "sum"
name_of Least = codes "least"
name_of Greatest = codes "greatest"
name_of Last = codes "last"

-- what each fold makes of two numbers: the sum stays at the bound where it goes beyond 64 bits
abbrev pub value_of : Fold → ℤ → ℤ → ℤ
value_of Sum a b = saturate_signed w64 (a +ℤ b)
value_of Least a b = int_min a b
value_of Greatest a b = int_max a b
value_of Last a b = b
