-- What stands at each byte of a command's template.
use Rattle.std.specs.Prelude.{ℕ, ◌+◌, ◌-◌, ◌==◌, ◌||◌, zero, suc, List, [], ◌∷◌, Option, Some, None, Result, Ok, Err, if◌then◌else◌, nat_eq, codes}
use Rattle.std.specs.List.{starts_with}
use Rattle.std.specs.Option.{option_map_or}
use Rattle.mk_base.specs.Verdicts.{put_first}
use Rattle.mk_launch.specs.declared.faults.LaunchFault.{LaunchFault}
use Rattle.mk_launch.specs.declared.faults.LaunchFault.TheVariants.{BadPlace}

-- what a word is made of: bytes, and places at which the address stands
pub data Sign : Type 0 where
  Byte : ℕ → Sign
  Address : Sign

-- what a template is made of: spaces; quotation marks, each with the byte at which it stands; and
-- signs
pub data Mark : Type 0 where
  Space : Mark
  Quote : ℕ → ℕ → Mark
  Plain : Sign → Mark

-- what a byte stands for that is no per cent sign, at byte i
abbrev pub mark_of : ℕ → ℕ → Mark
mark_of i b = if b == 32 then Space else if (b == 34) || (b == 39) then Quote b i
    else Plain (Byte b)

-- what the bytes begin with, at byte i, and how many of them it takes; none where they begin with a
-- per cent sign, but neither with `%(addr)s` nor with `%%`
abbrev pub mark_at : ℕ → ℕ → List ℕ → Option (Mark × ℕ)
mark_at i b more =
    if b == 37
    then if starts_with nat_eq (b ∷ more) (codes "%(addr)s") then Some (Plain Address, 8)
    else if starts_with nat_eq (b ∷ more) (codes "%%") then Some (Plain (Byte 37), 2) else None
    else Some (mark_of i b, 1)

-- the marks of a text that begins at byte i, its first bytes, so many, being of a mark that was
-- read before; or the first per cent sign that is none
abbrev pub marks : ℕ → ℕ → List ℕ → Result (List Mark) LaunchFault
marks i passed [] = Ok []
marks i zero (b ∷ more) = option_map_or (λ (m : Mark
    × ℕ). put_first m.0 (marks (i + 1) (m.1 - 1) more)) (mark_at i b more) (Err (BadPlace i))
marks i (suc passed) (b ∷ more) = marks (i + 1) passed more
