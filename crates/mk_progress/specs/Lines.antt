-- The texts of the line of progress, byte by byte.
use Rattle.std.specs.Prelude.{ℕ, ◌-◌, ℤ, List, ◌++◌, length, replicate, codes}
use Rattle.std.specs.Fmt.{decimal, signed_decimal}
use Rattle.mk_progress.specs.declared.tally.Tally.{Tally}
use Rattle.mk_progress.specs.Tallies.{rate}

-- so many blanks
abbrev pub blanks : ℕ → List ℕ
blanks count = replicate count 32

-- what a line tells: the greatest time of a Step, the end, the Steps, and how many they are a second
abbrev pub told_text : ℤ → Tally → ℕ → List ℕ
told_text until tally passed = codes "time " ++ signed_decimal tally.time
    ++ codes " of " ++ signed_decimal until
    ++ codes ", " ++ decimal tally.steps
    ++ codes " steps, " ++ decimal (rate tally.steps passed)
    ++ codes " a second"

-- a line over one of that width: blanks stand after it as far as that one reached
abbrev pub line_text : ℕ → ℤ → Tally → ℕ → List ℕ
line_text width until tally passed = codes "\r" ++ told_text until tally passed
    ++ blanks (width - length (told_text until tally passed))

-- what takes a line of that width away
abbrev pub blank_text : ℕ → List ℕ
blank_text width = codes "\r" ++ blanks width ++ codes "\r"
