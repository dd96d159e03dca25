-- What a clock told by the entries of a log.
use Rattle.std.specs.Prelude.{◌≡◌, ℕ, ◌≤◌, Bool, true, false, List, ◌∷◌, ◌++◌, option_map, unwrap_or}
use Rattle.mk_base.specs.Lists.{IsIn}
use Rattle.mk_outside.specs.declared.fleet.LogEntry.{LogEntry}
use Rattle.mk_outside.specs.declared.fleet.LogEntry.TheVariants.{Heard, NotHeard, Said, NotSaid, Ended, Rest, Told, Nap}
use Rattle.mk_outside.specs.Logs.{greatest_told, last_that, told_by}

-- the entry tells of a look at the clock
abbrev pub is_told : LogEntry → Bool
is_told (Heard on bytes) = false
is_told (NotHeard on) = false
is_told (Said on bytes) = false
is_told (NotSaid on) = false
is_told (Ended on) = false
is_told Rest = false
is_told (Told moment) = true
is_told Nap = false

-- what the clock told last, or 0
abbrev pub last_told : List LogEntry → ℕ
last_told log = unwrap_or (option_map told_by (last_that is_told log)) 0

-- the clock never went back
abbrev pub IsRising : List LogEntry → Type 0
IsRising log = (before after : List LogEntry) (n : ℕ) → log ≡ before ++ Told n ∷ after
    → greatest_told before ≤ n

-- the clock told this number or a later one
abbrev pub HasTold : ℕ → List LogEntry → Type 0
HasTold moment log = (n : ℕ) × IsIn (Told n) log × (moment ≤ n)
