-- How the program ends otherwise than with a text: the statuses and the lines.
use Rattle.std.specs.Prelude.{ℕ, ◌||◌, List, ◌∷◌, ◌++◌, map, flat_map, ◌==◌, if◌then◌else◌, codes, Result, Ok, Err}
use Rattle.std.specs.Fmt.{decimal, signed_decimal}
use Rattle.mosaikrun_endings.specs.declared.ending.Ending.{Ending}
use Rattle.mosaikrun_endings.specs.declared.ending.Ending.TheVariants.{Usage, Missing, TooLong, Scenario, Watches, Cycle, Launch, Setup, Record, Wrong, Failed, LoopLimit, Link, Short, Differs, OtherPlan, OtherMessage, Late, Fleet, Folder, Output, Entries, LongItem, Mem}
use Rattle.mosaikrun_endings.specs.Launches.{text_of_launch}
use Rattle.mosaikrun_endings.specs.Links.{text_of_link}
use Rattle.mosaikrun_endings.specs.Scenarios.{text_of_scenario}
use Rattle.mosaikrun_endings.specs.Setups.{text_of_setup}
use Rattle.mosaikrun_endings.specs.Watches.{text_of_watches}

-- what is said of an ending
abbrev pub text_of : Ending → List ℕ
text_of Usage = codes
    "usage: run SCENARIO [--record FILE] or replay RECORD [--order N] or check SCENARIO or demo N or migrate OLD NEW or resume SCENARIO RECORD [--record FILE] or watch RECORD SPEC or blame FIRST SECOND or paced SCENARIO FACTOR [--strict MS] [--record FILE]"
text_of (Missing name) = name ++ codes ": no such file"
text_of (TooLong name count) = name ++ codes ": " ++ decimal count
    ++ codes " bytes, limit 536870912"
text_of (Scenario fault) = text_of_scenario fault
text_of (Watches fault) = text_of_watches fault
text_of (Cycle sims) = codes "connect 8: cycle" ++ flat_map (λ id. 32 ∷ id) sims
text_of (Launch sim fault) = text_of_launch sim fault
text_of (Setup setup) = text_of_setup setup
text_of (Record line fault) = codes "record: line " ++ decimal line ++ codes " fault "
    ++ decimal fault
text_of (Wrong sim place cause) = codes "run 1: " ++ sim ++ codes " message " ++ decimal place
    ++ codes " cause " ++ decimal cause
text_of (Failed sim text) = codes "run 2: " ++ sim ++ codes " failed: " ++ text
text_of (LoopLimit sim time) = codes "run 3: " ++ sim ++ codes " loop limit at "
    ++ signed_decimal time
text_of (Link sim fault) = text_of_link sim fault
text_of (Short outstanding) = codes "run 8: record ends with " ++ decimal outstanding
    ++ codes " outstanding"
text_of (Differs entry) = codes "run 9: record entry " ++ decimal entry ++ codes " differs"
text_of (OtherPlan part) = codes "run 10: record of another plan (" ++ decimal part ++ codes ")"
text_of (OtherMessage sim place) = codes "run 11: " ++ sim ++ codes " message " ++ decimal place
    ++ codes " differs"
text_of (Late sim time late allowed) = codes "run 12: " ++ sim ++ codes " step at "
    ++ signed_decimal time ++ codes " late by " ++ decimal late ++ codes " ms, allowed "
    ++ decimal allowed
text_of Fleet = codes "outside: fleet"
text_of Folder = codes "outside: folder"
text_of Output = codes "outside: output"
text_of (Entries entries) = codes "limit: " ++ decimal entries ++ codes " entries"
text_of (LongItem sim length) = codes "limit: " ++ sim ++ codes " message of " ++ decimal length
    ++ codes " bytes"
text_of Mem = codes "out of memory"

-- a line feed or carriage return as a space
abbrev pub unbroken : ℕ → ℕ
unbroken b = if (b == 10) || (b == 13) then 32 else b

-- the line of an ending, with its line feed
abbrev pub line_of : Ending → List ℕ
line_of ending = codes "mosaikrun: " ++ map unbroken (text_of ending) ++ codes "\n"

-- the status of an ending
abbrev pub status_of : Ending → ℕ
status_of Usage = 2
status_of (Missing name) = 3
status_of (TooLong name count) = 3
status_of (Scenario fault) = 3
status_of (Watches fault) = 3
status_of (Cycle sims) = 3
status_of (Launch sim fault) = 3
status_of (Setup setup) = 4
status_of (Record line fault) = 3
status_of (Wrong sim place cause) = 5
status_of (Failed sim text) = 5
status_of (LoopLimit sim time) = 5
status_of (Link sim fault) = 5
status_of (Short outstanding) = 5
status_of (Differs entry) = 5
status_of (OtherPlan part) = 5
status_of (OtherMessage sim place) = 5
status_of (Late sim time late allowed) = 5
status_of Fleet = 6
status_of Folder = 6
status_of Output = 6
status_of (Entries entries) = 7
status_of (LongItem sim length) = 7
status_of Mem = 8

-- the status of a text that is printed, or of an ending
abbrev pub outcome_status : Result (List ℕ) Ending → ℕ
outcome_status (Ok text) = 0
outcome_status (Err e) = status_of e
