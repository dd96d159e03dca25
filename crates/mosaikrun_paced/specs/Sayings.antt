-- What is said of how a paced run ended.
use Rattle.std.specs.Prelude.{ℕ, List, Result, Err}
use Rattle.mk_plan.specs.declared.Plan.{Plan}
use Rattle.mk_plan.specs.declared.Entry.{Entry}
use Rattle.mk_pace_laws.specs.declared.end.PaceEnd.{PaceEnd}
use Rattle.mk_pace_laws.specs.declared.end.PaceEnd.TheVariants as ends
use Rattle.mosaikrun_endings.specs.declared.ending.Ending.{Ending}
use Rattle.mosaikrun_endings.specs.declared.ending.Ending.TheVariants.{Late}
use Rattle.mosaikrun_run.specs.declared.sayings.Form.TheVariants.{Report}
use Rattle.mosaikrun_run.specs.Sayings.{saying_of}
use Rattle.mosaikrun_sayings.specs.Sayings.{id_in}

-- what is said of a paced run with this plan and journal, the simulators having these ids: as of a
-- run; or that a Step of a simulator was too late
abbrev pub pace_saying : List (List ℕ) → Plan → List Entry → PaceEnd → Result (List ℕ) Ending
pace_saying ids P J (ends.Outcome outcome) = saying_of Report ids P J outcome
pace_saying ids P J (ends.Late sim time late allowed) = Err
    (Late (id_in ids sim) time late allowed)
