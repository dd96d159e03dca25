-- For proofs alone. Beside `Saved`, which has what a reader needs.
use Rattle.std.specs.Prelude.{◌≡◌, ◌⊎◌, List}
use Rattle.mk_plan.specs.declared.Plan.{Plan}
use Rattle.mk_plan.specs.declared.Entry.{Entry}
use Rattle.mk_record.specs.ReplayEnd.{ReplayEnd}
use Rattle.mosaikrun_endings.specs.declared.ending.Ending.{Ending}
use Rattle.mosaikrun_endings.specs.declared.ending.Ending.TheVariants as ends
use Rattle.mosaikrun_records.specs.Saved.{IsSaidOf}

-- the ending says how a replay ended that isn't done, or memory is wanting
abbrev pub IsSaidOrMemory : Plan → List Entry → ReplayEnd → Ending → Type 0
IsSaidOrMemory P J end e = (e ≡ ends.Mem) ⊎ IsSaidOf P J end e
