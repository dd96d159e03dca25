-- For proofs alone. The ends of a paced run that has no journal.
use Rattle.mk_pace_laws.specs.declared.end.PaceEnd.{PaceEnd}
use Rattle.mk_pace_laws.specs.declared.end.PaceEnd.TheVariants as ends
use Rattle.mosaikrun_run.specs.Sayings.{IsHalt}

-- the end is that of a halt
abbrev pub IsHaltEnd : PaceEnd → Type 0
IsHaltEnd (ends.Outcome outcome) = IsHalt outcome
IsHaltEnd (ends.Late sim time late allowed) = ⊥
