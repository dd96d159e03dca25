-- For proofs alone. The ends of a resumed run that has no journal.
use Rattle.std.specs.Prelude.{⊤}
use Rattle.mk_resume_loop.specs.declared.ending.ResumeEnd.{ResumeEnd}
use Rattle.mk_resume_loop.specs.declared.ending.ResumeEnd.TheVariants as ends
use Rattle.mosaikrun_run.specs.Sayings.{IsHalt}

-- the handshake was halted, memory was wanting, or the record is none of this run
abbrev pub IsRefusalEnd : ResumeEnd → Type 0
IsRefusalEnd (ends.Outcome o) = IsHalt o
IsRefusalEnd (ends.OtherPlan n) = ⊤
IsRefusalEnd (ends.OtherEntry n) = ⊤
IsRefusalEnd (ends.Differs sim place kept heard) = ⊥
