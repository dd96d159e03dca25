-- What is said of how a resumed run ended.
use Rattle.std.specs.Prelude.{ℕ, List, Result, Err}
use Rattle.mk_plan.specs.declared.Plan.{Plan}
use Rattle.mk_plan.specs.declared.Entry.{Entry}
use Rattle.mk_resume_loop.specs.declared.ending.ResumeEnd.{ResumeEnd}
use Rattle.mk_resume_loop.specs.declared.ending.ResumeEnd.TheVariants as ends
use Rattle.mosaikrun_endings.specs.declared.ending.Ending.{Ending}
use Rattle.mosaikrun_endings.specs.declared.ending.Ending.TheVariants.{Differs, OtherMessage, OtherPlan}
use Rattle.mosaikrun_run.specs.declared.sayings.Form.TheVariants.{Report}
use Rattle.mosaikrun_run.specs.Sayings.{saying_of}
use Rattle.mosaikrun_sayings.specs.Sayings.{id_in}

-- what is said of a resumed run with this plan and journal, the simulators having these ids: as of a
-- run; or that the record's plan is another, by the first part that differs; that an entry of the
-- record is another; or that a simulator's message is
abbrev pub resume_saying : List (List ℕ) → Plan → List Entry → ResumeEnd → Result (List ℕ) Ending
resume_saying ids P J (ends.Outcome o) = saying_of Report ids P J o
resume_saying ids P J (ends.OtherPlan part) = Err (OtherPlan part)
resume_saying ids P J (ends.OtherEntry entry) = Err (Differs entry)
resume_saying ids P J (ends.Differs sim place kept heard) = Err (OtherMessage (id_in ids sim) place)
