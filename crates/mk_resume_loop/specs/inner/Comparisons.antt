-- For proofs alone. What comparing a message with the saved one comes to.
use Rattle.std.specs.Prelude.{◌≡◌, ◌⊎◌, ℕ}
use Rattle.mk_base.specs.declared.SimNo.{SimNo}
use Rattle.mk_plan.specs.declared.Message.{Message}
use Rattle.mk_run.specs.declared.outcome.Outcome.TheVariants as outcome
use Rattle.mk_resume_loop.specs.declared.ending.ResumeEnd.{ResumeEnd}
use Rattle.mk_resume_loop.specs.declared.ending.ResumeEnd.TheVariants as ends

-- the message that came isn't the saved one, and the run ends by that; or there is no memory to say
-- so
abbrev pub IsApart : ResumeEnd → SimNo → ℕ → Message → Message → Type 0
IsApart end sim number kept heard = (end ≡ ends.Outcome outcome.Mem)
    ⊎ ((kept ≡ heard → ⊥) × (end ≡ ends.Differs sim number kept heard))
