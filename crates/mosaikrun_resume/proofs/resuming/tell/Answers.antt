-- Answers to the goals of `resuming::tell` that the prover leaves.
use Rattle.mosaikrun_run.proofs.Telling.{said_ending, said_text}
use Rattle.mosaikrun_resume.specs.Sayings.{resume_saying}
use Rattle.mosaikrun_resume.proofs.resuming.tell.Goals as goal

pub returns-then-taken-clause-text : goal.returns-then-taken-clause-text
returns-then-taken-clause-text c = said_text (λ v. v.items) (resume_saying c.args.ids.now c.args.plan.now c.args.journal.now.entries c.args.end) c.saying_at-text.result c.recorded.result.text c.recorded.ensures.text c.saying_at-text.ensures.text

pub returns-then-taken-clause-none : goal.returns-then-taken-clause-none
returns-then-taken-clause-none c = said_ending (resume_saying c.args.ids.now c.args.plan.now c.args.journal.now.entries c.args.end) c.saying_at-text.result c.recorded.result.text c.recorded.ensures.text c.saying_at-text.ensures.none
