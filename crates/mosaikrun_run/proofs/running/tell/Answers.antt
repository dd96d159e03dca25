-- Answers to the goals of `running::tell` that the prover leaves.
use Rattle.mosaikrun_run.specs.Sayings.{saying_of}
use Rattle.mosaikrun_run.proofs.Telling.{said_ending, said_text}
use Rattle.mosaikrun_run.proofs.running.tell.Goals as goal

pub returns-clause-text : goal.returns-clause-text
returns-clause-text c = said_text (λ v. v.items) (saying_of c.args.form c.args.ids.now c.args.plan.now c.args.journal.now.entries c.args.outcome) c.saying-text.result c.recorded.result.text c.recorded.ensures.text c.saying-text.ensures.text

pub returns-clause-none : goal.returns-clause-none
returns-clause-none c = said_ending (saying_of c.args.form c.args.ids.now c.args.plan.now c.args.journal.now.entries c.args.outcome) c.saying-text.result c.recorded.result.text c.recorded.ensures.text c.saying-text.ensures.none
