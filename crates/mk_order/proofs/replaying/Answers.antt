-- Answers to the goals of `replaying` that the prover leaves.
use Rattle.mk_plan.specs.Ready.{IsReady}
use Rattle.mk_plan.specs.Advance.{IsAdvance}
use Rattle.mk_order.proofs.EagerJournals.{eager_fixed, advance_once}
use Rattle.mk_order.proofs.replaying.Goals as goal

pub returns : goal.returns
returns c = eager_fixed IsReady IsAdvance c.args.plan.now (λ V s x r. r) (advance_once c.args.plan.now)
