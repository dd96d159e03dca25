-- Answers to the goals of `first::item_match` that the prover leaves.
use Rattle.std.proofs.Common.{sym, subst}
use Rattle.mk_plan.specs.declared.Item.{Item}
use Rattle.mk_plan.specs.declared.Entry.TheVariants.{Sent}
use Rattle.mk_record_compare.specs.inner.Matches.{IsMatch}
use Rattle.mk_record_compare.proofs.first.item_match.Goals as goal

pub returns-in-Step : goal.returns-in-Step
returns-in-Step c = λ A rest. subst (λ (i : Item). IsMatch c.args.before A c.args.steps.now (Sent c.args.sim i) c.step_match.result) (sym c.in-Step.is) (c.step_match.ensures A rest c.in-Step.inputs)
