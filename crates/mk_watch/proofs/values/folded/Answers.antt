-- Answers to the goals of `values::folded` that the prover leaves.
use Rattle.std.proofs.Common.{◌≤◌, List, length, subst}
use Rattle.mk_plan.specs.declared.Input.{Input}
use Rattle.mk_watch.proofs.Gathering.{value_all}
use Rattle.mk_watch.proofs.values.folded.Goals as goal

pub returns : goal.returns
returns g c =
    let end : length c.args.inputs.now ≤ c.loop-input.input-index = subst (λ (l : List Input). length l ≤ c.loop-input.input-index) c.as_slice-input-items.ensures c.loop-input-test.false in
    value_all c.args.rule.now.fold c.args.eid.now c.args.attr.now c.args.inputs.now c.loop-input.input-index c.loop-input.value end c.loop-input.invariant
