-- Answers to the goals of `all_wants::empty_lists` that the prover leaves.
use Rattle.std.proofs.Common.{ap, ◌∙◌, arith, length}
use Rattle.std.proofs.lemmas.List.{length-append}
use Rattle.mk_plan_judge.proofs.Takings.{empty_more, wants_none}
use Rattle.mk_plan_judge.proofs.all_wants.empty_lists.Goals as goal

pub loop-preserved : goal.loop-preserved
loop-preserved c = let longer = ap length c.in_ok-push.ensures.items ∙ length-append c.loop.lists.items _ in record {
  count = omega (arith, longer, c.loop.invariant.count);
  none = empty_more c.loop.lists.items c.new.result c.push.new.self.items c.loop.invariant.none c.new.ensures c.in_ok-push.ensures.items;
}

pub returns : goal.returns
returns c = wants_none c.args.count c.loop.lists.items (omega arith) c.loop.invariant.none
