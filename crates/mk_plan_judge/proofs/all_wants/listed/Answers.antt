-- The next taking has its list, in which none comes behind it.
use Rattle.std.proofs.Common.{arith}
use Rattle.mk_base.proofs.Lists.{at_in}
use Rattle.mk_plan_judge.proofs.AtPlaces.{get_some}
use Rattle.mk_plan_judge.proofs.Takings.{next_fits, wants_next}
use Rattle.mk_plan_judge.proofs.all_wants.listed.Goals as goal

pub add_want-requires-clause-there : goal.add_want-requires-clause-there
add_want-requires-clause-there c = let low = c.requires.there c.taking-item.result (at_in c.taking-item.result c.args.takings.now c.loop-taking.taking-index (get_some c.args.takings.now c.loop-taking.taking-index c.taking-item.result c.loop-taking-test.true c.taking-item.is)) in
    omega (arith, low, c.loop-taking.invariant.count)

pub add_want-requires-clause-last : goal.add_want-requires-clause-last
add_want-requires-clause-last c = next_fits c.args.count c.args.takings.now c.loop-taking.taking-index c.taking-item.result c.loop-taking.lists.items c.requires.sorted c.loop-taking-test.true c.taking-item.is c.loop-taking.invariant

pub loop-taking-preserved : goal.loop-taking-preserved
loop-taking-preserved c = wants_next c.args.count c.args.takings.now c.loop-taking.taking-index c.taking-item.result c.loop-taking.lists.items c.add_want.new.lists.items c.loop-taking-test.true c.taking-item.is c.loop-taking.invariant c.in_ok-add_want.ensures
