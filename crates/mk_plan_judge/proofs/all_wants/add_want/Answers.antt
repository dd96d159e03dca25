-- What stands at the place of its simulator takes the want in.
use Rattle.std.proofs.Common.{refl}
use Rattle.mk_plan_judge.specs.inner.Takings.{want_taken}
use Rattle.mk_plan_judge.proofs.AtPlaces.{get_some}
use Rattle.mk_plan_judge.proofs.Putting.{on_ok}
use Rattle.mk_plan_judge.proofs.Takings.{want_put}
use Rattle.mk_plan_judge.proofs.all_wants.add_want.Goals as goal

pub put_last-requires-clause-last : goal.put_last-requires-clause-last
put_last-requires-clause-last c = (c.requires.last c.index_mut.result.now (get_some c.args.lists.now.items c.args.taking.now.sim c.index_mut.result.now c.requires.there c.index_mut.ensures.value)).1

pub returns : goal.returns
returns c = on_ok c.put_last.result (λ put. want_put c.args.taking.now c.args.lists.now.items c.index_mut.result.now c.put_last.new.wants (want_taken c.args.taking.now) (get_some c.args.lists.now.items c.args.taking.now.sim c.index_mut.result.now c.requires.there c.index_mut.ensures.value) refl put) c.put_last.ensures
