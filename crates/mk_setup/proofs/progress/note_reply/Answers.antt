-- Answers to the goals of `progress::note_reply` that the prover leaves.
use Rattle.std.proofs.Common.{arith}
use Rattle.mk_base.proofs.Lists.{below_get}
use Rattle.mk_setup.proofs.Counting.{count_small, counted_length, counted_more, few_answered}
use Rattle.mk_setup.proofs.Stepping.{to_there}
use Rattle.mk_setup.proofs.progress.note_reply.Goals as goal

pub count_one-requires-clause-there : goal.count_one-requires-clause-there
count_one-requires-clause-there c =
    let t = c.requires.counted in
    let there = to_there c.args.progress.now.scenario t.wellformed c.args.progress.now.answered c.args.sim.0 c.requires.next in
    let long = counted_length c.args.progress.now.scenario c.args.progress.now.answered c.args.progress.now.ids t in
    omega arith

pub count_one-requires-clause-few : goal.count_one-requires-clause-few
count_one-requires-clause-few c = λ n at. count_small c.args.progress.now.scenario c.args.progress.now.answered c.args.progress.now.ids c.requires.counted c.args.sim.0 n at

pub overflow_add-progress : goal.overflow_add-progress
overflow_add-progress c = let few = few_answered c.args.progress.now.scenario c.args.progress.now.answered c.args.progress.now.ids c.requires.counted in omega arith

pub returns-clause-counted : goal.returns-clause-counted
returns-clause-counted c =
    let t = c.requires.counted in
    let there = to_there c.args.progress.now.scenario t.wellformed c.args.progress.now.answered c.args.sim.0 c.requires.next in
    let long = counted_length c.args.progress.now.scenario c.args.progress.now.answered c.args.progress.now.ids t in
    let at = below_get c.args.progress.now.ids c.args.sim.0 (omega arith) in
    counted_more c.args.progress.now.scenario c.args.progress.now.answered c.args.sim.0 at.0 c.args.progress.now.ids c.count_one.new.counts t c.requires.next there at.1 (c.count_one.ensures at.0 at.1)
