-- Answers to the goals of `log::push_last` that the prover leaves.
use Rattle.std.proofs.Common.{arith}
use Rattle.mk_buffers_log.proofs.Ascending.{ascending_back}
use Rattle.mk_buffers_log.proofs.log.push_last.Goals as goal

pub returns-else-place-count-clause-rising : goal.returns-else-place-count-clause-rising
returns-else-place-count-clause-rising c = ascending_back c.args.entries.now.items c.push_back.new.self.items c.args.new c.args.rising.now c.args.place c.len-count.result c.requires.placed (omega arith) (omega arith) c.requires.rising c.in_ok-push_back.ensures.items
