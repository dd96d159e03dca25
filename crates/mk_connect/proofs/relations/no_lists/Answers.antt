-- Answers to the goals of `relations::no_lists` that the prover leaves.
use Rattle.std.proofs.Common.{arith}
use Rattle.mk_connect.proofs.Joins.{empty_more, none_yet}
use Rattle.mk_connect.proofs.relations.no_lists.Goals as goal

pub loop-preserved : goal.loop-preserved
loop-preserved c = empty_more c.loop.counter c.loop.lists.items c.push.new.self.items c.new.result c.loop.invariant c.new.ensures c.in_ok-push.ensures.items

pub returns : goal.returns
returns c = none_yet c.args.count c.loop.counter c.loop.lists.items c.loop.invariant (omega arith)
