-- Answers to the goals of `talks::empty_talks` that the prover leaves.
use Rattle.std.proofs.Common.{ap, map}
use Rattle.mk_blame.proofs.Grouping.{none_yet, one_empty}
use Rattle.mk_blame.proofs.talks.empty_talks.Goals as goal

pub loop-init : goal.loop-init
loop-init c = none_yet _ c.new-talks.result.items c.new-talks.ensures.items

pub loop-preserved : goal.loop-preserved
loop-preserved c = one_empty _ c.loop.counter c.loop.talks.items c.push.new.self.items c.new.result c.in_ok-push.ensures.items (ap (map _) c.new.ensures.items) c.loop.invariant
