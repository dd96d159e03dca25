-- Answers to the goals of `shares::empty_shares` that the prover leaves.
use Rattle.std.proofs.Common.{ap, map}
use Rattle.mk_watch.proofs.Shared.{none_yet, one_empty}
use Rattle.mk_watch.proofs.shares.empty_shares.Goals as goal

pub loop-init : goal.loop-init
loop-init c = none_yet _ c.new-shares.result.items c.new-shares.ensures.items

pub loop-preserved : goal.loop-preserved
loop-preserved c = one_empty _ c.loop.counter c.loop.shares.items c.push.new.self.items c.new.result c.in_ok-push.ensures.items (ap (map _) c.new.ensures.items) c.loop.invariant
