-- The spots so far, and how many are wanting.
use Rattle.std.proofs.Common.{◌+◌, ◌-◌, length}
use Rattle.mk_poll.specs.inner.Links.{AreMore}
use Rattle.mk_poll.proofs.spots.make_spot.Given as goal

abbrev pub invariant-loop-link : goal.invariant-loop-link
invariant-loop-link l = AreMore l.fn.spots.items l.spots.items

abbrev pub decreases-loop-link : goal.decreases-loop-link
decreases-loop-link l = l.link.0 + 1 - length l.spots.items
