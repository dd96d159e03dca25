-- The invariants and measures of the loops of `mending::last_feed`.
use Rattle.std.proofs.Common.{◌≤◌, length, drop}
use Rattle.mk_record_mend.specs.inner.Feeds.{HasNoFeed}
use Rattle.mk_record_mend.proofs.mending.last_feed.Given as goal

abbrev pub invariant-loop-end : goal.invariant-loop-end
invariant-loop-end l = (l.end ≤ length l.bytes) × HasNoFeed (drop l.end l.bytes)

abbrev pub decreases-loop-end : goal.decreases-loop-end
decreases-loop-end l = l.end
