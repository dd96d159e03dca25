-- The channels of marked links are woken one after another.
use Rattle.std.proofs.Common.{◌≡◌, map}
use Rattle.mk_run_links.specs.inner.OneChannel.{link_of}
use Rattle.mk_run_links.specs.inner.Standing.{HaveTurns}
use Rattle.mk_run_links.proofs.Marking.{AreWokenSoFar}
use Rattle.mk_run_links.proofs.links.wake_marked.Given as goal

abbrev pub invariant-loop-k : goal.invariant-loop-k
invariant-loop-k l = record {
  stands : HaveTurns l.channels l.turns;
  same_links : map link_of l.channels ≡ map link_of l.fn.channels;
  woken : AreWokenSoFar l.k l.marks l.fn.channels l.channels;
}
