-- The invariants and measures of the loops of `tally::Tally::count`.
use Rattle.std.proofs.Common.{◌≡◌, take}
use Rattle.mk_progress.specs.Tallies.{tally_after}
use Rattle.mk_progress.proofs.tally.Tally.count.Given as goal

abbrev pub invariant-loop-entry : goal.invariant-loop-entry
invariant-loop-entry l = l.tally ≡ tally_after l.fn.self (take l.entry-index l.fresh)
