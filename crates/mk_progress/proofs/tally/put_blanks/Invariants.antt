-- The invariants and measures of the loops of `tally::put_blanks`.
use Rattle.std.proofs.Common.{◌≡◌, ◌++◌}
use Rattle.mk_progress.specs.Lines.{blanks}
use Rattle.mk_progress.proofs.tally.put_blanks.Given as goal

abbrev pub invariant-loop : goal.invariant-loop
invariant-loop l = l.out.items ≡ l.fn.out.items ++ blanks l.counter
