-- Which rules are still to be made.
use Rattle.std.proofs.Common.{◌≡◌, true, drop, length, map}
use Rattle.mk_watch_read.specs.Folds.{name_of}
use Rattle.mk_watch_read.specs.Rules.{names_in}
use Rattle.mk_watch_read.specs.inner.Rules.{are_new}
use Rattle.mosaikrun.proofs.run_with.Given as goal

abbrev pub invariant-loop-fold : goal.invariant-loop-fold
invariant-loop-fold g l = record {
  new : are_new (names_in l.rules) (map name_of (drop l.fold-index l.folds)) ≡ true;
  few : length (names_in l.rules) ≡ l.fold-index;
}
