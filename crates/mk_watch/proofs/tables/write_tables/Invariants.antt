-- The invariants and measures of the loops of `tables::write_tables`.
use Rattle.std.proofs.Common.{◌≡◌, take}
use Rattle.mk_plan.specs.Journals.{sent}
use Rattle.mk_watch_read.specs.Rules.{folds_in, names_in}
use Rattle.mk_watch.specs.Tables.{tables_text}
use Rattle.mk_watch.proofs.tables.write_tables.Given as goal

abbrev pub invariant-loop-watch : goal.invariant-loop-watch
invariant-loop-watch g l = l.out.items ≡ tables_text l.plan (names_in l.rules) (folds_in l.rules) (sent l.journal.entries) (take l.watch-index l.watches)
