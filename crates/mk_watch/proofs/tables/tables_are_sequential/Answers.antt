-- Answers to the goals of `tables::tables_are_sequential` that the prover leaves.
use Rattle.mk_watch.proofs.Whole.{same_tables}
use Rattle.mk_watch.proofs.tables.tables_are_sequential.Goals as goal

pub returns : goal.returns
returns c = λ J finished names folds ws inside. same_tables c.args.plan.now c.requires J finished names folds ws inside
