-- Answers to the goals of `tables::write_tables` that the prover leaves.
use Rattle.std.proofs.Common.{List, subst, length, ◌<◌, ◌∙◌, ap, get_or, map}
use Rattle.mk_watch_read.specs.declared.watches.Watch.{Watch}
use Rattle.mk_plan.specs.Journals.{sent}
use Rattle.mk_plan.specs.Plans.{sim_count}
use Rattle.mk_watch_read.specs.Rules.{folds_in, names_in}
use Rattle.mk_watch.proofs.Shared.{shares_named}
use Rattle.mk_watch.proofs.Written.{tables_more}
use Rattle.mk_watch.proofs.tables.write_tables.Goals as goal

pub loop-watch-preserved : goal.loop-watch-preserved
loop-watch-preserved g c =
    tables_more c.args.plan.now (names_in c.args.rules.now) (folds_in c.args.rules.now) (sent c.args.journal.now.entries) c.args.watches.now c.loop-watch.watch-index c.watch-item.result c.loop-watch.out.items c.put_table.new.out.items
    (subst (λ (l : List Watch). c.loop-watch.watch-index < length l) c.as_slice-watch-items.ensures c.loop-watch-test.true)
    (c.watch-item.is ∙ ap (λ (l : List Watch). get_or l c.loop-watch.watch-index c.watch-item.result) c.as_slice-watch-items.ensures) c.loop-watch.invariant
    (c.in_ok-put_table.ensures c.args.journal.now.entries
    (shares_named (λ s. map (λ x. x.now) s.items) c.len.result (sim_count c.args.plan.now) c.as_slice.result.now c.args.journal.now.entries c.in_ok-shares.shares.items c.as_slice-in-loop-watch.result.now c.len.ensures c.as_slice.ensures c.as_slice-in-loop-watch.ensures.value c.in_ok-shares.ensures))
