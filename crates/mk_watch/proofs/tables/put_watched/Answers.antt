-- Answers to the goals of `tables::put_watched` that the prover leaves.
use Rattle.std.proofs.Common.{map}
use Rattle.mk_watch.proofs.Written.{on_ok, table_is}
use Rattle.mk_watch.proofs.tables.put_watched.Goals as goal

pub returns : goal.returns
returns g c = λ own.
    on_ok c.put_rows.result (λ rows. table_is c.args.plan.now c.args.watch.now c.args.sim.0 c.at.result.now c.args.rule.now.name c.args.rule.now.fold (map (λ x. x.now) c.args.items.now) c.args.out.now.items c.put_head.new.out.items c.put_rows.new.out.items own c.at.ensures c.in_ok-put_head.ensures rows) c.put_rows.ensures
