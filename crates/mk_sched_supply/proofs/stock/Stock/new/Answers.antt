-- Answers to the goals of `stock::Stock::new` that the prover leaves.
use Rattle.mk_sched_supply.proofs.Beginning.{stock_begins}
use Rattle.mk_sched_supply.proofs.stock.Stock.new.Goals as goal

pub returns : goal.returns
returns c = stock_begins c.args.plan.now _ c.requires c.in_ok-names.ensures c.in_ok-buffers.ensures c.in_ok-feeds.ensures (λ S. c.buffers_stand.ensures.new c.args.plan.now c.in_ok-buffers.buffers S c.in_ok-buffers.ensures)
