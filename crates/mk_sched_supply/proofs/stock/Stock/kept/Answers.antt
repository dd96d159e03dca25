-- Answers to the goals of `stock::Stock::kept` that the prover leaves.
use Rattle.std.proofs.Common.{◌∙◌, arith}
use Rattle.mk_plan.specs.Deliveries.{supply}
use Rattle.mk_buffers.specs.Standing.{least_mark}
use Rattle.mk_order.proofs.Opened.{outputs_opened}
use Rattle.mk_sched_supply.proofs.Holding.{most_same}
use Rattle.mk_sched_supply.proofs.stock.Stock.kept.Goals as goal

pub returns-clause-few : goal.returns-clause-few
returns-clause-few c = λ P V st.
    let same = most_same P st.supplied.0 (supply P V.acts) (least_mark c.args.self.now.buffers) (λ e attr given. st.supplied.2.outputs e attr given ∙ outputs_opened P V e attr) in
    let few = c.kept.ensures.few P st.supplied.0 st.supplied.1 in
    omega (arith, same, few)
