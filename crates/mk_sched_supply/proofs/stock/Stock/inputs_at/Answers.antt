-- Answers to the goals of `stock::Stock::inputs_at` that the prover leaves.
use Rattle.std.proofs.Common.{◌∙◌}
use Rattle.mk_order.proofs.LaterQuestions.{step_after}
use Rattle.mk_buffers.specs.Standing.{mark_of}
use Rattle.mk_sched_supply.proofs.Keeping.{ready_below}
use Rattle.mk_sched_supply.proofs.Lasting.{inputs_same}
use Rattle.mk_sched_supply.proofs.stock.Stock.inputs_at.Goals as goal

pub returns : goal.returns
returns c = λ P V h ready p.
    let s = c.args.sim.0 in
    let low = ready_below P V s c.args.at ready in
    c.trim.ensures
    ∙ c.in_ok-inputs.ensures P h.supplied.0 h.supplied.1 low (step_after P V s (mark_of c.args.self.now.buffers s) (h.marks s low) c.args.at ready)
    ∙ inputs_same P V h.supplied.0 h.supplied.2 s c.args.at c.args.previous ready
