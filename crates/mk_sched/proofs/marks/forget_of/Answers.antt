-- Answers to the goals of `marks::forget_of` that the prover leaves.
use Rattle.std.proofs.Common.{◌∙◌, ap, unwrap_or}
use Rattle.mk_buffers.specs.Standing.{mark_of}
use Rattle.mk_sched.proofs.GivingUp.{mark_of_earliest, told_here}
use Rattle.mk_sched.proofs.marks.forget_of.Goals as goal

pub returns-clause-stock : goal.returns-clause-stock
returns-clause-stock c = λ V mirrors stock.
    let P = c.args.plan.now in
    c.forget_before.ensures.stock P V stock c.requires.there (mark_of_earliest P V c.args.sim.0 _ c.earliest.result (c.earliest.ensures.earliest P V c.requires.valid mirrors) c.unwrap_or.result c.unwrap_or.ensures)

pub returns-clause-told : goal.returns-clause-told
returns-clause-told c = λ V mirrors stock.
    let P = c.args.plan.now in
    let s = c.args.sim.0 in
    told_here P c.args.agenda.now.bounds s c.earliest.result (mark_of c.forget_before.new.self.buffers s) c.unwrap_or.result (mark_of c.args.stock.now.buffers s) (c.earliest.ensures.bounds P c.requires.valid mirrors.plan.bounds)
    (c.unwrap_or.ensures ∙ ap (unwrap_or c.earliest.result) c.end_of.ensures) (c.forget_before.ensures.marks P V stock c.requires.there).here

pub returns-clause-others : goal.returns-clause-others
returns-clause-others c = λ V mirrors stock. (c.forget_before.ensures.marks c.args.plan.now V stock c.requires.there).others
