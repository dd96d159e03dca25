-- Answers to the goals of `stock::Stock::answer` that the prover leaves.
use Rattle.mk_sched_supply.proofs.Lending.{reached}
use Rattle.mk_sched_supply.proofs.Replying.{answered_item, stock_asked, stock_refused, with_both}
use Rattle.mk_plan.specs.Inputs.{value_at}
use Rattle.mk_sched_supply.proofs.stock.Stock.answer.Goals as goal
use Rattle.mk_base.proofs.Items.{if_ok}

pub answer_judged-requires-clause-reached : goal.answer_judged-requires-clause-reached
answer_judged-requires-clause-reached c = reached c.args.plan.now c.args.sim.0 c.requires.valid.well_formed.references c.args.at c.args.self.now c.in-Ok.asked c.requires.asked c.in-Ok.ensures.permitted

pub returns-in-Ok-clause-item : goal.returns-in-Ok-clause-item
returns-in-Ok-clause-item c = λ V T stock. if_ok c.answer_judged.result (λ item by. answered_item c.args.plan.now V c.args.sim.0 c.args.at T.place c.args.id c.args.name.now c.args.args.now c.args.named.now
    c.in-Ok.asked stock.supplied.0 item stock.supplied.2 (c.in-Ok.ensures.refusal (value_at stock.supplied.0 c.args.at)) c.in-Ok.ensures.request by) (c.answer_judged.ensures.item stock.supplied.0 stock.supplied.1)

pub returns-in-Ok-clause-stock : goal.returns-in-Ok-clause-stock
returns-in-Ok-clause-stock c = λ J T q may right at stock. with_both c.answer_judged.result (λ item by given. stock_asked c.args.plan.now J c.args.sim T q c.args.id c.args.name.now c.args.args.now c.args.named.now c.args.self.now c.answer_judged.new.self
    c.args.at at c.in-Ok.asked (λ look. c.in-Ok.ensures.refusal look) c.in-Ok.ensures.request may right stock c.answer_judged.ensures.rest item by given)
    (c.answer_judged.ensures.item stock.supplied.0 stock.supplied.1) (c.answer_judged.ensures.given c.args.sim.0 stock.supplied.0 c.in-Ok.ensures.known stock.supplied.1)

pub returns-in-Err-clause-stock : goal.returns-in-Err-clause-stock
returns-in-Err-clause-stock c = λ J T q may right at stock. stock_refused c.args.plan.now J c.args.sim T q c.args.id c.args.name.now c.args.args.now c.args.named.now c.args.self.now c.in-Err.reason (λ look. c.in-Err.ensures.refusal look) may right stock
