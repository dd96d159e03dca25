-- What is owed after a right message: an answer, or a request for data.
use Rattle.std.proofs.Common.{ap, sym, subst, ◌∙◌}
use Rattle.mk_plan.specs.declared.Message.{Message}
use Rattle.mk_plan.specs.declared.Entry.TheVariants.{Got}
use Rattle.mk_plan.specs.Acts.{is_ask}
use Rattle.mk_plan.specs.Journals.{view}
use Rattle.std.proofs.Common.{Some}
use Rattle.mk_sched_open.specs.Turns.{IsRight}
use Rattle.mk_sched_supply.specs.Stock.{MayComeNext}
use Rattle.mk_plan.specs.Turns.{wrong}
use Rattle.mk_sched.proofs.Judged.{never_failed}
use Rattle.mk_sched.proofs.Arrived.{owed_asked, owed_fetched}
use Rattle.mk_sched.proofs.taking.owed_after.Goals as goal

pub returns-in-Ask-clause-owed : goal.returns-in-Ask-clause-owed
returns-in-Ask-clause-owed c = λ J T q may right at stock.
    let P = c.args.plan.now in
    let s = c.args.sim in
    let coming = subst (λ (m : Message). MayComeNext P J (Got s m)) c.in-Ask.is may in
    let is = subst (λ (m : Message). IsRight P (view P J) s.0 m T (Some q)) c.in-Ask.is right in
    owed_asked P (view P J) s.0 T q c.args.at at c.answer.new.self c.args.message.now c.in-Ask.id c.in-Ask.name c.in-Ask.args c.in-Ask.named c.in-Ask.is c.answer.result
    (c.answer.ensures.item (view P J) T stock)
    (c.answer.ensures.stock J T q coming is at stock)

pub returns-in-Success-clause-owed : goal.returns-in-Success-clause-owed
returns-in-Success-clause-owed c = λ J T q may right at stock.
    let P = c.args.plan.now in
    let s = c.args.sim in
    let m = c.args.message.now in
    let reply = ap is_ask c.in-Success.is in
    owed_fetched P (view P J) s.0 T q c.args.stock.now m reply c.wants.result.now (c.wants.ensures P stock.plan) c.get_data.result c.get_data.ensures
    (λ item late is. c.stock_stays.ensures.fetching P J c.args.stock.now s m T q item may right reply late is stock)

pub unreachable-requires : goal.unreachable-requires
unreachable-requires c = let r = c.requires.right in never_failed c.args.plan.now c.args.sim.0 r.1.place _ _ (ap (wrong c.args.plan.now c.args.sim.0 r.1.place) (sym c.in-Failure.is) ∙ r.3.right)
