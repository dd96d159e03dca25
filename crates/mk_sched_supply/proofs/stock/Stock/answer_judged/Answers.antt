-- Answers to the goals of `stock::Stock::answer_judged` that the prover leaves.
use Rattle.mk_sched_supply.proofs.stock.Stock.answer_judged.Goals as goal

pub returns-clause-given : goal.returns-clause-given
returns-clause-given c = λ s S known stands. record {
  values = c.in_ok-sets.sets;
  set = c.in_ok-sets.ensures.sets;
  given = c.in_ok-give_all.ensures.given c.args.plan.now s S stands (c.in_ok-sets.ensures.given s known);
}
