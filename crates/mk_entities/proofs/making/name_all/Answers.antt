-- Answers to the goals of `making::name_all` that the prover leaves.
use Rattle.std.proofs.Common.{◌≡◌, ◌∙◌, ap, sym, arith, length, Ok, None}
use Rattle.mk_entities.specs.inner.Making.{fault_at}
use Rattle.mk_entities.proofs.Faults.{below_next, fault_here, named_more, none_there, there_first}
use Rattle.mk_entities.proofs.making.name_all.Goals as goal

pub returns-in-Some-clause-told : goal.returns-in-Some-clause-told
returns-in-Some-clause-told c = sym (there_first (fault_at c.args.names.now c.args.count c.args.asked.now.model.now c.args.asked.now.meta.now c.args.entities.now) (length c.args.entities.now) c.loop-n.n c.in-Some.fault c.loop-n-test.true c.loop-n.invariant.passed
    (fault_here c.args.count c.args.entities.now c.loop-n.n c.index-entities-n.result c.loop-n-test.true c.index-entities-n.is c.args.names.now c.loop-n.names c.args.asked.now.model.now c.args.asked.now.meta.now c.loop-n.invariant.named ∙ sym c.in_ok-fault.ensures.told ∙ c.in-Some.is))

pub loop-n-preserved : goal.loop-n-preserved
loop-n-preserved c = record {
  passed = below_next (λ k. fault_at c.args.names.now c.args.count c.args.asked.now.model.now c.args.asked.now.meta.now c.args.entities.now k ≡ None) c.loop-n.n c.loop-n.invariant.passed
      (fault_here c.args.count c.args.entities.now c.loop-n.n c.index-entities-n.result c.loop-n-test.true c.index-entities-n.is c.args.names.now c.loop-n.names c.args.asked.now.model.now c.args.asked.now.meta.now c.loop-n.invariant.named ∙ sym c.in_ok-fault.ensures.told ∙ c.in_default.is);
  named = c.in_ok-fault.ensures.named (ap Ok c.in_default.is) ∙ named_more c.args.count c.args.entities.now c.loop-n.n c.index-entities-n.result c.loop-n-test.true c.index-entities-n.is c.args.names.now c.loop-n.names c.loop-n.invariant.named;
  few = let room = c.in_ok-fault.ensures.room (ap Ok c.in_default.is) in omega arith;
}

pub returns-clause-told : goal.returns-clause-told
returns-clause-told c = sym (none_there (fault_at c.args.names.now c.args.count c.args.asked.now.model.now c.args.asked.now.meta.now c.args.entities.now) (length c.args.entities.now) (λ k below. c.loop-n.invariant.passed k (let end = c.loop-n-test.false in omega arith)))
