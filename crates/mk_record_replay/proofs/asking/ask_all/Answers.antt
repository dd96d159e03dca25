-- Answers to the goals of `asking::ask_all` that the prover leaves.
use Rattle.std.proofs.Common.{subst}
use Rattle.mk_sched.specs.declared.faults.Next.{Next}
use Rattle.mk_sched.specs.Answers.{NextOf, IsAsked}
use Rattle.mk_record_replay.proofs.Giving.{asked_goes, goes_on_asked, asked_full}
use Rattle.mk_record_replay.proofs.asking.ask_all.Goals as goal

pub asking-preserved : goal.asking-preserved
asking-preserved c = let asked : IsAsked c.asking.core c.in-Ask.field-0 c.next.new.self = subst (λ (n : Next). NextOf c.asking.core n c.next.new.self) c.in-Ask.is c.in_ok-next.ensures.ok in record {
  going = asked_goes c.asking.core c.next.new.self c.in-Ask.field-0 asked;
  goes = goes_on_asked c.args.core.now c.asking.core c.next.new.self c.in-Ask.field-0 c.asking.invariant.goes asked;
}

pub returns-in-Fault : goal.returns-in-Fault
returns-in-Fault c = asked_full c.args.core.now c.asking.core c.next.new.self c.in-Fault.fault c.asking.invariant.goes c.asking.invariant.going
    (subst (λ (n : Next). NextOf c.asking.core n c.next.new.self) c.in-Fault.is c.in_ok-next.ensures.ok) c.next.ensures.stands
