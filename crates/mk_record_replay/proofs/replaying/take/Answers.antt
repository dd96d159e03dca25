-- Answers to the goals of `replaying::take` that the prover leaves.
use Rattle.std.proofs.Common.{subst}
use Rattle.mk_sched.specs.declared.faults.Taken.{Taken}
use Rattle.mk_sched.specs.Answers.{ArriveOf}
use Rattle.mk_record_replay.proofs.Giving.{taken_quiet, taken_send, taken_fault}
use Rattle.mk_record_replay.proofs.Growing.{grown_quiet, grown_send, grown_fault}
use Rattle.mk_record_replay.proofs.replaying.take.Goals as goal

pub returns-in-Quiet-clause-given : goal.returns-in-Quiet-clause-given
returns-in-Quiet-clause-given c = taken_quiet c.args.core.now c.take.new.self c.args.arrival.sim c.args.arrival.message c.requires.nobody
    (subst (λ (t : Taken). ArriveOf c.args.core.now c.args.arrival.sim c.args.arrival.message t c.take.new.self) c.in-Quiet.is c.in_ok-take.ensures.ok)

pub returns-in-Send-clause-given : goal.returns-in-Send-clause-given
returns-in-Send-clause-given c = taken_send c.args.core.now c.take.new.self c.args.arrival.sim c.args.arrival.message c.requires.nobody
    (subst (λ (t : Taken). ArriveOf c.args.core.now c.args.arrival.sim c.args.arrival.message t c.take.new.self) c.in-Send.is c.in_ok-take.ensures.ok)

pub returns-in-Fault-clause-given : goal.returns-in-Fault-clause-given
returns-in-Fault-clause-given c = taken_fault c.args.core.now c.take.new.self c.args.arrival.sim c.args.arrival.message c.in-Fault.fault c.requires.going c.requires.nobody
    (subst (λ (t : Taken). ArriveOf c.args.core.now c.args.arrival.sim c.args.arrival.message t c.take.new.self) c.in-Fault.is c.in_ok-take.ensures.ok) c.take.ensures.stands

pub returns-in-Quiet-clause-grown : goal.returns-in-Quiet-clause-grown
returns-in-Quiet-clause-grown c = grown_quiet c.args.core.now c.take.new.self c.args.arrival.sim c.args.arrival.message
    (subst (λ (t : Taken). ArriveOf c.args.core.now c.args.arrival.sim c.args.arrival.message t c.take.new.self) c.in-Quiet.is c.in_ok-take.ensures.ok) c.take.ensures.stands

pub returns-in-Send-clause-grown : goal.returns-in-Send-clause-grown
returns-in-Send-clause-grown c = grown_send c.args.core.now c.take.new.self c.args.arrival.sim c.args.arrival.message
    (subst (λ (t : Taken). ArriveOf c.args.core.now c.args.arrival.sim c.args.arrival.message t c.take.new.self) c.in-Send.is c.in_ok-take.ensures.ok) c.take.ensures.stands

pub returns-in-Fault-clause-grown : goal.returns-in-Fault-clause-grown
returns-in-Fault-clause-grown c = grown_fault c.args.core.now c.take.new.self c.args.arrival.sim c.args.arrival.message c.in-Fault.fault
    (subst (λ (t : Taken). ArriveOf c.args.core.now c.args.arrival.sim c.args.arrival.message t c.take.new.self) c.in-Fault.is c.in_ok-take.ensures.ok)
