-- Answers to the goals of `replaying::finish` that the prover leaves.
use Rattle.std.proofs.Common.{subst}
use Rattle.mk_record_replay.specs.declared.asking.Standstill.{Standstill}
use Rattle.mk_record_replay.specs.inner.Loops.{HasAskedAll}
use Rattle.mk_record_replay.proofs.Giving.{ends_faulty, ends_done, ends_short}
use Rattle.mk_record_replay.proofs.replaying.finish.Goals as goal

pub returns-in-Full : goal.returns-in-Full
returns-in-Full c = λ A way. ends_faulty c.args.core.now c.ask_all.new.core c.in-Full.fault A (subst (λ (p : Standstill). HasAskedAll c.args.core.now p c.ask_all.new.core) c.in-Full.is c.in_ok-fault.ensures) way

pub returns-in-Over : goal.returns-in-Over
returns-in-Over c = λ A way. ends_done c.args.core.now c.ask_all.new.core A (subst (λ (p : Standstill). HasAskedAll c.args.core.now p c.ask_all.new.core) c.in-Over.is c.in_ok-fault.ensures) way

pub returns-in-Waiting : goal.returns-in-Waiting
returns-in-Waiting c = λ A way. ends_short c.args.core.now c.ask_all.new.core c.open_count.result A (subst (λ (p : Standstill). HasAskedAll c.args.core.now p c.ask_all.new.core) c.in-Waiting.is c.in_ok-fault.ensures) c.open_count.ensures way
