-- Answers to the goals of `replaying::give` that the prover leaves.
use Rattle.std.proofs.Common.{◌∷◌, subst}
use Rattle.mk_record_replay.specs.declared.asking.Standstill.{Standstill}
use Rattle.mk_record_read.specs.Seen.{came}
use Rattle.mk_record_replay.specs.inner.Loops.{HasAskedAll}
use Rattle.mk_record_replay.proofs.Giving.{stopped_before, given_after, on_ok}
use Rattle.mk_record_replay.proofs.replaying.give.Goals as goal

pub returns-in-Full : goal.returns-in-Full
returns-in-Full c = λ A more way. stopped_before c.args.core.now c.ask_all.new.core c.in-Full.fault A (came c.args.arrival ∷ more) (subst (λ (p : Standstill). HasAskedAll c.args.core.now p c.ask_all.new.core) c.in-Full.is c.in-Ok.ensures) way

pub returns-in-Waiting : goal.returns-in-Waiting
returns-in-Waiting c = on_ok c.take.result (λ o h. given_after c.args.core.now c.ask_all.new.core c.take.new.core (came c.args.arrival) o c.in-Ok.ensures.goes h) c.take.ensures.given

pub returns-in-Over : goal.returns-in-Over
returns-in-Over c = on_ok c.take-in-Over.result (λ o h. given_after c.args.core.now c.ask_all.new.core c.take-in-Over.new.core (came c.args.arrival) o c.in-Ok.ensures.goes h) c.take-in-Over.ensures.given
