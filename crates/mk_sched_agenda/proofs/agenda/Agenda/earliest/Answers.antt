-- Answers to the goals of `agenda::Agenda::earliest` that the prover leaves.
use Rattle.mk_sched_agenda.proofs.Mirroring.{earliest_is}
use Rattle.mk_sched_agenda.proofs.agenda.Agenda.earliest.Goals as goal

pub returns-clause-earliest : goal.returns-clause-earliest
returns-clause-earliest c = rw (← c.self.view_is) (λ P V valid mirrors. earliest_is P V _ mirrors c.args.sim.0 c.earliest.result (c.earliest.ensures P valid mirrors.plan.bounds))

pub returns-clause-bounds : goal.returns-clause-bounds
returns-clause-bounds c = rw (← c.self.view_is) (λ P valid of. c.earliest.ensures P valid of)
