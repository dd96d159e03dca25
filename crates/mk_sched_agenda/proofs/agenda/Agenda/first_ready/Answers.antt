-- Answers to the goals of `agenda::Agenda::first_ready` that the prover leaves.
use Rattle.std.proofs.Common.{sym}
use Rattle.mk_sched_agenda.proofs.Mirroring.{none_ready, first_never, first_ready_is}
use Rattle.mk_sched_agenda.proofs.agenda.Agenda.first_ready.Goals as goal

pub returns-in_err-sim : goal.returns-in_err-sim
returns-in_err-sim c = rw (← c.self.view_is) (rw c.from_residual.ensures (λ P V valid mirrors. none_ready P V _ mirrors (c.in_err-sim.ensures P valid mirrors.plan.bounds)))

pub returns-in_err-at : goal.returns-in_err-at
returns-in_err-at c = rw (← c.self.view_is) (rw c.from_residual-in_err-at.ensures (λ P V valid mirrors.
    absurd (first_never P V _ mirrors c.self.inside.dues.opened c.self.invariant.1 c.in_ok-sim.sim (c.in_ok-sim.ensures P valid mirrors.plan.bounds) (sym c.in_err-at.ensures))))

pub returns : goal.returns
returns c = rw (← c.self.view_is) (λ P V valid mirrors.
    first_ready_is P V _ mirrors c.self.inside.dues.opened c.self.invariant.1 c.in_ok-sim.sim c.in_ok-at.at (c.in_ok-sim.ensures P valid mirrors.plan.bounds) (sym c.in_ok-at.ensures))
