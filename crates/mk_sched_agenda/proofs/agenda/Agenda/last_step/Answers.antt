-- Answers to the goals of `agenda::Agenda::last_step` that the prover leaves.
use Rattle.std.proofs.Common.{◌∙◌}
use Rattle.mk_sched_agenda.proofs.agenda.Agenda.last_step.Goals as goal

pub returns : goal.returns
returns c = rw (← c.self.view_is) (λ P V mirrors low. c.last_step.ensures ∙ mirrors.lasts c.args.sim.0 low)
