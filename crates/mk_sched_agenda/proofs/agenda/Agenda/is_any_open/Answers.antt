-- Answers to the goals of `agenda::Agenda::is_any_open` that the prover leaves.
use Rattle.std.proofs.Common.{sym, ◌∙◌}
use Rattle.mk_sched_agenda.proofs.Mirroring.{any_is_open, all_closed}
use Rattle.mk_sched_agenda.proofs.agenda.Agenda.is_any_open.Goals as goal

pub returns-clause-some : goal.returns-clause-some
returns-clause-some c = rw (← c.self.view_is) (λ h P V mirrors. any_is_open P V _ mirrors c.self.inside.dues.opened c.self.invariant.1 (sym c.is_any_open.ensures ∙ h))

pub returns-clause-none : goal.returns-clause-none
returns-clause-none c = rw (← c.self.view_is) (λ h P V mirrors i _. all_closed P V _ mirrors c.self.inside.dues.opened c.self.invariant.1 (sym c.is_any_open.ensures ∙ h) i)
