-- Answers to the goals of `crew::Crew::ask_within` that the prover leaves.
use Rattle.std.proofs.Common.{◌≡◌, inl, true, refl, sym, subst}
use Rattle.mk_run_crew.specs.Seen.{CrewSeen, is_here}
use Rattle.mk_run_crew.proofs.Asked.{asked_within}
use Rattle.mk_run_crew.proofs.crew.Crew.ask_within.Goals as goal

pub returns-clause-ok : goal.returns-clause-ok
returns-clause-ok g c = inl (asked_within c.args.sim.0 c.args.call.now c.args.id c.in_ok-message.message _ c.args.self.now _ c.self.view_is (subst (λ (X : CrewSeen). is_here X c.args.sim.0 ≡ true) (sym c.self.view_is) c.requires.here) c.in_ok-message.ensures.ok c.in_ok-message.ensures.kinds refl refl)
