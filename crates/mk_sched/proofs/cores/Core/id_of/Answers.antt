-- Answers to the goals of `cores::Core::id_of` that the prover leaves.
use Rattle.std.proofs.Common.{◌∙◌, ap}
use Rattle.mk_sched.specs.Answers.{id_at}
use Rattle.mk_sched.proofs.cores.Core.id_of.Goals as goal

pub returns-clause-going : goal.returns-clause-going
returns-clause-going c = rw (← c.self.view_is) (λ going. c.id_at.ensures ∙ ap id_at (c.place.ensures.place _ _ _ (c.self.invariant.0.current going).sims))
