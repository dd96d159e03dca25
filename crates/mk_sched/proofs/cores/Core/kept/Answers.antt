-- Answers to the goals of `cores::Core::kept` that the prover leaves.
use Rattle.mk_sched.proofs.cores.Core.kept.Goals as goal
use Rattle.mk_sched.proofs.GivingUp.{few_kept, held_of}

pub returns-clause-held : goal.returns-clause-held
returns-clause-held c = rw (← c.self.view_is) (held_of _ _ _ _ c.self.invariant.0 c.self.invariant.1 c.kept.result c.kept.ensures.count (λ V stock. c.kept.ensures.few _ V stock))

pub returns-clause-few : goal.returns-clause-few
returns-clause-few c = rw (← c.self.view_is) (few_kept _ _ _ _ c.self.invariant.0 c.self.invariant.1 c.kept.result (λ V stock. c.kept.ensures.few _ V stock))
