-- Answers to the goals of `cores::Core::into_parts` that the prover leaves.
use Rattle.mk_sched.proofs.cores.Core.into_parts.Goals as goal
use Rattle.mk_sched.proofs.Standing.{stands_of}

pub returns-clause-stands : goal.returns-clause-stands
returns-clause-stands c = rw (← c.self.view_is) (stands_of _ _ _ _ c.self.invariant.0)
