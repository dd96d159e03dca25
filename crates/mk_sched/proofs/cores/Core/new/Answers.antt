-- Answers to the goals of `cores::Core::new` that the prover leaves.
use Rattle.std.proofs.Common.{refl}
use Rattle.mk_sched.proofs.GivingUp.{whole_of}
use Rattle.mk_sched.proofs.cores.Core.new.Goals as goal

pub give_up-requires-clause-whole : goal.give_up-requires-clause-whole
give_up-requires-clause-whole c = λ going. whole_of _ _ _ _ c.in_ok-derived.ensures.derived refl

pub invariant_of-result : goal.invariant_of-result
invariant_of-result c = rw c.new.ensures (c.give_up.ensures _ c.in_ok-derived.ensures.derived c.in_ok-derived.ensures.told)
