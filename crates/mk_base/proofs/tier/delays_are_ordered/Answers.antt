-- Answers to the goals of `tier::delays_are_ordered` that the prover leaves.
use Rattle.mk_base.proofs.TierOrder.{weak_later, weak_before_shifted, narrow_before_wide}
use Rattle.mk_base.proofs.tier.delays_are_ordered.Goals as goal

pub returns-clause-plain : goal.returns-clause-plain
returns-clause-plain c = weak_later

pub returns-clause-weak : goal.returns-clause-weak
returns-clause-weak c = weak_before_shifted

pub returns-clause-shifted : goal.returns-clause-shifted
returns-clause-shifted c = narrow_before_wide
