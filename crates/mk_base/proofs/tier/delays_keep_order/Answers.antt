-- Answers to the goals of `tier::delays_keep_order` that the prover leaves.
use Rattle.mk_base.proofs.TierOrder.{delayed_no_earlier, delayed_keeps, shifted_later}
use Rattle.mk_base.proofs.tier.delays_keep_order.Goals as goal

pub returns-clause-no_earlier : goal.returns-clause-no_earlier
returns-clause-no_earlier c = delayed_no_earlier

pub returns-clause-keeps : goal.returns-clause-keeps
returns-clause-keeps c = delayed_keeps

pub returns-clause-shifted : goal.returns-clause-shifted
returns-clause-shifted c = shifted_later
