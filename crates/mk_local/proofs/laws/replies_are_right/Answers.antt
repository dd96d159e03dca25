-- Answers to the goals of `laws::replies_are_right` that the prover leaves.
use Rattle.mk_local.proofs.InOrder.{bare_same, right_in_order}
use Rattle.mk_local.proofs.Replied.{data_replies, step_replies}
use Rattle.mk_local.proofs.laws.replies_are_right.Goals as goal

pub returns-clause-to_step : goal.returns-clause-to_step
returns-clause-to_step c = step_replies

pub returns-clause-to_get_data : goal.returns-clause-to_get_data
returns-clause-to_get_data c = data_replies

pub returns-clause-in_order : goal.returns-clause-in_order
returns-clause-in_order c = right_in_order

pub returns-clause-bare : goal.returns-clause-bare
returns-clause-bare c = bare_same
