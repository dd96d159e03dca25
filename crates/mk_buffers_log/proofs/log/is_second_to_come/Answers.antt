-- Answers to the goals of `log::is_second_to_come` that the prover leaves.
use Rattle.std.proofs.Common.{sym, ◌∙◌}
use Rattle.mk_buffers_log.proofs.log.is_second_to_come.Goals as goal
use Rattle.mk_base.proofs.Bools.{not_true}

pub returns-clause-late : goal.returns-clause-late
returns-clause-late c = λ h d. sym (c.comes_at.ensures d) ∙ not_true c.comes_at.result h
