-- Answers to the goals of `log::is_first_alone` that the prover leaves.
use Rattle.std.proofs.Common.{sym, ◌∙◌}
use Rattle.mk_buffers_log.specs.inner.Logs.{does_come}
use Rattle.mk_buffers_log.proofs.Ascending.{first_passes, comes_downward}
use Rattle.mk_buffers_log.proofs.log.is_first_alone.Goals as goal

pub returns-clause-cut : goal.returns-clause-cut
returns-clause-cut c = λ h. first_passes (does_come c.args.via c.args.until c.args.at) (comes_downward c.args.via c.args.until c.args.at) c.args.entries.now.items c.requires
    (c.is_second_to_come.ensures.some c.if-not-is_second_to_come.false) (λ d. sym (c.comes_at.ensures d) ∙ h) (c.is_second_to_come.ensures.late c.if-not-is_second_to_come.false)
