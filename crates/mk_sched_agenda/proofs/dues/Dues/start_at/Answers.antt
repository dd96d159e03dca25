-- Answers to the goals of `dues::Dues::start_at` that the prover leaves.
use Rattle.mk_tiers.proofs.Noting.{noted_none}
use Rattle.mk_sched_agenda.proofs.dues.Dues.start_at.Goals as goal

pub returns-else-is_first-clause-noted : goal.returns-else-is_first-clause-noted
returns-else-is_first-clause-noted c = noted_none c.args.self.now.bounds c.args.noted.now
