-- Answers to the goals of `lines::show` that the prover leaves.
use Rattle.mk_progress_trials.proofs.Shown.{all_in_range}
use Rattle.mk_progress_trials.proofs.lines.show.Goals as goal

pub look-requires : goal.look-requires
look-requires c = record { in_range = all_in_range c.args.entries.now c.requires }
