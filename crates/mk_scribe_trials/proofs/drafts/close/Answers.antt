-- Answers to the goals of `drafts::close` that the prover leaves.
use Rattle.mk_scribe_trials.proofs.Parts.{part_in_range}
use Rattle.mk_scribe_trials.proofs.drafts.close.Goals as goal

pub look-requires : goal.look-requires
look-requires c = record { in_range = part_in_range 1 0 c.args.entries.now c.requires.writable }

pub look-requires-2 : goal.look-requires-2
look-requires-2 c = record { in_range = part_in_range 2 1 c.args.entries.now c.requires.writable }
