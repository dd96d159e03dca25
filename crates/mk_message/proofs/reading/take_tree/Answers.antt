-- Answers to the goals of `reading::take_tree` that the prover leaves.
use Rattle.mk_message.proofs.Ranges.{fits_taken}
use Rattle.mk_message.proofs.reading.take_tree.Goals as goal

pub returns-clause-in_range : goal.returns-clause-in_range
returns-clause-in_range c = fits_taken c.args.tree c.message_of_tree.result c.message_of_tree.ensures
