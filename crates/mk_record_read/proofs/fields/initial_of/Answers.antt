-- Answers to the goals of `fields::initial_of` that the prover leaves.
use Rattle.mk_base.specs.Trees.{is_in_range}
use Rattle.mk_record_read.proofs.fields.initial_of.Goals as goal
use Rattle.mk_base.proofs.Items.{passes_at}

pub datum_of-requires : goal.datum_of-requires
datum_of-requires c = passes_at is_in_range c.in_ok-items.items.now 0 c.value-item.result (c.in_ok-items.ensures.in_range c.requires) c.in-len1.len_at_least c.value-item.is
