-- Answers to the goals of `making::connected_parts` that the prover leaves.
use Rattle.std.proofs.Common.{◌∙◌, ap, length}
use Rattle.mk_connect_pairs.proofs.Usable.{usable}
use Rattle.mk_connect.proofs.making.connected_parts.Goals as goal

pub related_entities-requires : goal.related_entities-requires
related_entities-requires c = usable c.args.scenario.now c.requires (length c.as_slice-2.result.now) (ap length c.as_slice-2.ensures.value ∙ c.in_ok-members.ensures.0 ∙ c.len.ensures) c.as_slice-blocks.result.now c.as_slice-blocks.ensures
