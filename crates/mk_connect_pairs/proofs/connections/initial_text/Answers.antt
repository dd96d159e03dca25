-- Answers to the goals of `connections::initial_text` that the prover leaves.
use Rattle.std.proofs.Common.{◌∙◌, ap, sym}
use Rattle.mk_base.specs.Trees.{member}
use Rattle.mk_connect_pairs.proofs.Initials.{initial_in_range, initial_is_datum}
use Rattle.mk_connect_pairs.proofs.connections.initial_text.Goals as goal

pub datum_of-requires-clause-in_range : goal.datum_of-requires-clause-in_range
datum_of-requires-clause-in_range c = initial_in_range c.args.initial.now c.in-Some.value.now c.args.attr.now c.requires (ap (λ t. member t c.args.initial.now) (sym c.as_str.ensures) ∙ sym c.in-Some.ensures)

pub datum_of-requires-clause-value : goal.datum_of-requires-clause-value
datum_of-requires-clause-value c = initial_is_datum c.args.initial.now c.in-Some.value.now c.args.attr.now c.requires (ap (λ t. member t c.args.initial.now) (sym c.as_str.ensures) ∙ sym c.in-Some.ensures)
