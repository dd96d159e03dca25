-- Answers to the goals of `attributes::model_at` that the prover leaves.
use Rattle.std.proofs.Common.{ap, sym, ◌∙◌}
use Rattle.std.specs.Prelude.{option_and_then, slice_get}
use Rattle.mk_connect_pairs.proofs.Modelled.{number_there}
use Rattle.mk_connect_pairs.proofs.attributes.model_at.Goals as goal

pub returns-in-Some : goal.returns-in-Some
returns-in-Some c =
    let models = c.args.study.now.models.now in
    c.get.ensures ∙ ap (option_and_then (slice_get models)) (c.in-Some.ensures ∙ sym (number_there models c.args.study.now.entities.now c.args.study.now.numbers.now c.args.study.now.numbered c.args.entity))

pub returns-in-None : goal.returns-in-None
returns-in-None c =
    let models = c.args.study.now.models.now in
    ap (option_and_then (slice_get models)) (c.in-None.ensures ∙ sym (number_there models c.args.study.now.entities.now c.args.study.now.numbers.now c.args.study.now.numbered c.args.entity))
