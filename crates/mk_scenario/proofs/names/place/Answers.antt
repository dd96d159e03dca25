-- Answers to the goals of `names::place` that the prover leaves.
use Rattle.std.proofs.Common.{ap, ◌∙◌, sym, Some}
use Rattle.std.specs.HashMap.{get_by_text}
use Rattle.std.specs.Map.{update}
use Rattle.mk_base.specs.Lists.{same_text}
use Rattle.mk_scenario.proofs.Placing.{placed_again, placed_new}
use Rattle.mk_scenario.proofs.names.place.Goals as goal

pub returns-then-has_place : goal.returns-then-has_place
returns-then-has_place c = placed_again c.args.places.now c.args.ids.now c.args.id.now c.requires (sym c.has_place.ensures ∙ c.if-has_place.true)

pub returns : goal.returns
returns c =
    let places = c.args.places.now in
    let id = c.args.id.now in
    placed_new places c.args.ids.now id c.requires c.put.new.places (sym c.has_place.ensures ∙ c.if-has_place.false)
    (λ text. c.in_ok-put.ensures text ∙ ap (λ t. update same_text (get_by_text places) t (Some c.len.result) text) c.as_str.ensures ∙ ap (λ n. update same_text (get_by_text places) id (Some n) text) c.len.ensures)
