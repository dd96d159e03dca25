-- Answers to the goals of `names::put` that the prover leaves.
use Rattle.std.proofs.Common.{ap, ◌∙◌, arith, Some}
use Rattle.std.specs.String.{string_bytes}
use Rattle.std.specs.HashMap.{get_by_text}
use Rattle.std.specs.Map.{update}
use Rattle.std.proofs.lemmas.Map.Text.{hash_map_updates_text}
use Rattle.mk_base.specs.Lists.{same_text}
use Rattle.mk_scenario.proofs.names.put.Goals as goal

pub returns-in_ok-insert-in-Ok : goal.returns-in_ok-insert-in-Ok
returns-in_ok-insert-in-Ok c = λ text.
    let key = c.in_ok-from_str-in-Ok.field-0 in
    hash_map_updates_text (string_bytes key) c.args.places.now c.insert.new.self (Some c.in-Ok.place) c.in_ok-insert-in-Ok.ensures.updates text
    ∙ ap (λ bytes. update same_text (get_by_text c.args.places.now) bytes (Some c.in-Ok.place) text) c.in_ok-from_str-in-Ok.ensures.ok
    ∙ ap (λ n. update same_text (get_by_text c.args.places.now) c.args.id.now (Some n) text) (omega (arith, c.in-Ok.ensures))
