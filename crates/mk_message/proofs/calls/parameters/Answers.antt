-- Answers to the goals of `calls::parameters` that the prover leaves.
use Rattle.std.proofs.Common.{ℕ, List, sym, ap, ◌∙◌}
use Rattle.std.specs.List.{list_all}
use Rattle.mk_base.specs.declared.json.Json.{Json}
use Rattle.mk_base.specs.Trees.{is_in_range}
use Rattle.mk_json.proofs.LevelTests.{range-Object}
use Rattle.mk_message.proofs.calls.parameters.Goals as goal

pub put_parameters-requires : goal.put_parameters-requires
put_parameters-requires c =
    ap (list_all (λ (m : List ℕ × Json). is_in_range m.1)) c.entries.ensures.items ∙ sym (range-Object c.in-Object.members) ∙ ap is_in_range (sym c.in-Object.is) ∙ c.requires
