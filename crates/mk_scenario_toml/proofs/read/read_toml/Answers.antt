-- Answers to the goals of `read::read_toml` that the prover leaves.
use Rattle.std.proofs.Common.{◌∙◌, Some, ap, sym, true≢false}
use Rattle.mk_base.specs.declared.json.Json as tree
use Rattle.toml.specs.View.{table_view}
use Rattle.mk_scenario_toml.proofs.Levels.{range_members, object_is}
use Rattle.mk_scenario_toml.proofs.Texts.{toml_is, toml_none}
use Rattle.mk_scenario_toml.proofs.read.read_toml.Goals as goal

pub returns-in_ok-convert_members-in-Ok-clause-sound : goal.returns-in_ok-convert_members-in-Ok-clause-sound
returns-in_ok-convert_members-in-Ok-clause-sound c = (range_members _ ∙ c.in_ok-convert_members-in-Ok.ensures.in_range, object_is _)

pub returns-in_ok-convert_members-in-Ok-clause-ok : goal.returns-in_ok-convert_members-in-Ok-clause-ok
returns-in_ok-convert_members-in-Ok-clause-ok c = let read = c.in-Ok.ensures.ok in toml_is c.args.bytes.now (table_view c.in-Ok.table) read.0 read.1 ∙ ap (λ ms. Some (tree.Object ms)) (sym c.in_ok-convert_members-in-Ok.ensures.trees)

pub returns-else-is_memory-clause-refused : goal.returns-else-is_memory-clause-refused
returns-else-is_memory-clause-refused c = λ _. toml_none c.args.bytes.now (c.in-Err.ensures.refused (λ m. true≢false (sym (c.if-is_memory.ensures.1 m))))
