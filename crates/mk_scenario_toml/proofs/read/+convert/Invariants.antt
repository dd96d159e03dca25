-- The invariants and measures of the loops of `read::+convert`.
use Rattle.std.proofs.Common.{◌≡◌, true, List, ◌++◌, take, map, String, Global}
use Rattle.std.specs.List.{list_all}
use Rattle.toml.specs.View.{view}
use Rattle.toml.specs.declared.value.Value.{Value}
use Rattle.mk_base.specs.Trees.{is_in_range}
use Rattle.mk_scenario_toml.specs.Document.{tree_of}
use Rattle.mk_scenario_toml.proofs.Values.{member_of}
use Rattle.mk_scenario_toml.proofs.read.+convert.Given as goal

abbrev pub invariant-convert_items-loop-item : goal.invariant-convert_items-loop-item
invariant-convert_items-loop-item l = (l.found ≡ map (λ v. tree_of (view v)) (take l.item-index l.item-items)) × (list_all is_in_range l.found ≡ true)

abbrev pub invariant-convert_members-loop-name : goal.invariant-convert_members-loop-name
invariant-convert_members-loop-name l = (done : List (String Global × Value)) × (l.members.entries ≡ done ++ l.name-iterator) × (l.found ≡ map member_of done) × (list_all (λ m. is_in_range m.1) l.found ≡ true)
