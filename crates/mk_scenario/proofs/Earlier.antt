-- The ids that earlier tables have.
use Rattle.std.proofs.Common.{◌≡◌, ℕ, ◌+◌, ◌<◌, List, [], ◌∷◌, ◌++◌, take, length, get_or, codes, Some, Ok, ap, ◌∙◌, sym}
use Rattle.std.proofs.lemmas.List.{take_more}
use Rattle.std.proofs.lemmas.List.Elements.{filter_map-append}
use Rattle.std.specs.List.{filter_map, cons_option}
use Rattle.mk_base.specs.declared.json.Json.{Json}
use Rattle.mk_base.specs.declared.json.Json as tree
use Rattle.mk_base.specs.Trees.{member}
use Rattle.mk_scenario_keys.specs.Known.{group_keys}
use Rattle.mk_scenario_keys.specs.Keys.{required, optional, first_unknown, count_within, text, name, values}
use Rattle.mk_scenario_keys.specs.Tests.{key_in}
use Rattle.mk_scenario_keys.specs.declared.fault.ScenarioFault.TheVariants.{UnknownKey}
use Rattle.mk_scenario_keys.proofs.KeyFacts.{name_under}
use Rattle.mk_scenario_keys.proofs.Passing.{ok_same, passed_ok, no_text_ok}
use Rattle.mk_scenario.specs.inner.Groups.{id_in}
use Rattle.mk_scenario.specs.Groups.{group_said, said_sim, group_after}
use Rattle.mk_scenario.specs.Sims.{texts_under}
use Rattle.mk_scenario.specs.declared.parts.Group.{Group}
use Rattle.mk_scenario.specs.declared.groups.GroupSaid.{GroupSaid}

said_id : (path : List ℕ) (table : Json) (s : GroupSaid) → group_said path table ≡ Ok s → id_in table ≡ Some s.id
said_id path table s e =
    let known = no_text_ok (λ key. UnknownKey (key_in path key)) (first_unknown group_keys table) _ _ e in
    let id = passed_ok (required (key_in path (codes "id")) name (member (codes "id") table)) _ _ known.1 in
    let sim = passed_ok (required (key_in path (codes "sim")) text (member (codes "sim") table)) _ _ id.2 in
    let model = passed_ok (required (key_in path (codes "model")) text (member (codes "model") table)) _ _ sim.2 in
    let num = passed_ok (optional 1 (key_in path (codes "num")) (count_within 1 10000) (member (codes "num") table)) _ _ model.2 in
    let params = passed_ok (optional (tree.Object []) (key_in path (codes "params")) values (member (codes "params") table)) _ _ num.2 in
    (name_under (codes "id") (key_in path (codes "id")) table id.0 id.1).0 ∙ ap (λ (t : GroupSaid). Some t.id) (ok_same _ s params.2)

-- a group that was read has the id that stands in its table
pub group_named : (ids taken : List (List ℕ)) (path : List ℕ) (table : Json) (g : Group) → group_after ids taken path table ≡ Ok g → id_in table ≡ Some g.id
group_named ids taken path table g e =
    let said = passed_ok (group_said path table) _ _ e in
    let sim = passed_ok (said_sim ids taken path said.0) _ _ said.2 in
    said_id path table said.0 said.1 ∙ ap (λ (h : Group). Some h.id) (ok_same _ g sim.2)

-- the ids of one more table
pub ids_more : (tables : List Json) (i : ℕ) (table : Json) (id : List ℕ) → i < length tables → table ≡ get_or tables i table → id_in table ≡ Some id → texts_under (codes "id") (take (i + 1) tables) ≡ texts_under (codes "id") (take i tables) ++ id ∷ []
ids_more tables i table id below is has =
    ap (filter_map id_in) (take_more tables i table below ∙ ap (λ t. take i tables ++ t ∷ []) (sym is))
    ∙ filter_map-append id_in (take i tables) (table ∷ [])
    ∙ ap (λ o. filter_map id_in (take i tables) ++ cons_option o []) has
