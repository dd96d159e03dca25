-- An `entities` table: a group.
use Rattle.std.specs.Prelude.{ℕ, not, List, [], codes, option_map, Result, Ok}
use Rattle.mk_base.specs.declared.json.Json.{Json}
use Rattle.mk_base.specs.declared.json.Json as tree
use Rattle.mk_base.specs.declared.SimNo.{SimNo}
use Rattle.mk_base.specs.Trees.{member}
use Rattle.mk_base.specs.Verdicts.{held, no_text, passed}
use Rattle.mk_scenario_keys.specs.Known.{group_keys}
use Rattle.mk_scenario_keys.specs.Tests.{found, key_in, item_in}
use Rattle.mk_scenario_keys.specs.Keys.{required, optional, first_unknown, count_within, text, name, values}
use Rattle.mk_scenario_keys.specs.declared.fault.ScenarioFault.{ScenarioFault}
use Rattle.mk_scenario_keys.specs.declared.fault.ScenarioFault.TheVariants.{UnknownKey, UnknownSim, Taken}
use Rattle.mk_scenario.specs.Sims.{texts_under}
use Rattle.mk_scenario.specs.Places.{place_in}
use Rattle.mk_scenario.specs.declared.parts.Group.{Group}
use Rattle.mk_scenario.specs.declared.groups.GroupSaid.{GroupSaid}
use Rattle.mk_base.specs.Limits.{most_entities}
use Rattle.mk_base.specs.Lists.{is_among}

-- the simulator of this id
abbrev pub sim_of_id : List (List ℕ) → List ℕ → List ℕ → Result SimNo ScenarioFault
sim_of_id sims path id = found (UnknownSim path id)
    (option_map (λ n. record { 0 = n }) (place_in sims id))

-- what the table of this path says
abbrev pub group_said : List ℕ → Json → Result GroupSaid ScenarioFault
group_said path table =
    no_text (λ key. UnknownKey (key_in path key)) (first_unknown group_keys table) (
    passed (required (key_in path (codes "id")) name (member (codes "id") table)) (λ id.
    passed (required (key_in path (codes "sim")) text (member (codes "sim") table)) (λ sim.
    passed (required (key_in path (codes "model")) text (member (codes "model") table)) (λ model.
    passed (optional 1 (key_in path (codes "num")) (count_within 1 most_entities)
    (member (codes "num") table)) (λ num.
    passed (optional (tree.Object []) (key_in path (codes "params")) values
    (member (codes "params") table)) (λ params.
    Ok (record { id = id; sim = sim; model = model; num = num; params = params })))))))

-- the simulator of the group that a table of this path says, where these ids are taken
abbrev pub said_sim : List (List ℕ) → List (List ℕ) → List ℕ → GroupSaid
    → Result SimNo ScenarioFault
said_sim sims taken path said = held (Taken said.id) (not (is_among taken said.id))
    (sim_of_id sims (key_in path (codes "sim")) said.sim)

-- the group that a table of this path says, where these ids are taken
abbrev pub group_made : List (List ℕ) → List (List ℕ) → List ℕ → GroupSaid
    → Result Group ScenarioFault
group_made sims taken path said =
    passed (said_sim sims taken path said) (λ no.
    Ok (record {
      id = said.id;
      sim = no;
      model = said.model;
      num = said.num;
      params = said.params;
    }))

-- the group of the table of this path, where these ids are taken
abbrev pub group_after : List (List ℕ) → List (List ℕ) → List ℕ → Json → Result Group ScenarioFault
group_after sims taken path table = passed (group_said path table) (group_made sims taken path)

-- the group of the table at place i, where these ids are taken
abbrev pub group_next : List (List ℕ) → List (List ℕ) → ℕ → Json → Result Group ScenarioFault
group_next sims taken i table = group_after sims taken (item_in (codes "entities") i) table

-- the group of the table at place i, after these tables
abbrev pub group_in : List (List ℕ) → List Json → ℕ → Json → Result Group ScenarioFault
group_in sims earlier i table = group_next sims (texts_under (codes "id") earlier) i table
