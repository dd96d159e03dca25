-- The scenario that a TOML document is, or the first test that it fails.
use Rattle.std.specs.Prelude.{ℕ, ℤ, pos, List, [], map, codes, Result, Ok}
use Rattle.mk_base.specs.declared.json.Json.{Json}
use Rattle.mk_base.specs.Trees.{member}
use Rattle.mk_base.specs.Verdicts.{no_text, passed}
use Rattle.mk_scenario_toml.specs.Document.{toml_of}
use Rattle.mk_scenario_keys.specs.Known.{top_keys}
use Rattle.mk_scenario_keys.specs.Tests.{found, each_at, each_after}
use Rattle.mk_scenario_keys.specs.Keys.{required, optional, first_unknown, whole_within, count_within, tables_within}
use Rattle.mk_scenario_keys.specs.declared.fault.ScenarioFault.{ScenarioFault}
use Rattle.mk_scenario_keys.specs.declared.fault.ScenarioFault.TheVariants.{NotToml, UnknownKey}
use Rattle.mk_scenario.specs.Sims.{sim_in}
use Rattle.mk_scenario.specs.Groups.{group_in}
use Rattle.mk_scenario.specs.Blocks.{block_in}
use Rattle.mk_scenario.specs.declared.parts.SimPart.{SimPart}
use Rattle.mk_scenario.specs.declared.parts.Scenario.{Scenario}
use Rattle.mk_base.specs.Limits.{latest_end, most_conns, most_entities, most_entries, most_loops, most_sims}

-- the ids of the simulators
abbrev pub ids_of : List SimPart → List (List ℕ)
ids_of sims = map (λ (s : SimPart). s.id) sims

-- the scenario of these limits and tables: each simulator, each group and each block in order
abbrev pub with_parts : ℤ → ℕ → ℕ → List Json → List Json → List Json
    → Result Scenario ScenarioFault
with_parts until loops entries sim_tables group_tables block_tables =
    passed (each_after sim_in sim_tables) (λ sims.
    passed (each_after (group_in (ids_of sims)) group_tables) (λ groups.
    passed (each_at (block_in (ids_of sims) groups) block_tables) (λ blocks.
    Ok (record {
      until = until;
      loops = loops;
      entries = entries;
      sims = sims;
      groups = groups;
      blocks = blocks;
    }))))

-- the tests of a document: the top table's, and then those of its parts
abbrev pub scenario_in : Json → Result Scenario ScenarioFault
scenario_in document =
    no_text UnknownKey (first_unknown top_keys document) (
    passed (required (codes "until") (whole_within (pos 1) latest_end)
    (member (codes "until") document)) (λ until.
    passed (optional 100 (codes "max_loop_iterations") (count_within 1 most_loops)
    (member (codes "max_loop_iterations") document)) (λ loops.
    passed (optional 2000000 (codes "max_entries") (count_within 1 most_entries)
    (member (codes "max_entries") document)) (λ entries.
    passed (required (codes "sim") (tables_within 1 most_sims) (member (codes "sim") document))
    (λ sim_tables.
    passed (optional [] (codes "entities") (tables_within 0 most_entities)
    (member (codes "entities") document)) (λ group_tables.
    passed (optional [] (codes "connect") (tables_within 0 most_conns)
    (member (codes "connect") document)) (λ block_tables.
    with_parts until loops entries sim_tables group_tables block_tables)))))))

-- the scenario that the bytes of a file are: they are TOML, and the document passes its tests
abbrev pub scenario_of : List ℕ → Result Scenario ScenarioFault
scenario_of bytes = passed (found NotToml (toml_of bytes)) scenario_in
