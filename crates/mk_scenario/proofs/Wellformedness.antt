-- A scenario that is read is well-formed.
use Rattle.std.proofs.Common.{◌≡◌, ℕ, ◌≤◌, ℤ, pos, ◌≤ℤ◌, arith, List, [], length, take, Result, Ok, Err, IfOk, IfSome, sym, subst, codes}
use Rattle.std.proofs.lemmas.List.{length-map}
use Rattle.mk_base.specs.declared.json.Json.{Json}
use Rattle.mk_base.specs.Lists.{Each}
use Rattle.mk_base.specs.Trees.{member}
use Rattle.mk_scenario_keys.specs.Tests.{item_in, each_at, each_after}
use Rattle.mk_scenario_keys.specs.Keys.{required, optional, first_unknown, whole_within, count_within, tables_within}
use Rattle.mk_scenario_keys.specs.Known.{top_keys}
use Rattle.mk_scenario_keys.specs.declared.fault.ScenarioFault.TheVariants.{UnknownKey}
use Rattle.mk_scenario_keys.proofs.Passing.{ok_same, passed_ok, no_text_ok, required_ok, each_gives_where, each_at_ok}
use Rattle.mk_scenario_keys.proofs.KeyFacts.{left_out_count, left_out_tables, left_out_range, whole_within_ok, tables_within_ok, tables_range}
use Rattle.mk_scenario_keys.proofs.Ranges.{InRange, under_range}
use Rattle.mk_scenario.specs.Sims.{texts_under, sim_in}
use Rattle.mk_scenario.specs.Groups.{group_in}
use Rattle.mk_scenario.specs.Blocks.{block_in}
use Rattle.mk_scenario.specs.Scenarios.{ids_of, scenario_in, with_parts}
use Rattle.mk_scenario.specs.Wellformed.{IsWellformedGroup, IsWellformedBlock, IsWellformed}
use Rattle.mk_scenario.specs.declared.parts.Block.{Block}
use Rattle.mk_scenario.specs.declared.parts.Group.{Group}
use Rattle.mk_scenario.specs.declared.parts.SimPart.{SimPart}
use Rattle.mk_scenario.specs.declared.parts.Scenario.{Scenario}
use Rattle.mk_scenario.proofs.SimFacts.{sims_ok, ids_ok}
use Rattle.mk_scenario.proofs.GroupFacts.{groups_ok, distinct}
use Rattle.mk_scenario.proofs.BlockFacts.{block_ok}
use Rattle.mk_base.specs.Limits.{latest_end}

-- what limits and tables say
module _ (until : ℤ) (loops entries : ℕ) (sim_tables group_tables block_tables : List Json) where
  parts_ok : (sims : List SimPart) (groups : List Group) (blocks : List Block) → (pos 1 ≤ℤ until) × (until ≤ℤ latest_end) → (1 ≤ loops) × (loops ≤ 1000) → (1 ≤ entries) × (entries ≤ 20000000)
      → (1 ≤ length sim_tables) × (length sim_tables ≤ 200) → length group_tables ≤ 10000 → length block_tables ≤ 100000 → Each InRange sim_tables → Each InRange group_tables → Each InRange block_tables
      → each_after sim_in sim_tables ≡ Ok sims → each_after (group_in (ids_of sims)) group_tables ≡ Ok groups → each_at (block_in (ids_of sims) groups) block_tables ≡ Ok blocks
      → IsWellformed (record { until = until; loops = loops; entries = entries; sims = sims; groups = groups; blocks = blocks })
  parts_ok sims groups blocks until_fits loops_fit entries_fit sim_count group_count block_count sims_all groups_all blocks_all sims_are groups_are blocks_are =
      let ids_count = length-map sims (λ (s : SimPart). s.id) in
      record {
        until = until_fits;
        loops = loops_fit;
        entries = entries_fit;
        sim_count = subst (λ n. (1 ≤ n) × (n ≤ 200)) (sym (each_at_ok (λ i table. sim_in (take i sim_tables) i table) sim_tables sims sims_are).0) sim_count;
        group_count = subst (λ n. n ≤ 10000) (sym (each_at_ok (λ i table. group_in (ids_of sims) (take i group_tables) i table) group_tables groups groups_are).0) group_count;
        block_count = subst (λ n. n ≤ 100000) (sym (each_at_ok (block_in (ids_of sims) groups) block_tables blocks blocks_are).0) block_count;
        ids = (texts_under (codes "name") sim_tables, ids_ok sim_tables sims sims_all sims_are);
        sims = sims_ok sim_tables sims sims_all sims_are;
        groups = subst (λ n. Each (IsWellformedGroup n) groups) ids_count (groups_ok (ids_of sims) group_tables groups groups_all groups_are);
        group_ids = distinct (ids_of sims) group_tables groups groups_all groups_are;
        blocks = subst (λ n. Each (IsWellformedBlock n groups) blocks) ids_count (each_gives_where (block_in (ids_of sims) groups) InRange (IsWellformedBlock (length (ids_of sims)) groups) block_tables blocks blocks_are blocks_all (λ i table b within w. block_ok (ids_of sims) groups (item_in (codes "connect") i) table b within w));
      }

  with_parts_ok : (S : Scenario) → (pos 1 ≤ℤ until) × (until ≤ℤ latest_end) → (1 ≤ loops) × (loops ≤ 1000) → (1 ≤ entries) × (entries ≤ 20000000)
      → (1 ≤ length sim_tables) × (length sim_tables ≤ 200) → length group_tables ≤ 10000 → length block_tables ≤ 100000 → Each InRange sim_tables → Each InRange group_tables → Each InRange block_tables
      → with_parts until loops entries sim_tables group_tables block_tables ≡ Ok S → IsWellformed S
  with_parts_ok S until_fits loops_fit entries_fit sim_count group_count block_count sims_all groups_all blocks_all e =
      let sims = passed_ok (each_after sim_in sim_tables) _ _ e in
      let groups = passed_ok (each_after (group_in (ids_of sims.0)) group_tables) _ _ sims.2 in
      let blocks = passed_ok (each_at (block_in (ids_of sims.0) groups.0) block_tables) _ _ groups.2 in
      subst IsWellformed (ok_same _ S blocks.2) (parts_ok sims.0 groups.0 blocks.0 until_fits loops_fit entries_fit sim_count group_count block_count sims_all groups_all blocks_all sims.1 groups.1 blocks.1)

pub scenario_is_wellformed : (document : Json) (S : Scenario) → InRange document → scenario_in document ≡ Ok S → IsWellformed S
scenario_is_wellformed document S all e =
    let known = no_text_ok UnknownKey (first_unknown top_keys document) _ _ e in
    let until = passed_ok (required (codes "until") (whole_within (pos 1) latest_end) (member (codes "until") document)) _ _ known.1 in
    let loops = passed_ok (optional 100 (codes "max_loop_iterations") (count_within 1 1000) (member (codes "max_loop_iterations") document)) _ _ until.2 in
    let entries = passed_ok (optional 2000000 (codes "max_entries") (count_within 1 20000000) (member (codes "max_entries") document)) _ _ loops.2 in
    let sim_tables = passed_ok (required (codes "sim") (tables_within 1 200) (member (codes "sim") document)) _ _ entries.2 in
    let group_tables = passed_ok (optional [] (codes "entities") (tables_within 0 10000) (member (codes "entities") document)) _ _ sim_tables.2 in
    let block_tables = passed_ok (optional [] (codes "connect") (tables_within 0 100000) (member (codes "connect") document)) _ _ group_tables.2 in
    let until_is = required_ok (codes "until") (whole_within (pos 1) latest_end) (member (codes "until") document) until.0 until.1 in
    let sims_is = required_ok (codes "sim") (tables_within 1 200) (member (codes "sim") document) sim_tables.0 sim_tables.1 in
    with_parts_ok until.0 loops.0 entries.0 sim_tables.0 group_tables.0 block_tables.0 S
    (whole_within_ok (pos 1) latest_end (codes "until") until_is.0 until.0 until_is.2)
    (left_out_count 100 1 1000 (codes "max_loop_iterations") (member (codes "max_loop_iterations") document) loops.0 loops.1 (omega arith, omega arith))
    (left_out_count 2000000 1 20000000 (codes "max_entries") (member (codes "max_entries") document) entries.0 entries.1 (omega arith, omega arith))
    (tables_within_ok 1 200 (codes "sim") sims_is.0 sim_tables.0 sims_is.2)
    (left_out_tables 10000 (codes "entities") (member (codes "entities") document) group_tables.0 group_tables.1)
    (left_out_tables 100000 (codes "connect") (member (codes "connect") document) block_tables.0 block_tables.1)
    (tables_range 1 200 (codes "sim") sims_is.0 sim_tables.0 (subst (λ o. IfSome o InRange) sims_is.1 (under_range document (codes "sim") all)) sims_is.2)
    (left_out_range 10000 (codes "entities") (member (codes "entities") document) group_tables.0 (under_range document (codes "entities") all) group_tables.1)
    (left_out_range 100000 (codes "connect") (member (codes "connect") document) block_tables.0 (under_range document (codes "connect") all) block_tables.1)
    block_tables.2

-- the same of what answers by a document
pub wellformed_where_ok : {E : Type 0} (document : Json) (r : Result Scenario E) → InRange document → IfOk r (λ S. scenario_in document ≡ Ok S) → IfOk r (λ S. IsWellformed S)
wellformed_where_ok document (Ok S) all e = scenario_is_wellformed document S all e
wellformed_where_ok document (Err fault) all e = tt
