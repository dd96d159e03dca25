-- What is known of simulators that are read.
use Rattle.std.proofs.Common.{◌≡◌, ℕ, ◌≤◌, pos, true, not, List, [], map, take, Option, Some, None, option_map, option_and_then, slice_get, is_some, IsSome, IsTrue, IfSome, Result, Ok, refl, sym, ap, ◌∙◌, subst, codes}
use Rattle.std.proofs.lemmas.List.{length-map}
use Rattle.mk_base.specs.declared.json.Json.{Json}
use Rattle.mk_base.specs.declared.json.Json as tree
use Rattle.mk_base.specs.Lists.{Each}
use Rattle.mk_base.specs.Trees.{member}
use Rattle.mk_base.proofs.Lists.{some_same, each_in, in_each, in_at, at_in, in_filter_map}
use Rattle.mk_scenario_keys.specs.Spelling.{is_name}
use Rattle.mk_scenario_keys.specs.Tests.{key_in, item_in, each_after}
use Rattle.mk_scenario_keys.specs.Keys.{required, optional, first_unknown, wholes_within, name, some_text, some_port, values}
use Rattle.mk_scenario_keys.specs.Known.{sim_keys}
use Rattle.mk_scenario_keys.specs.declared.fault.ScenarioFault.{ScenarioFault}
use Rattle.mk_scenario_keys.specs.declared.fault.ScenarioFault.TheVariants.{UnknownKey}
use Rattle.mk_scenario_keys.proofs.Passing.{ok_same, passed_ok, held_ok, no_text_ok, each_gives_where, each_at_ok, each_item_ok}
use Rattle.mk_scenario_keys.proofs.Ranges.{InRange, under_range}
use Rattle.mk_scenario_keys.proofs.KeyFacts.{left_out_port, left_out_values, left_out_wholes, text_under, name_under}
use Rattle.mk_scenario.specs.Sims.{texts_under, sim_id, begin_of, own_params, sim_at, sim_in}
use Rattle.mk_scenario.specs.Scenarios.{ids_of}
use Rattle.mk_scenario.specs.Wellformed.{AreIdsOf, HasPort, IsWellformedSim}
use Rattle.mk_scenario.specs.declared.parts.Begin.{Begin}
use Rattle.mk_scenario.specs.declared.parts.Begin.TheVariants.{Command, Connect, Local}
use Rattle.mk_scenario.specs.declared.parts.SimPart.{SimPart}
use Rattle.mk_scenario.proofs.ListFacts.{all_kept, none_there, none_also}
use Rattle.mk_base.specs.Limits.{latest_end}
use Rattle.mk_base.proofs.Items.{get_map}

begin_ok : (path : List ℕ) (command : Option (List ℕ)) (connect : Option ℕ) (kind : Option (List ℕ)) (begin : Begin) → begin_of path command connect kind ≡ Ok begin → IfSome connect (λ port. (1 ≤ port) × (port ≤ 65535)) → HasPort begin
begin_ok path (Some c) None None begin e p = subst HasPort (ok_same (Command c) begin e) tt
begin_ok path None (Some port) None begin e p = subst HasPort (ok_same (Connect port) begin e) p
begin_ok path None None (Some k) begin e p = subst HasPort (ok_same (Local k) begin e) tt
begin_ok path None None None begin e p = cc
begin_ok path (Some c) (Some port) None begin e p = cc
begin_ok path (Some c) None (Some k) begin e p = cc
begin_ok path (Some c) (Some port) (Some k) begin e p = cc
begin_ok path None (Some port) (Some k) begin e p = cc

-- what is known of the simulator of a table
IsSimOf : List Json → Json → SimPart → Type 0
IsSimOf earlier table s = IsWellformedSim s × ((n : List ℕ) × (text_under (codes "name") table ≡ Some n) × (is_name n ≡ true) × (s.id ≡ sim_id (texts_under (codes "name") earlier) n))

sim_ok : (path : List ℕ) (earlier : List Json) (table : Json) (s : SimPart) → InRange table → sim_at path earlier table ≡ Ok s → IsSimOf earlier table s
unfolding IsSimOf
sim_ok path earlier table s all e =
    let known = no_text_ok (λ key. UnknownKey (key_in path key)) (first_unknown sim_keys table) _ _ e in
    let named = passed_ok (required (key_in path (codes "name")) name (member (codes "name") table)) _ _ known.1 in
    let command = passed_ok (optional None (key_in path (codes "command")) some_text (member (codes "command") table)) _ _ named.2 in
    let connect = passed_ok (optional None (key_in path (codes "connect")) some_port (member (codes "connect") table)) _ _ command.2 in
    let kind = passed_ok (optional None (key_in path (codes "local")) some_text (member (codes "local") table)) _ _ connect.2 in
    let params = passed_ok (optional (tree.Object []) (key_in path (codes "params")) values (member (codes "params") table)) _ _ kind.2 in
    let initial = passed_ok (optional [] (key_in path (codes "initial_events")) (wholes_within (pos 0) latest_end) (member (codes "initial_events") table)) _ _ params.2 in
    let begin = passed_ok (begin_of path command.0 connect.0 kind.0) _ _ initial.2 in
    let own = passed_ok (own_params path params.0) _ _ begin.2 in
    let resolution = held_ok (UnknownKey (key_in (key_in path (codes "params")) (codes "time_resolution"))) (not (is_some (member (codes "time_resolution") params.0))) _ _ own.1 in
    let name_is = name_under (codes "name") (key_in path (codes "name")) table named.0 named.1 in
    subst (IsSimOf earlier table) (ok_same _ s own.2) (
      record {
        port = begin_ok path command.0 connect.0 kind.0 begin.0 begin.1 (left_out_port (key_in path (codes "connect")) (member (codes "connect") table) connect.0 connect.1);
        params = left_out_values (key_in path (codes "params")) (member (codes "params") table) params.0 (under_range table (codes "params") all) params.1;
        resolution = none_there (member (codes "time_resolution") params.0) resolution.0;
        initial = left_out_wholes (pos 0) latest_end (key_in path (codes "initial_events")) (member (codes "initial_events") table) initial.0 initial.1;
      },
      (named.0, name_is.0, name_is.1, refl),
    )

-- the simulators of these tables
module _ (tables : List Json) (sims : List SimPart) (all : Each InRange tables) (e : each_after sim_in tables ≡ Ok sims) where
  abbrev one : ℕ → Json → Result SimPart ScenarioFault
  one i table = sim_in (take i tables) i table

  abbrev names : List (List ℕ)
  names = texts_under (codes "name") tables

  pub sims_ok : Each IsWellformedSim sims
  unfolding IsSimOf
  sims_ok = each_gives_where one InRange IsWellformedSim tables sims e all (λ i table s within w. (sim_ok (item_in (codes "sim") i) (take i tables) table s within w).0)

  sim_at_table : (i : ℕ) (table : Json) → slice_get tables i ≡ Some table → (s : SimPart) × (slice_get sims i ≡ Some s) × IsSimOf (take i tables) table s
  sim_at_table i table at = let t = each_item_ok one tables sims e i table at in (t.0, t.1, sim_ok (item_in (codes "sim") i) (take i tables) table t.0 (in_each InRange table tables all (at_in table tables i at)) t.2)

  have_names : Each (λ table. IsSome (text_under (codes "name") table)) tables
  unfolding IsSimOf
  have_names = each_in _ tables (λ table m. let at = in_at table tables m in let t = sim_at_table at.0 table at.1 in ap is_some t.2.1.1)

  names_ok : Each (λ n. IsTrue (is_name n)) names
  unfolding IsSimOf
  names_ok = each_in _ names (λ n m.
      let t = in_filter_map (text_under (codes "name")) n tables m in
      let at = in_at t.0 tables t.1 in
      let s = sim_at_table at.0 t.0 at.1 in
      ap is_name (some_same (sym t.2 ∙ s.2.1.1)) ∙ s.2.1.2)

  id_at : (i : ℕ) (o : Option Json) → slice_get tables i ≡ o → slice_get (map (λ (s : SimPart). s.id) sims) i ≡ option_map (sim_id (take i names)) (option_and_then (text_under (codes "name")) o)
  unfolding IsSimOf
  id_at i None none = get_map (λ (s : SimPart). s.id) sims i ∙ ap (option_map (λ (s : SimPart). s.id)) (none_also tables sims i (sym (each_at_ok one tables sims e).0) none)
  id_at i (Some table) at =
      let t = sim_at_table i table at in
      let taken = (all_kept (text_under (codes "name")) tables have_names).2 i in
      get_map (λ (s : SimPart). s.id) sims i ∙ ap (option_map (λ (s : SimPart). s.id)) t.1 ∙ ap Some t.2.1.3 ∙ ap (λ l. Some (sim_id l t.2.1.0)) (sym taken) ∙ ap (option_map (sim_id (take i names))) (sym t.2.1.1)

  pub ids_ok : AreIdsOf names (ids_of sims)
  ids_ok = let kept = all_kept (text_under (codes "name")) tables have_names in record {
    spelled = names_ok;
    count = kept.0 ∙ sym (each_at_ok one tables sims e).0 ∙ sym (length-map sims (λ (s : SimPart). s.id));
    each = λ i. id_at i (slice_get tables i) refl ∙ ap (option_map (sim_id (take i names))) (sym (kept.1 i));
  }
