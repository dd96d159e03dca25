-- What is known of groups that are read.
use Rattle.std.proofs.Common.{◌≡◌, ◌≢◌, ℕ, ◌<◌, arith, true, false, not, List, [], length, take, get_or, Option, Some, None, option_map, slice_get, nat_lt, AllPairs, Result, Ok, refl, ap, ◌∙◌, subst, sym, codes, if◌then◌else◌}
use Rattle.std.specs.List.{position_or_len}
use Rattle.std.proofs.lemmas.Bool.{not-true, both_ways, ltb-true}
use Rattle.mk_base.specs.declared.json.Json.{Json}
use Rattle.mk_base.specs.declared.json.Json as tree
use Rattle.mk_base.specs.declared.SimNo.{SimNo}
use Rattle.mk_base.specs.Lists.{Each, same_text, is_among}
use Rattle.mk_base.specs.Trees.{member}
use Rattle.mk_base.proofs.Lists.{some_same, in_each, at_in, filter_map_in, passes_some}
use Rattle.mk_scenario_keys.specs.Tests.{key_in, item_in, each_after}
use Rattle.mk_scenario_keys.specs.Keys.{required, optional, first_unknown, count_within, text, name, values}
use Rattle.mk_scenario_keys.specs.Known.{group_keys}
use Rattle.mk_scenario_keys.specs.declared.fault.ScenarioFault.{ScenarioFault}
use Rattle.mk_scenario_keys.specs.declared.fault.ScenarioFault.TheVariants.{UnknownKey, UnknownSim, Taken}
use Rattle.mk_scenario_keys.proofs.Passing.{ok_same, passed_ok, held_ok, no_text_ok, found_ok, chosen_some, each_gives_where, each_at_ok}
use Rattle.mk_scenario_keys.proofs.Ranges.{InRange, under_range}
use Rattle.mk_scenario_keys.proofs.KeyFacts.{left_out_values, left_out_count, text_under, name_under}
use Rattle.mk_scenario.specs.Sims.{texts_under}
use Rattle.mk_scenario.specs.Groups.{sim_of_id, group_said, said_sim, group_made, group_after, group_in}
use Rattle.mk_scenario.specs.Places.{place_in}
use Rattle.mk_scenario.specs.declared.groups.GroupSaid.{GroupSaid}
use Rattle.mk_scenario.specs.Wellformed.{IsWellformedGroup}
use Rattle.mk_scenario.specs.declared.parts.Group.{Group}
use Rattle.mk_scenario.proofs.ListFacts.{get_taken}
use Rattle.mk_base.proofs.Items.{get_default, same_text_self}

pub below_chosen : (n most i : ℕ) → (if nat_lt n most then Some n else None) ≡ Some i → i < most
below_chosen n most i e = let t = chosen_some (nat_lt n most) n i e in subst (λ k. k < most) t.1 (ltb-true n most t.0)

-- a place among the ids
pub place_ok : (ids : List (List ℕ)) (id : List ℕ) (n : ℕ) → place_in ids id ≡ Some n → n < length ids
place_ok ids id n e = below_chosen (position_or_len (λ x. same_text id x) ids) (length ids) n e

pub sim_of_ok : (ids : List (List ℕ)) (path id : List ℕ) (s : SimNo) → sim_of_id ids path id ≡ Ok s → s.0 < length ids
sim_of_ok ids path id s e = at (place_in ids id) refl (found_ok (UnknownSim path id) (option_map (λ n. record { 0 = n }) (place_in ids id)) s e)
  where
    at : (o : Option ℕ) → place_in ids id ≡ o → option_map (λ n. record { 0 = n }) o ≡ Some s → s.0 < length ids
    at None is e = cc
    at (Some n) is e = subst (λ (m : SimNo). m.0 < length ids) (some_same e) (place_ok ids id n is)

-- what is known of the group of a table
IsGroupOf : ℕ → List Json → Json → Group → Type 0
IsGroupOf sims earlier table g = IsWellformedGroup sims g × (text_under (codes "id") table ≡ Some g.id) × (is_among (texts_under (codes "id") earlier) g.id ≡ false)

group_ok : (ids : List (List ℕ)) (path : List ℕ) (earlier : List Json) (table : Json) (g : Group) → InRange table → group_after ids (texts_under (codes "id") earlier) path table ≡ Ok g → IsGroupOf (length ids) earlier table g
unfolding IsGroupOf
group_ok ids path earlier table g all e =
    let taken = texts_under (codes "id") earlier in
    let said = passed_ok (group_said path table) _ _ e in
    let known = no_text_ok (λ key. UnknownKey (key_in path key)) (first_unknown group_keys table) _ _ said.1 in
    let id = passed_ok (required (key_in path (codes "id")) name (member (codes "id") table)) _ _ known.1 in
    let sim = passed_ok (required (key_in path (codes "sim")) text (member (codes "sim") table)) _ _ id.2 in
    let model = passed_ok (required (key_in path (codes "model")) text (member (codes "model") table)) _ _ sim.2 in
    let num = passed_ok (optional 1 (key_in path (codes "num")) (count_within 1 10000) (member (codes "num") table)) _ _ model.2 in
    let params = passed_ok (optional (tree.Object []) (key_in path (codes "params")) values (member (codes "params") table)) _ _ num.2 in
    let said_is = ok_same (record { id = id.0; sim = sim.0; model = model.0; num = num.0; params = params.0 }) said.0 params.2 in
    let made = subst (λ (s : GroupSaid). group_made ids taken path s ≡ Ok g) (sym said_is) said.2 in
    let words : GroupSaid = record { id = id.0; sim = sim.0; model = model.0; num = num.0; params = params.0 } in
    let found = passed_ok (said_sim ids taken path words) _ _ made in
    let free = held_ok (Taken id.0) (not (is_among taken id.0)) _ _ found.1 in
    let id_is = name_under (codes "id") (key_in path (codes "id")) table id.0 id.1 in
    subst (IsGroupOf (length ids) earlier table) (ok_same _ g found.2) (
      record {
        id = id_is.1;
        sim = sim_of_ok ids (key_in path (codes "sim")) sim.0 found.0 free.1;
        num = left_out_count 1 1 10000 (key_in path (codes "num")) (member (codes "num") table) num.0 num.1 (omega arith, omega arith);
        params = left_out_values (key_in path (codes "params")) (member (codes "params") table) params.0 (under_range table (codes "params") all) params.1;
      },
      id_is.0,
      not-true (is_among (texts_under (codes "id") earlier) id.0) free.0,
    )

-- the groups of these tables
module _ (ids : List (List ℕ)) (tables : List Json) (groups : List Group) (all : Each InRange tables) (e : each_after (group_in ids) tables ≡ Ok groups) where
  abbrev one_group : ℕ → Json → Result Group ScenarioFault
  one_group i table = group_in ids (take i tables) i table

  pub groups_ok : Each (IsWellformedGroup (length ids)) groups
  unfolding IsGroupOf
  groups_ok = each_gives_where one_group InRange (IsWellformedGroup (length ids)) tables groups e all (λ i table g within w. (group_ok ids (item_in (codes "entities") i) (take i tables) table g within w).0)

  at_group : (i : ℕ) (g : Group) → slice_get groups i ≡ Some g → (table : Json) × (slice_get tables i ≡ Some table) × IsGroupOf (length ids) (take i tables) table g
  at_group i g at = let t = (each_at_ok one_group tables groups e).1 i g at in (t.0, t.1, group_ok ids (item_in (codes "entities") i) (take i tables) t.0 g (in_each InRange t.0 tables all (at_in t.0 tables i t.1)) t.2)

  apart : (i j : ℕ) (g h : Group) → i < j → slice_get groups i ≡ Some g → slice_get groups j ≡ Some h → g.id ≢ h.id
  unfolding IsGroupOf
  apart i j g h before first second same =
      let t = at_group i g first in
      let s = at_group j h second in
      let there = at_in t.0 (take j tables) i (get_taken tables i j before ∙ t.1) in
      let among = filter_map_in (text_under (codes "id")) t.0 g.id (take j tables) there t.2.1 in
      let test : same_text g.id h.id ≡ true = ap (λ u. same_text u h.id) same ∙ same_text_self h.id in
      both_ways (is_among (texts_under (codes "id") (take j tables)) h.id) s.2.2 (passes_some (λ u. same_text u h.id) g.id (texts_under (codes "id") (take j tables)) among test)

  pub distinct : AllPairs (λ (g h : Group). g.id ≢ h.id) groups
  distinct i j d before inside =
      let first : i < length groups = omega arith in
      apart i j (get_or groups i d) (get_or groups j d) before (get_default groups i d first) (get_default groups j d inside)
