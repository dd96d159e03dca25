-- What is known of blocks that are read.
use Rattle.std.proofs.Common.{◌≡◌, ℕ, ◌<◌, ◌≤◌, Bool, true, false, ◌&&◌, ◌||◌, List, [], map, length, Option, Some, None, is_some, IfSome, nat_lt, ◌==◌, Ok, refl, subst, sym, ◌∙◌, codes, if◌then◌else◌}
use Rattle.std.specs.List.{before_first, after_first}
use Rattle.std.proofs.lemmas.List.{length-map}
use Rattle.mk_base.specs.declared.json.Json.{Json}
use Rattle.mk_base.specs.declared.json.Json as tree
use Rattle.mk_base.specs.declared.tier.Via.TheVariants.{Plain}
use Rattle.mk_base.specs.Lists.{IsIn, Each, is_among}
use Rattle.mk_base.specs.Tiers.{HasWidth}
use Rattle.mk_base.specs.Trees.{member, members_of}
use Rattle.mk_scenario_keys.specs.Spelling.{spelled}
use Rattle.mk_scenario_keys.specs.Tests.{found, key_in}
use Rattle.mk_scenario_keys.specs.Keys.{IsObjectOfData, required, optional, first_unknown, text, truth, some_width, values}
use Rattle.mk_scenario_keys.specs.Known.{block_keys}
use Rattle.mk_scenario_keys.specs.declared.fault.ScenarioFault.TheVariants.{UnknownKey, UnknownGroup, OutOfRange, TwoKinds, Uneven}
use Rattle.mk_scenario_keys.proofs.Passing.{ok_same, passed_ok, held_ok, no_text_ok, found_ok, and_then_some, none_found}
use Rattle.mk_scenario_keys.proofs.KeyFacts.{left_out_values, left_out_width}
use Rattle.mk_scenario_keys.proofs.Ranges.{InRange, under_range}
use Rattle.mk_scenario.specs.Groups.{sim_of_id}
use Rattle.mk_scenario.specs.Places.{place_in}
use Rattle.mk_scenario.specs.References.{has_byte, ends_with, but_last, full_id, group_ids, group_of_id, num_at, index_below, indexed, whole, place_of, size_of}
use Rattle.mk_scenario.specs.Blocks.{pairs, via_of, at_most_one, first_unfed, initial_fits, sides_pair, manner_said, block_said, block_fits, block_made, block_at}
use Rattle.mk_scenario.specs.Wellformed.{IsPlace, IsWellformedBlock}
use Rattle.mk_scenario.specs.declared.parts.Group.{Group}
use Rattle.mk_scenario.specs.declared.parts.Place.{Place}
use Rattle.mk_scenario.specs.declared.parts.Place.TheVariants.{Whole, One, Full}
use Rattle.mk_scenario.specs.declared.parts.AttrPair.{AttrPair}
use Rattle.mk_scenario.specs.declared.parts.Block.{Block}
use Rattle.mk_scenario.specs.declared.blocks.Manner.{Manner}
use Rattle.mk_scenario.specs.declared.blocks.BlockSaid.{BlockSaid}
use Rattle.mk_scenario.proofs.ListFacts.{empty_is, each_of_map, among_in}
use Rattle.mk_scenario.proofs.GroupFacts.{below_chosen, place_ok, sim_of_ok}
use Rattle.mk_base.proofs.Items.{each_then}

-- the entities of a group that is there
group_of_ok : (groups : List Group) (path id : List ℕ) (n : ℕ) → group_of_id (group_ids groups) path id ≡ Ok n → n < length groups
group_of_ok groups path id n e =
    let inside : n < length (group_ids groups) = place_ok (group_ids groups) id n (found_ok (UnknownGroup path id) (place_in (group_ids groups) id) n e) in
    subst (λ k. n < k) (length-map groups (λ (g : Group). g.id)) inside

module _ (sims : List (List ℕ)) (groups : List Group) (path id : List ℕ) where
  full_ok : (p : Place) → full_id sims path id ≡ Ok p → IsPlace (length sims) groups p
  full_ok p e =
      let t = passed_ok (sim_of_id sims path (before_first (λ b. b == 46) id)) _ _ e in
      subst (IsPlace (length sims) groups) (ok_same (Full t.0 (after_first (λ b. b == 46) id)) p t.2) (sim_of_ok sims path (before_first (λ b. b == 46) id) t.0 t.1)

  indexed_ok : (p : Place) → indexed groups path id ≡ Ok p → IsPlace (length sims) groups p
  indexed_ok p e =
      let t = passed_ok (group_of_id (group_ids groups) path (before_first (λ b. b == 91) id)) _ _ e in
      let digits = but_last (after_first (λ b. b == 91) id) in
      let s = passed_ok (found (OutOfRange path id) (index_below (num_at groups t.0) (but_last (after_first (λ b. b == 91) id)))) _ _ t.2 in
      let index = found_ok (OutOfRange path id) (index_below (num_at groups t.0) (but_last (after_first (λ b. b == 91) id))) s.0 s.1 in
      let spelt = and_then_some (λ i. if nat_lt i (num_at groups t.0) then Some i else None) (spelled 9 digits) s.0 index in
      subst (IsPlace (length sims) groups) (ok_same (One t.0 s.0) p s.2) (group_of_ok groups path (before_first (λ b. b == 91) id) t.0 t.1, below_chosen spelt.0 (num_at groups t.0) s.0 spelt.2)

  whole_ok : (p : Place) → whole (group_ids groups) path id ≡ Ok p → IsPlace (length sims) groups p
  whole_ok p e =
      let t = passed_ok (group_of_id (group_ids groups) path id) _ _ e in
      subst (IsPlace (length sims) groups) (ok_same (Whole t.0) p t.2) (group_of_ok groups path id t.0 t.1)

  place_of_ok : (p : Place) → place_of sims groups path id ≡ Ok p → IsPlace (length sims) groups p
  unfolding place_of
  place_of_ok p e = at (has_byte 46 id) (has_byte 91 id && ends_with 93 id) e
    where
      at : (full index : Bool) → (if full then full_id sims path id else if index then indexed groups path id else whole (group_ids groups) path id) ≡ Ok p → IsPlace (length sims) groups p
      at true index e = full_ok p e
      at false true e = indexed_ok p e
      at false false e = whole_ok p e

-- which connections are delayed
plain_is : (width : Option ℕ) (weak : Bool) → via_of width weak ≡ Plain → (is_some width || weak) ≡ false
plain_is (Some d) weak e = cc
plain_is None true e = cc
plain_is None false e = refl

one_kind : (width : Option ℕ) (weak asks : Bool) → at_most_one (is_some width) weak asks ≡ true → asks ≡ true → via_of width weak ≡ Plain
one_kind (Some d) true true one e = cc
one_kind (Some d) false true one e = cc
one_kind None true true one e = cc
one_kind None false true one e = refl
one_kind width weak false one e = cc

width_is : (width : Option ℕ) (weak : Bool) → IfSome width (λ d. (1 ≤ d) × (d ≤ 1000000)) → HasWidth (via_of width weak)
width_is (Some d) weak w = w
width_is None true w = tt
width_is None false w = tt

fed_ok : (attrs : List AttrPair) (initial : Json) → first_unfed attrs initial ≡ None → Each (λ (m : List ℕ × Json). IsIn m.0 (map (λ (p : AttrPair). p.from) attrs)) (members_of initial)
fed_ok attrs initial e =
    let sources = map (λ (p : AttrPair). p.from) attrs in
    let all = none_found (is_among sources) (map (λ (m : List ℕ × Json). m.0) (members_of initial)) e in
    each_of_map (λ n. IsIn n sources) (λ (m : List ℕ × Json). m.0) (members_of initial) (each_then (λ n. is_among sources n ≡ true) (λ n. IsIn n sources) (map (λ (m : List ℕ × Json). m.0) (members_of initial)) (among_in sources) all)

-- the block that a table says by these words
made_ok : (sims : List (List ℕ)) (groups : List Group) (path from_text to_text : List ℕ) (attrs : List AttrPair) (width : Option ℕ) (weak asks : Bool) (initial : Json) (b : Block) → IfSome width (λ d. (1 ≤ d) × (d ≤ 1000000)) → IsObjectOfData initial
    → block_made sims groups path (record { from = from_text; to = to_text; attrs = attrs; manner = record { width = width; weak = weak; asks = asks }; initial = initial }) ≡ Ok b → IsWellformedBlock (length sims) groups b
made_ok sims groups path from_text to_text attrs width weak asks initial b wide object e =
    let words : BlockSaid = record { from = from_text; to = to_text; attrs = attrs; manner = record { width = width; weak = weak; asks = asks }; initial = initial } in
    let from = passed_ok (place_of sims groups (key_in path (codes "from")) from_text) _ _ e in
    let to = passed_ok (place_of sims groups (key_in path (codes "to")) to_text) _ _ from.2 in
    let fit = passed_ok (block_fits groups path words from.0 to.0) _ _ to.2 in
    let kind = held_ok (TwoKinds path) (at_most_one (is_some width) weak asks) _ _ fit.1 in
    let fits = passed_ok (initial_fits (key_in path (codes "initial_data")) (is_some width || weak) attrs initial) _ _ kind.1 in
    let delayed = held_ok (UnknownKey (key_in path (codes "initial_data"))) (is_some width || weak || length (members_of initial) == 0) _ _ fits.1 in
    let fed = no_text_ok (λ key. UnknownKey (key_in (key_in path (codes "initial_data")) key)) (first_unfed attrs initial) _ _ delayed.1 in
    let sides = held_ok (Uneven path (size_of groups from.0) (size_of groups to.0)) (sides_pair (size_of groups from.0) (size_of groups to.0)) _ _ fits.2 in
    let same = ok_same initial fits.0 fed.1 ∙ ok_same fits.0 fit.0 sides.1 in
    subst (IsWellformedBlock (length sims) groups) (ok_same _ b fit.2) (subst (λ (i : Json). IsWellformedBlock (length sims) groups (record { from = from.0; to = to.0; attrs = attrs; via = via_of width weak; async_requests = asks; initial = i })) same (record {
      from = place_of_ok sims groups (key_in path (codes "from")) from_text from.0 from.1;
      to = place_of_ok sims groups (key_in path (codes "to")) to_text to.0 to.1;
      sides = sides.0;
      kind = one_kind width weak asks kind.0;
      width = width_is width weak wide;
      initial = object;
      delayed = λ plain. empty_is (members_of initial) (subst (λ d. (d || length (members_of initial) == 0) ≡ true) (plain_is width weak plain) delayed.0);
      fed = fed_ok attrs initial fed.0;
    }))

pub block_ok : (sims : List (List ℕ)) (groups : List Group) (path : List ℕ) (table : Json) (b : Block) → InRange table → block_at sims groups path table ≡ Ok b → IsWellformedBlock (length sims) groups b
unfolding block_at
block_ok sims groups path table b all e =
    let said = passed_ok (block_said path table) _ _ e in
    let known = no_text_ok (λ key. UnknownKey (key_in path key)) (first_unknown block_keys table) _ _ said.1 in
    let from_text = passed_ok (required (key_in path (codes "from")) text (member (codes "from") table)) _ _ known.1 in
    let to_text = passed_ok (required (key_in path (codes "to")) text (member (codes "to") table)) _ _ from_text.2 in
    let attrs = passed_ok (optional [] (key_in path (codes "attrs")) pairs (member (codes "attrs") table)) _ _ to_text.2 in
    let manner = passed_ok (manner_said path table) _ _ attrs.2 in
    let width = passed_ok (optional None (key_in path (codes "time_shifted")) some_width (member (codes "time_shifted") table)) _ _ manner.1 in
    let weak = passed_ok (optional false (key_in path (codes "weak")) truth (member (codes "weak") table)) _ _ width.2 in
    let asks = passed_ok (optional false (key_in path (codes "async_requests")) truth (member (codes "async_requests") table)) _ _ weak.2 in
    let initial = passed_ok (optional (tree.Object []) (key_in path (codes "initial_data")) values (member (codes "initial_data") table)) _ _ manner.2 in
    let manner_is = ok_same (record { width = width.0; weak = weak.0; asks = asks.0 }) manner.0 asks.2 in
    let said_is = ok_same (record { from = from_text.0; to = to_text.0; attrs = attrs.0; manner = manner.0; initial = initial.0 }) said.0 initial.2 in
    let said_so = subst (λ (s : BlockSaid). block_made sims groups path s ≡ Ok b) (sym said_is) said.2 in
    let made = subst (λ (m : Manner). block_made sims groups path (record { from = from_text.0; to = to_text.0; attrs = attrs.0; manner = m; initial = initial.0 }) ≡ Ok b) (sym manner_is) said_so in
    made_ok sims groups path from_text.0 to_text.0 attrs.0 width.0 weak.0 asks.0 initial.0 b
    (left_out_width (key_in path (codes "time_shifted")) (member (codes "time_shifted") table) width.0 width.1)
    (left_out_values (key_in path (codes "initial_data")) (member (codes "initial_data") table) initial.0 (under_range table (codes "initial_data") all) initial.1)
    made
