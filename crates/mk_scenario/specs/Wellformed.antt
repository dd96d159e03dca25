-- What each scenario that is read is sure to have.
use Rattle.std.specs.Prelude.{◌≡◌, ◌≢◌, ℕ, ◌<◌, ◌≤◌, ℤ, pos, ◌≤ℤ◌, true, List, [], map, length, take, codes, None, option_map, slice_get, AllPairs, IsTrue, ⊤}
use Rattle.mk_base.specs.declared.json.Json.{Json}
use Rattle.mk_base.specs.declared.tier.Via.TheVariants.{Plain}
use Rattle.mk_base.specs.Lists.{IsIn, Each}
use Rattle.mk_base.specs.Tiers.{HasWidth}
use Rattle.mk_base.specs.Trees.{member, members_of}
use Rattle.mk_scenario_keys.specs.Spelling.{is_name}
use Rattle.mk_scenario_keys.specs.Keys.{IsObjectOfData}
use Rattle.mk_scenario.specs.Sims.{sim_id}
use Rattle.mk_scenario.specs.References.{num_at, size_of}
use Rattle.mk_scenario.specs.Blocks.{sides_pair}
use Rattle.mk_scenario.specs.Scenarios.{ids_of}
use Rattle.mk_scenario.specs.declared.parts.Begin.{Begin}
use Rattle.mk_scenario.specs.declared.parts.Begin.TheVariants.{Command, Connect, Local}
use Rattle.mk_scenario.specs.declared.parts.SimPart.{SimPart}
use Rattle.mk_scenario.specs.declared.parts.Group.{Group}
use Rattle.mk_scenario.specs.declared.parts.Place.{Place}
use Rattle.mk_scenario.specs.declared.parts.Place.TheVariants.{Whole, One, Full}
use Rattle.mk_scenario.specs.declared.parts.AttrPair.{AttrPair}
use Rattle.mk_scenario.specs.declared.parts.Block.{Block}
use Rattle.mk_scenario.specs.declared.parts.Scenario.{Scenario}
use Rattle.mk_base.specs.Limits.{latest_end, most_conns, most_entities, most_entries, most_loops, most_sims}

-- these are names, and the ids are those of simulators of these names, in order
pub record AreIdsOf (names ids : List (List ℕ)) : Type 0 where
  pub spelled : Each (λ name. IsTrue (is_name name)) names
  pub count : length names ≡ length ids
  pub each : (i : ℕ) → slice_get ids i ≡ option_map (sim_id (take i names)) (slice_get names i)

-- a port is one that a simulator can listen at
abbrev pub HasPort : Begin → Type 0
HasPort (Command command) = ⊤
HasPort (Connect port) = (1 ≤ port) × (port ≤ 65535)
HasPort (Local kind) = ⊤

-- a simulator's port and its times are within their limits, and its parameters are data, without
-- the time resolution, which is the run's
pub record IsWellformedSim (s : SimPart) : Type 0 where
  pub port : HasPort s.begin
  pub params : IsObjectOfData s.params
  pub resolution : member (codes "time_resolution") s.params ≡ None
  pub initial : Each (λ (t : ℤ). (pos 0 ≤ℤ t) × (t ≤ℤ latest_end)) s.initial

-- a group of one of so many simulators, of 1 to 10,000 entities: its id is spelled as a name, and
-- its parameters are data
pub record IsWellformedGroup (sims : ℕ) (g : Group) : Type 0 where
  pub id : IsTrue (is_name g.id)
  pub sim : g.sim.0 < sims
  pub num : (1 ≤ g.num) × (g.num ≤ most_entities)
  pub params : IsObjectOfData g.params

-- the group and its entity are there, or the simulator
abbrev pub IsPlace : ℕ → List Group → Place → Type 0
IsPlace sims groups (Whole n) = n < length groups
IsPlace sims groups (One n i) = (n < length groups) × (i < num_at groups n)
IsPlace sims groups (Full sim eid) = sim.0 < sims

-- a block between so many simulators with these groups: its sides pair, it isn't both delayed and
-- asynchronous, a time shift's width is within its limits, and initial values, which are data,
-- stand only where it is delayed, under its source attributes
pub record IsWellformedBlock (sims : ℕ) (groups : List Group) (b : Block) : Type 0 where
  pub from : IsPlace sims groups b.from
  pub to : IsPlace sims groups b.to
  pub sides : IsTrue (sides_pair (size_of groups b.from) (size_of groups b.to))
  pub kind : b.async_requests ≡ true → b.via ≡ Plain
  pub width : HasWidth b.via
  pub initial : IsObjectOfData b.initial
  pub delayed : b.via ≡ Plain → members_of b.initial ≡ []
  pub fed : Each (λ (m : List ℕ × Json). IsIn m.0 (map (λ (p : AttrPair). p.from) b.attrs))
      (members_of b.initial)

-- numbers and counts are within their limits, ids of simulators are by the naming rule, those of
-- groups are distinct, and each part is well-formed
pub record IsWellformed (S : Scenario) : Type 0 where
  pub until : (pos 1 ≤ℤ S.until) × (S.until ≤ℤ latest_end)
  pub loops : (1 ≤ S.loops) × (S.loops ≤ most_loops)
  pub entries : (1 ≤ S.entries) × (S.entries ≤ most_entries)
  pub sim_count : (1 ≤ length S.sims) × (length S.sims ≤ most_sims)
  pub group_count : length S.groups ≤ most_entities
  pub block_count : length S.blocks ≤ most_conns
  pub ids : (names : List (List ℕ)) × AreIdsOf names (ids_of S.sims)
  pub sims : Each IsWellformedSim S.sims
  pub groups : Each (IsWellformedGroup (length S.sims)) S.groups
  pub group_ids : AllPairs (λ (g h : Group). g.id ≢ h.id) S.groups
  pub blocks : Each (IsWellformedBlock (length S.sims) S.groups) S.blocks
