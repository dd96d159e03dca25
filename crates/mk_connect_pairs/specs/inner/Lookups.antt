-- For proofs alone. Beside `Lookups`, which has what a reader needs.
use Rattle.std.specs.Prelude.{◌≡◌, ℕ, ◌&&◌, ◌==◌, Bool, List, map, position, Option, option_map, slice_get, length, unwrap_or, nat_eq, false, if◌then◌else◌, [], ◌∷◌, ◌++◌}
use Rattle.std.specs.HashMap.{HashMap}
use Rattle.std.specs.Map.{lookup}
use Rattle.std.specs.HashSet.{HashSet}
use Rattle.std.specs.declared.string.String.{String}
use Rattle.std.specs.String.{string_bytes}
use Rattle.mk_base.specs.Lists.{same_text}
use Rattle.mk_plan.specs.declared.Conn.{Conn}
use Rattle.mk_connect_pairs.specs.Models.{is_model}
use Rattle.mk_connect_pairs.specs.declared.models.SimModel.{SimModel}

-- what tells connections apart: the entities and the target's attribute
abbrev pub Way : Type 0
Way = ℕ × ℕ × List ℕ

abbrev pub way_of : Conn → Way
way_of c = (c.from, c.to, c.to_attr)

abbrev pub way_in : {Y : Type 0} → ℕ × ℕ × String Y → Way
way_in k = (k.0, k.1, string_bytes k.2)

-- the key is this way
abbrev pub IsWay : {Y : Type 0} → ℕ × ℕ × String Y → Way → Type 0
IsWay k way = way_in k ≡ way

-- the keys are the ways of the connections, in order
abbrev pub HasWays : {S Y : Type 0} → HashSet (ℕ × ℕ × String Y) S → List Conn → Type 0
HasWays {S} {Y} ways conns = map (way_in {Y = Y}) ways.keys ≡ map way_of conns

-- the key is of this simulator and name
abbrev pub is_key : {Y : Type 0} → ℕ → List ℕ → ℕ × String Y → Bool
is_key sim name k = (sim == k.0) && same_text name (string_bytes k.1)

-- the key is this simulator and this name
abbrev pub IsKeyOf : {Y : Type 0} → ℕ → List ℕ → ℕ × String Y → Type 0
IsKeyOf sim name k = (k.0 ≡ sim) × (string_bytes k.1 ≡ name)

-- under each simulator and name the map has the number of their model among these
abbrev pub HasNumbers : {S Y : Type 0} → HashMap (ℕ × String Y) ℕ S → List SimModel → Type 0
HasNumbers {S} {Y} numbers models = (sim : ℕ) (name : List ℕ)
    → lookup (is_key {Y = Y} sim name) numbers.entries
    ≡ position (is_model (record { 0 = sim }) name) models

-- the number, if it is one of the group's
abbrev pub number_in : Option ℕ → ℕ → ℕ → List ℕ
number_in group number g = if unwrap_or (option_map (nat_eq g) group) false then number ∷ [] else []

-- the number stands last under its group, if there is such a group, and all else stays
pub record HasMember (old : List (List ℕ)) (group : Option ℕ) (number : ℕ)
    (new : List (List ℕ)) : Type 0 where
  pub count : length new ≡ length old
  pub each : (g : ℕ) → slice_get new g
      ≡ option_map (λ numbers. numbers ++ number_in group number g) (slice_get old g)
