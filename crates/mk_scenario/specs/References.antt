-- A reference: a full id, a group's entity at an index, or a group.
use Rattle.std.specs.Prelude.{ℕ, nat_lt, Bool, ◌&&◌, ◌==◌, ◌-◌, List, length, take, map, Option, Some, None, slice_get, option_map, option_and_then, unwrap_or, false, Result, Ok, if◌then◌else◌}
use Rattle.std.specs.List.{list_any, before_first, after_first}
use Rattle.mk_base.specs.Verdicts.{passed}
use Rattle.mk_scenario_keys.specs.Spelling.{spelled}
use Rattle.mk_scenario_keys.specs.Tests.{found}
use Rattle.mk_scenario_keys.specs.declared.fault.ScenarioFault.{ScenarioFault}
use Rattle.mk_scenario_keys.specs.declared.fault.ScenarioFault.TheVariants.{OutOfRange, UnknownGroup}
use Rattle.mk_scenario.specs.Places.{place_in}
use Rattle.mk_scenario.specs.Groups.{sim_of_id}
use Rattle.mk_scenario.specs.declared.parts.Group.{Group}
use Rattle.mk_scenario.specs.declared.parts.Place.{Place}
use Rattle.mk_scenario.specs.declared.parts.Place.TheVariants.{Whole, One, Full}

-- the byte stands in the text
abbrev pub has_byte : ℕ → List ℕ → Bool
has_byte byte text = list_any (λ b. b == byte) text

-- the text ends with this byte
abbrev pub ends_with : ℕ → List ℕ → Bool
ends_with byte text = unwrap_or
    (option_map (λ b. b == byte) (slice_get text (length text - 1))) false

-- the text without its last byte
abbrev pub but_last : List ℕ → List ℕ
but_last text = take (length text - 1) text

-- the entity of a simulator's id and an eid
abbrev pub entity_of : List (List ℕ) → List ℕ → List ℕ → List ℕ → Result Place ScenarioFault
entity_of sims path sim eid = passed (sim_of_id sims path sim) (λ no. Ok (Full no eid))

-- a full id is a simulator's id, `.` and an eid, which may have points of its own
abbrev pub full_id : List (List ℕ) → List ℕ → List ℕ → Result Place ScenarioFault
full_id sims path text = entity_of sims path (before_first (λ b. b == 46) text)
    (after_first (λ b. b == 46) text)

-- the ids of the groups
abbrev pub group_ids : List Group → List (List ℕ)
group_ids groups = map (λ (g : Group). g.id) groups

-- the group of this id, by its place among these
abbrev pub group_of_id : List (List ℕ) → List ℕ → List ℕ → Result ℕ ScenarioFault
group_of_id ids path id = found (UnknownGroup path id) (place_in ids id)

-- how many entities the group has; none where there is no such group
abbrev pub num_at : List Group → ℕ → ℕ
num_at groups n = unwrap_or (option_map (λ (g : Group). g.num) (slice_get groups n)) 0

-- the index that these digits spell, below this number
abbrev pub index_below : ℕ → List ℕ → Option ℕ
index_below num digits = option_and_then (λ i. if nat_lt i num then Some i
    else None) (spelled 9 digits)

-- the entity of a group's id and the digits of an index, in this text
abbrev pub entity_at : List Group → List ℕ → List ℕ → List ℕ → List ℕ → Result Place ScenarioFault
entity_at groups path text id digits =
    passed (group_of_id (group_ids groups) path id) (λ n.
    passed (found (OutOfRange path text) (index_below (num_at groups n) digits)) (λ i.
    Ok (One n i)))

-- a group's id, and an index from 0 in brackets
abbrev pub indexed : List Group → List ℕ → List ℕ → Result Place ScenarioFault
indexed groups path text = entity_at groups path text (before_first (λ b. b == 91) text)
    (but_last (after_first (λ b. b == 91) text))

-- a group, among these ids
abbrev pub whole : List (List ℕ) → List ℕ → List ℕ → Result Place ScenarioFault
whole ids path text = passed (group_of_id ids path text) (λ n. Ok (Whole n))

-- a text without a point refers to a group or, with an index in brackets at its end, to an entity
-- of one
abbrev pub in_group : List Group → List ℕ → List ℕ → Result Place ScenarioFault
in_group groups path text = if has_byte 91 text && ends_with 93 text then indexed groups path text
    else whole (group_ids groups) path text

-- what the text refers to: with a point it is a full id, else it is of a group
unfoldable pub place_of : List (List ℕ) → List Group → List ℕ → List ℕ → Result Place ScenarioFault
place_of sims groups path text = if has_byte 46 text then full_id sims path text
    else in_group groups path text

-- how many entities there are at a place
abbrev pub size_of : List Group → Place → ℕ
size_of groups (Whole n) = num_at groups n
size_of groups (One n i) = 1
size_of groups (Full sim eid) = 1
