-- A `connect` table: a block of connections.
use Rattle.std.specs.Prelude.{ℕ, Bool, false, not, ◌&&◌, ◌||◌, ◌==◌, List, [], ◌∷◌, map, length, codes, Option, Some, None, is_some, Result, Ok, if◌then◌else◌}
use Rattle.mk_base.specs.declared.json.Json.{Json, Json-F, out-Json}
use Rattle.mk_base.specs.declared.json.Json as tree
use Rattle.mk_base.specs.declared.tier.Via.{Via}
use Rattle.mk_base.specs.declared.tier.Via.TheVariants.{Plain, Shift, Weak}
use Rattle.mk_base.specs.Trees.{text_in, member, members_of}
use Rattle.mk_base.specs.Verdicts.{held, no_text, passed}
use Rattle.mk_scenario_keys.specs.Known.{block_keys}
use Rattle.mk_scenario_keys.specs.Tests.{found, each_at, key_in, item_in}
use Rattle.mk_scenario_keys.specs.Keys.{required, optional, first_unknown, truth, some_width, text, items, values}
use Rattle.mk_scenario_keys.specs.declared.fault.ScenarioFault.{ScenarioFault}
use Rattle.mk_scenario_keys.specs.declared.fault.ScenarioFault.TheVariants.{WrongKind, UnknownKey, TwoKinds, Uneven}
use Rattle.mk_scenario.specs.References.{place_of, size_of}
use Rattle.mk_scenario.specs.declared.parts.AttrPair.{AttrPair}
use Rattle.mk_scenario.specs.declared.parts.Group.{Group}
use Rattle.mk_scenario.specs.declared.parts.Place.{Place}
use Rattle.mk_scenario.specs.declared.parts.Block.{Block}
use Rattle.mk_scenario.specs.declared.blocks.BlockSaid.{BlockSaid}
use Rattle.mk_scenario.specs.declared.blocks.Manner.{Manner}

-- two texts are the names on either side
abbrev pub two_names : Option (List ℕ) → Option (List ℕ) → Option AttrPair
two_names (Some from) (Some to) = Some (record { from = from; to = to })
two_names from to = None

abbrev pub two_of : List Json → Option AttrPair
two_of (a ∷ b ∷ []) = two_names (text_in a) (text_in b)
two_of other = None

abbrev pair_at : Json-F Json → Option AttrPair
pair_at (Json-F.Text name) = Some (record { from = name; to = name })
pair_at (Json-F.List pair) = two_of pair
pair_at _ = None

-- a pair of attributes: one name for both sides, or a list of two
abbrev pub pair_in : Json → Option AttrPair
pair_in value = pair_at (out-Json value)

-- the pairs of attributes
abbrev pub pairs : List ℕ → Json → Result (List AttrPair) ScenarioFault
pairs path value =
    passed (items path value) (λ members.
    each_at (λ i member. found (WrongKind (item_in path i)) (pair_in member)) members)

-- when the connection delivers
abbrev pub via_of : Option ℕ → Bool → Via
via_of (Some width) weak = Shift width
via_of None weak = if weak then Weak else Plain

-- at most one of the three holds
abbrev pub at_most_one : Bool → Bool → Bool → Bool
at_most_one a b c = not ((a && b) || (a && c) || (b && c))

-- the source names of the pairs
abbrev pub source_names : List AttrPair → List (List ℕ)
source_names attrs = map (λ (p : AttrPair). p.from) attrs

-- the first name, in byte order, that no pair has as its source
abbrev pub first_unfed : List AttrPair → Json → Option (List ℕ)
first_unfed attrs initial = first_unknown (source_names attrs) initial

-- initial values stand only where the delivery is delayed, and only under source attributes
abbrev pub initial_fits : List ℕ → Bool → List AttrPair → Json → Result Json ScenarioFault
initial_fits path delayed attrs initial =
    held (UnknownKey path) (delayed || length (members_of initial) == 0) (
    no_text (λ key. UnknownKey (key_in path key)) (first_unfed attrs initial) (
    Ok initial))

-- one side has one entity, or both have equally many
abbrev pub sides_pair : ℕ → ℕ → Bool
sides_pair m n = (n == 1) || (m == 1) || (m == n)

-- the manner in which a table of this path says that the connection delivers
abbrev pub manner_said : List ℕ → Json → Result Manner ScenarioFault
manner_said path table =
    passed (optional None (key_in path (codes "time_shifted")) some_width
    (member (codes "time_shifted") table)) (λ width.
    passed (optional false (key_in path (codes "weak")) truth (member (codes "weak") table))
    (λ weak.
    passed (optional false (key_in path (codes "async_requests")) truth
    (member (codes "async_requests") table)) (λ asks.
    Ok (record { width = width; weak = weak; asks = asks }))))

-- what the table of this path says
abbrev pub block_said : List ℕ → Json → Result BlockSaid ScenarioFault
block_said path table =
    no_text (λ key. UnknownKey (key_in path key)) (first_unknown block_keys table) (
    passed (required (key_in path (codes "from")) text (member (codes "from") table)) (λ from.
    passed (required (key_in path (codes "to")) text (member (codes "to") table)) (λ to.
    passed (optional [] (key_in path (codes "attrs")) pairs (member (codes "attrs") table))
    (λ attrs.
    passed (manner_said path table) (λ manner.
    passed (optional (tree.Object []) (key_in path (codes "initial_data")) values
    (member (codes "initial_data") table)) (λ initial.
    Ok (record { from = from; to = to; attrs = attrs; manner = manner; initial = initial })))))))

-- the initial values of the block that a table of this path says, which fits between these places
abbrev pub block_fits : List Group → List ℕ → BlockSaid → Place → Place → Result Json ScenarioFault
block_fits groups path said from to =
    held (TwoKinds path) (at_most_one (is_some said.manner.width) said.manner.weak said.manner.asks)
    (
    passed (initial_fits (key_in path (codes "initial_data")) (is_some said.manner.width
    || said.manner.weak) said.attrs said.initial) (λ initial.
    held (Uneven path (size_of groups from) (size_of groups to))
    (sides_pair (size_of groups from) (size_of groups to)) (
    Ok initial)))

-- the block that a table of this path says, between these places
abbrev pub block_between : List Group → List ℕ → BlockSaid → Place → Place
    → Result Block ScenarioFault
block_between groups path said from to =
    passed (block_fits groups path said from to) (λ initial.
    Ok (record {
      from = from;
      to = to;
      attrs = said.attrs;
      via = via_of said.manner.width said.manner.weak;
      async_requests = said.manner.asks;
      initial = initial;
    }))

-- the block that a table of this path says
abbrev pub block_made : List (List ℕ) → List Group → List ℕ → BlockSaid → Result Block ScenarioFault
block_made sims groups path said =
    passed (place_of sims groups (key_in path (codes "from")) said.from) (λ from.
    passed (place_of sims groups (key_in path (codes "to")) said.to) (λ to.
    block_between groups path said from to))

-- the block of the table of this path
unfoldable pub block_at : List (List ℕ) → List Group → List ℕ → Json → Result Block ScenarioFault
block_at sims groups path table = passed (block_said path table) (block_made sims groups path)

-- the block of the table at place i
abbrev pub block_in : List (List ℕ) → List Group → ℕ → Json → Result Block ScenarioFault
block_in sims groups i table = block_at sims groups (item_in (codes "connect") i) table
