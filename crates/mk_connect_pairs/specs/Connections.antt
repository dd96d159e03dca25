-- The connections that a scenario makes, or the first test that one of them fails.
use Rattle.std.specs.Prelude.{ℕ, ◌+◌, Bool, true, not, ◌||◌, ◌&&◌, ◌==◌, nat_lt, List, [], ◌∷◌, ◌++◌, length, Option, None, is_some, option_map, Result, Ok}
use Rattle.std.specs.List.{list_any}
use Rattle.mk_base.specs.declared.json.Json.{Json}
use Rattle.mk_base.specs.declared.tier.Via.{Via}
use Rattle.mk_base.specs.declared.tier.Via.TheVariants.{Plain, Shift, Weak}
use Rattle.mk_base.specs.Lists.{same_text}
use Rattle.mk_base.specs.Texts.{text_of}
use Rattle.mk_base.specs.Trees.{member}
use Rattle.mk_base.specs.Verdicts.{fault_unless, unless}
use Rattle.mk_plan.specs.declared.Conn.{Conn}
use Rattle.mk_entities.specs.declared.entities.EntityInfo.{EntityInfo}
use Rattle.mk_scenario.specs.declared.parts.AttrPair.{AttrPair}
use Rattle.mk_scenario.specs.declared.parts.Block.{Block}
use Rattle.mk_scenario.specs.declared.parts.SimPart.{SimPart}
use Rattle.mk_connect_pairs.specs.declared.fault.ConnectFault.{ConnectFault}
use Rattle.mk_connect_pairs.specs.declared.fault.ConnectFault.TheVariants.{NoSourceAttr, NoTargetAttr, Twice, NoInitial, TooMany}
use Rattle.mk_connect_pairs.specs.declared.models.SimModel.{SimModel}
use Rattle.mk_connect_pairs.specs.Ends.{ends_at, full_id, pairs_between, place_fault}
use Rattle.mk_connect_pairs.specs.Faults.{through}
use Rattle.mk_connect_pairs.specs.Models.{has_attr, keeps_attr, model_at, says, takes_attr, triggers_by}
use Rattle.mk_base.specs.Limits.{most_conns}

-- the connection leads from this entity to this attribute of that one
abbrev pub is_way : ℕ → ℕ → List ℕ → Conn → Bool
is_way from to attr c = (c.from == from) && (c.to == to) && same_text c.to_attr attr

-- a time-shifted connection that keeps its value has an initial one
abbrev pub has_initial : Via → Bool → Bool → Bool
has_initial Plain persistent given = true
has_initial (Shift width) persistent given = not persistent || given
has_initial Weak persistent given = true

-- the text of the initial value that a block gives a source attribute
abbrev pub initial_text : Json → List ℕ → Option (List ℕ)
initial_text initial attr = option_map text_of (member attr initial)

-- the connection of two entities by a pair of attributes of a block
abbrev pub conn_between : List SimModel → List EntityInfo → Block → ℕ × ℕ → AttrPair → Conn
conn_between models entities b ends pair = record {
  from = ends.0;
  from_attr = pair.from;
  to = ends.1;
  to_attr = pair.to;
  via = b.via;
  persistent = says (keeps_attr pair.from) (model_at models entities ends.0);
  triggering = says (triggers_by pair.to) (model_at models entities ends.1);
  initial = initial_text b.initial pair.from;
}

-- the attributes that the pair names are there: an output of the source's model, and an input of
-- the target's
abbrev pub attrs_fault : List SimPart → List SimModel → List EntityInfo → ℕ × ℕ → AttrPair
    → Option ConnectFault
attrs_fault sims models entities ends pair =
    fault_unless (NoSourceAttr (full_id sims entities ends.0) pair.from)
    (says (has_attr pair.from) (model_at models entities ends.0)) (
    fault_unless (NoTargetAttr (full_id sims entities ends.1) pair.to)
    (says (takes_attr pair.to) (model_at models entities ends.1))
    None)

-- beside those that there are, the connection is the only one of its way; it has the initial value
-- that it needs; and there is room
abbrev pub conn_fault : List SimPart → List EntityInfo → List Conn → Conn → Option ConnectFault
conn_fault sims entities conns c =
    fault_unless (Twice (full_id sims entities c.to) c.to_attr (full_id sims entities c.from))
    (not (list_any (is_way c.from c.to c.to_attr) conns)) (
    fault_unless (NoInitial (full_id sims entities c.to) c.from_attr)
    (has_initial c.via c.persistent (is_some c.initial)) (
    fault_unless (TooMany (most_conns + 1)) (nat_lt (length conns) most_conns)
    None))

-- one connection more, after its tests
abbrev pub connected : List SimPart → List SimModel → List EntityInfo → Block → ℕ × ℕ → List Conn
    → AttrPair → Result (List Conn) ConnectFault
connected sims models entities b ends conns pair =
    unless (attrs_fault sims models entities ends pair) (
    unless (conn_fault sims entities conns (conn_between models entities b ends pair)) (
    Ok (conns ++ conn_between models entities b ends pair ∷ [])))

-- the connections of two entities, for each pair of attributes
abbrev pub pair_made : List SimPart → List SimModel → List EntityInfo → Block → List Conn → ℕ × ℕ
    → Result (List Conn) ConnectFault
pair_made sims models entities b conns ends = through
    (connected sims models entities b ends) conns b.attrs

-- which entities a block pairs
abbrev pub block_pairs : List EntityInfo → Block → List (ℕ × ℕ)
block_pairs entities b = pairs_between (ends_at entities b.from) (ends_at entities b.to)

-- the connections of a block: what it names are entities, and each two that it pairs are connected
abbrev pub block_made : List SimPart → List SimModel → List EntityInfo → List Conn → Block
    → Result (List Conn) ConnectFault
block_made sims models entities conns b =
    unless (place_fault sims entities b.from) (
    unless (place_fault sims entities b.to) (
    through (pair_made sims models entities b) conns (block_pairs entities b)))

-- the connections of all blocks, in order
abbrev pub conns_made : List SimPart → List SimModel → List EntityInfo → List Block
    → Result (List Conn) ConnectFault
conns_made sims models entities blocks = through (block_made sims models entities) [] blocks
