-- The text of a record, version 2.
use Rattle.std.specs.Prelude.{ℕ, ℤ, Bool, List, [], ◌∷◌, ◌++◌, length, map, flat_map, Option, Some, None, codes, if◌then◌else◌}
use Rattle.std.specs.Fmt.{decimal, signed_decimal}
use Rattle.mk_base.specs.declared.tier.Via.{Via}
use Rattle.mk_base.specs.declared.tier.Via.TheVariants.{Plain, Shift, Weak}
use Rattle.mk_base.specs.declared.tier.Tier.{Tier}
use Rattle.mk_base.specs.Texts.{quoted, list_text}
use Rattle.mk_base.specs.Names.{kind_name}
use Rattle.mk_plan.specs.declared.Plan.{Plan}
use Rattle.mk_plan.specs.declared.PlanSim.{PlanSim}
use Rattle.mk_plan.specs.declared.PlanModel.{PlanModel}
use Rattle.mk_plan.specs.declared.PlanEntity.{PlanEntity}
use Rattle.mk_plan.specs.declared.Conn.{Conn}
use Rattle.mk_plan.specs.declared.AsyncPair.{AsyncPair}
use Rattle.mk_plan.specs.Journals.{Arrival}
use Rattle.mk_plan.specs.declared.Entry.{Entry}
use Rattle.mk_record_read.specs.Entries.{RecordEntry, StepOf, MessageOf, entries_of}
use Rattle.mk_message.specs.Written.{message_text}

-- a word, a space and a list of fields
abbrev line_text : List ℕ → List (List ℕ) → List ℕ
line_text word fields = word ++ codes " " ++ list_text fields ++ codes "\n"

-- how a connection delays: a name, or for a time shift a list of its name and its width
abbrev pub via_text : Via → List ℕ
via_text Plain = quoted (codes "plain")
via_text (Shift width) = list_text (quoted (codes "shift") ∷ decimal width ∷ [])
via_text Weak = quoted (codes "weak")

abbrev pub bool_text : Bool → List ℕ
bool_text b = if b then codes "true" else codes "false"

-- no initial value, or one
abbrev pub initial_text : Option (List ℕ) → List ℕ
initial_text None = list_text []
initial_text (Some value) = list_text (value ∷ [])

abbrev pub run_line : Plan → List ℕ
run_line P = line_text (codes "run") (signed_decimal P.until ∷ decimal P.loops ∷ decimal P.entries
    ∷ [])

abbrev pub sim_line : PlanSim → List ℕ
sim_line s = line_text (codes "sim") (quoted s.id ∷ quoted (kind_name s.kind) ∷ decimal s.first_id
    ∷ decimal s.rank ∷ list_text (map signed_decimal s.initial) ∷ [])

abbrev pub model_line : PlanModel → List ℕ
model_line m = line_text (codes "model") (decimal m.sim.0 ∷ quoted m.name
    ∷ list_text (map quoted m.attrs) ∷ bool_text m.any_inputs ∷ [])

abbrev pub entity_line : PlanEntity → List ℕ
entity_line e = line_text (codes "entity") (decimal e.model ∷ quoted e.eid
    ∷ list_text (map decimal e.related) ∷ [])

abbrev pub conn_line : Conn → List ℕ
conn_line c = line_text (codes "conn") (decimal c.from ∷ quoted c.from_attr ∷ decimal c.to
    ∷ quoted c.to_attr ∷ via_text c.via ∷ bool_text c.persistent ∷ bool_text c.triggering
    ∷ initial_text c.initial ∷ [])

abbrev pub async_line : AsyncPair → List ℕ
async_line p = line_text (codes "async") (decimal p.from.0 ∷ decimal p.to.0 ∷ [])

abbrev pub got_line : Arrival → List ℕ
got_line a = line_text (codes "got") (decimal a.sim ∷ message_text a.message ∷ [])

abbrev pub ask_line : ℕ → Tier → ℤ → List ℕ
ask_line sim at advance = line_text (codes "ask") (decimal sim ∷ signed_decimal at.time
    ∷ decimal at.tier ∷ signed_decimal advance ∷ [])

abbrev pub entry_line : RecordEntry → List ℕ
entry_line (StepOf sim at advance) = ask_line sim at advance
entry_line (MessageOf a) = got_line a

-- the lines of a plan, its parts in their order
abbrev pub plan_text : Plan → List ℕ
plan_text P = codes "mosaikrun 2\n" ++ run_line P ++ flat_map sim_line P.sims
    ++ flat_map model_line P.models ++ flat_map entity_line P.entities ++ flat_map conn_line P.conns
    ++ flat_map async_line P.asyncs

-- the record of a plan and of a journal: its Steps and its messages, in order
abbrev pub record_text : Plan → List Entry → List ℕ
record_text P J = plan_text P ++ flat_map entry_line (entries_of J) ++ codes "end "
    ++ decimal (length (entries_of J)) ++ codes "\n"
