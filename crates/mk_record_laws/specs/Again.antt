-- A plan and a journal whose record is read again as they are, and what of the journal is read.
use Rattle.std.specs.Prelude.{◌≡◌, ℕ, ◌+◌, ◌^◌, ◌<◌, ◌≤◌, Bool, true, ◌&&◌, nat_le, nat_lt, pos, List, [], ◌∷◌, length, IfSome}
use Rattle.std.specs.List.{list_all}
use Rattle.std.specs.Str.{is_utf8}
use Rattle.mk_base.specs.Data.{IsDatumText}
use Rattle.mk_base.specs.Lists.{Each}
use Rattle.mk_base.specs.Trees.{nesting}
use Rattle.mk_plan.specs.declared.Plan.{Plan}
use Rattle.mk_plan.specs.declared.PlanSim.{PlanSim}
use Rattle.mk_plan.specs.declared.PlanModel.{PlanModel}
use Rattle.mk_plan.specs.declared.PlanEntity.{PlanEntity}
use Rattle.mk_plan.specs.declared.Conn.{Conn}
use Rattle.mk_plan.specs.declared.Entry.{Entry}
use Rattle.mk_plan.specs.declared.Message.{Message}
use Rattle.mk_plan.specs.Plans.{IsValidPlan, sim_count}
use Rattle.mk_base.specs.Proper.{is_proper}
use Rattle.mk_message.specs.Written.{is_readable, message_tree}
use Rattle.mk_record_read.specs.Entries.{RecordEntry, StepOf, MessageOf, entries_of}
use Rattle.mk_record_read.specs.Lines.{step_fits}
use Rattle.mk_record_read.specs.declared.saved.Asked.{Asked}
use Rattle.mk_plan.specs.Messages.{is_message_in_range}

-- the steps among these entries of a record, in order, each with the number of messages before it,
-- n of which came earlier
abbrev pub steps_after : ℕ → List RecordEntry → List Asked
steps_after n [] = []
steps_after n (StepOf sim at advance ∷ entries) = record {
  before = n;
  sim = record { 0 = sim };
  at = at;
  max_advance = advance;
} ∷ steps_after n entries
steps_after n (MessageOf a ∷ entries) = steps_after (n + 1) entries

-- the Steps of a journal, in order, each with the number of messages before it
abbrev pub steps_of : List Entry → List Asked
steps_of J = steps_after 0 (entries_of J)

-- a message that a payload may have, and that nests so that the list around it may stand in a line
abbrev pub is_sayable : Message → Bool
is_sayable m = is_readable m && is_message_in_range m && is_proper (message_tree m)
    && nat_le (nesting (message_tree m)) 126

-- a simulator of the plan, and a step within its limits or a message that may stand in a line
abbrev pub entry_fits : Plan → RecordEntry → Bool
entry_fits P (StepOf sim at advance) = nat_lt sim (sim_count P)
    && step_fits at.time (pos at.tier) advance
entry_fits P (MessageOf a) = nat_lt a.sim (sim_count P) && is_sayable a.message

abbrev pub model_is_text : PlanModel → Bool
model_is_text m = is_utf8 m.name && list_all is_utf8 m.attrs

abbrev pub conn_is_text : Conn → Bool
conn_is_text c = is_utf8 c.from_attr && is_utf8 c.to_attr

-- the texts of the plan are in UTF-8, and its initial values are texts of trees as the program
-- keeps them
pub record HasTexts (P : Plan) : Type 0 where
  pub sims : list_all (λ (s : PlanSim). is_utf8 s.id) P.sims ≡ true
  pub models : list_all model_is_text P.models ≡ true
  pub entities : list_all (λ (e : PlanEntity). is_utf8 e.eid) P.entities ≡ true
  pub conns : list_all conn_is_text P.conns ≡ true
  pub initials : Each (λ (c : Conn). IfSome c.initial IsDatumText) P.conns

-- the plan is valid, made of texts, and of at most 2,000,000 models; and the journal's Steps and
-- messages are of its simulators, within the limits of a record, and fewer than 2^64
pub record IsRecordable (P : Plan) (J : List Entry) : Type 0 where
  pub valid : IsValidPlan P
  pub texts : HasTexts P
  pub models : length P.models ≤ 2000000
  pub entries : list_all (entry_fits P) (entries_of J) ≡ true
  pub count : length (entries_of J) < 2 ^ 64
