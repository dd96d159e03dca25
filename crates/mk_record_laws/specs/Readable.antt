-- A plan and a journal whose record is read again, where the plan's texts are UTF-8 and its initial
-- values data, as they are by their types.
use Rattle.std.specs.Prelude.{◌≡◌, ℕ, ◌<◌, ◌≤◌, true, pos, List, Ok}
use Rattle.mk_base.specs.Lists.{Each}
use Rattle.mk_base.specs.Trees.{nesting}
use Rattle.mk_plan.specs.declared.Plan.{Plan}
use Rattle.mk_plan.specs.declared.Entry.{Entry}
use Rattle.mk_plan.specs.declared.Message.{Message}
use Rattle.mk_plan.specs.Plans.{IsValidPlan, sim_count}
use Rattle.mk_message.specs.Messages.{message_of}
use Rattle.mk_message.specs.Written.{message_tree}
use Rattle.mk_record_read.specs.Entries.{RecordEntry, StepOf, MessageOf, entries_of}
use Rattle.mk_record_read.specs.Lines.{step_fits}

-- the message is the one that is read of some payload, and nests no deeper than 126, its own list
-- counted
pub record IsHeard (m : Message) : Type 0 where
  pub payload : List ℕ
  pub read : message_of payload ≡ Ok m
  pub shallow : nesting (message_tree m) ≤ 126

-- a step whose numbers are within the limits of an `ask` line, or a message that was heard; of a
-- simulator of the plan
abbrev pub MayStand : Plan → RecordEntry → Type 0
MayStand P (StepOf sim at advance) = (sim < sim_count P)
    × (step_fits at.time (pos at.tier) advance ≡ true)
MayStand P (MessageOf a) = (a.sim < sim_count P) × IsHeard a.message

-- the plan is valid; each Step and message of the journal may stand in its record
pub record IsReadable (P : Plan) (J : List Entry) : Type 0 where
  pub valid : IsValidPlan P
  pub entries : Each (MayStand P) (entries_of J)
