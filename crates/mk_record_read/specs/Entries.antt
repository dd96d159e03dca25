-- The entries of a record, which its `ask` and `got` lines say one by one: steps that were asked
-- for, and messages that came.
use Rattle.std.specs.Prelude.{ℕ, ◌-◌, ℤ, max, List, [], ◌∷◌, ◌++◌, map, filter_map, take, drop, Option, Some, None}
use Rattle.mk_base.specs.declared.tier.Tier.{Tier}
use Rattle.mk_plan.specs.declared.Item.TheVariants.{Step, GetData, Answer, Refuse}
use Rattle.mk_plan.specs.declared.Entry.{Entry}
use Rattle.mk_plan.specs.declared.Entry.TheVariants.{Sent, Got}
use Rattle.mk_plan.specs.Journals.{Arrival}
use Rattle.mk_record_read.specs.declared.saved.Asked.{Asked}

-- a simulator's step at a tiered time with its max_advance, or a message
pub data RecordEntry : Type 0 where
  StepOf : ℕ → Tier → ℤ → RecordEntry
  MessageOf : Arrival → RecordEntry

abbrev pub step_of : Asked → RecordEntry
step_of a = StepOf a.sim.0 a.at a.max_advance

-- the entries of messages, behind n others, and of steps: each step stands after the messages that
-- came before it
abbrev pub entries_after : ℕ → List Arrival → List Asked → List RecordEntry
entries_after n A [] = map MessageOf A
entries_after n A (a ∷ steps) = map MessageOf (take (a.before - n) A)
    ++ step_of a ∷ entries_after (max n a.before) (drop (a.before - n) A) steps

-- the entries of a record of version 2
abbrev pub entries_in : List Arrival → List Asked → List RecordEntry
entries_in A steps = entries_after 0 A steps

-- the record's entry that a journal's entry is, if it is a Step or a message
abbrev pub entry_of : Entry → Option RecordEntry
entry_of (Sent s (Step at ins advance)) = Some (StepOf s.0 at advance)
entry_of (Sent s (GetData wanted)) = None
entry_of (Sent s (Answer id content)) = None
entry_of (Sent s (Refuse id reason)) = None
entry_of (Got s m) = Some (MessageOf (record { sim = s.0; message = m }))

-- the Steps and messages of a journal, in order
abbrev pub entries_of : List Entry → List RecordEntry
entries_of J = filter_map entry_of J
