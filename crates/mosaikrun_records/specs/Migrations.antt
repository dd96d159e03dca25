-- What `migrate` makes of a record's bytes: the record of its replay, or why there is none.
use Rattle.std.specs.Prelude.{◌≡◌, ◌⊎◌, ℕ, ⊤, List, Option, Some, None, Result, Ok, Err}
use Rattle.mk_plan.specs.declared.Plan.{Plan}
use Rattle.mk_plan.specs.declared.Entry.{Entry}
use Rattle.mk_plan.specs.Plans.{IsValidPlan}
use Rattle.mk_plan.specs.Journals.{Arrival, arrivals}
use Rattle.mk_record.specs.Reading.{reading, Said}
use Rattle.mk_record.specs.Texts.{record_text}
use Rattle.mk_record.specs.Asked.{Asked}
use Rattle.mk_record.specs.Again.{steps_of}
use Rattle.mk_record.specs.Replays.{SomeUngiven}
use Rattle.mk_record.specs.Orders.{IsReplayBy}
use Rattle.mk_record.specs.ReplayEnd.{ReplayEnd}
use Rattle.mk_record.specs.ReplayEnd.TheVariants as ends
use Rattle.mosaikrun_endings.specs.declared.ending.Ending.{Ending}
use Rattle.mosaikrun_records.specs.Saved.{EndsEarly, IsUnread}

-- no entry of the record differs, and all its messages are in the journal, whatever the end is
abbrev pub HasAllMessages : List Arrival → List Entry → ReplayEnd → Type 0
HasAllMessages A J ends.Done = arrivals J ≡ A
HasAllMessages A J (ends.Short n) = arrivals J ≡ A
HasAllMessages A J (ends.Core fault) = arrivals J ≡ A
HasAllMessages A J (ends.Other n) = ⊥

-- an entry of the record differs, or a fault ended its replay before all its messages were in the
-- journal; a replay that comes to its end, or lacks a message alone, has them all
abbrev pub IsLost : List Arrival → List Entry → ReplayEnd → Type 0
IsLost A J ends.Done = ⊥
IsLost A J (ends.Short n) = ⊥
IsLost A J (ends.Core fault) = SomeUngiven A J
IsLost A J (ends.Other n) = ⊤

-- the bytes are a record of a valid plan; no entry differs in its replay, which comes to a journal
-- with all its messages; the text is the record of that plan and journal, and says the plan, the
-- same messages, and the journal's Steps
pub record IsRecordOf (bytes : List ℕ) (text : List ℕ) : Type 0 where
  pub plan : Plan
  pub arrivals : List Arrival
  pub journal : List Entry
  pub end : ReplayEnd
  pub steps : Option (List Asked)
  pub read : reading bytes ≡ Said plan arrivals steps
  pub valid : IsValidPlan plan
  pub replayed : IsReplayBy plan arrivals steps None journal end
  pub kept : HasAllMessages arrivals journal end
  pub written : text ≡ record_text plan journal
  pub again : reading text ≡ Said plan arrivals (Some (steps_of journal))

-- the bytes are a record of a valid plan, whose replay ends as is said; an entry differs in it, or
-- it doesn't come to all its messages
pub record IsNoRecordOf (bytes : List ℕ) (e : Ending) : Type 0 where
  pub stopped : EndsEarly bytes None e
  pub lost : IsLost stopped.arrivals stopped.journal stopped.end

-- why these bytes give no record: they are none, or its replay ends so that it isn't saved
abbrev pub Unmigrated : List ℕ → Ending → Type 0
Unmigrated bytes e = IsUnread bytes e ⊎ IsNoRecordOf bytes e

-- what `migrate` makes of these bytes: the record that is saved, or why there is none
abbrev pub IsMigration : List ℕ → Result (List ℕ) Ending → Type 0
IsMigration bytes (Ok text) = IsRecordOf bytes text
IsMigration bytes (Err e) = Unmigrated bytes e
