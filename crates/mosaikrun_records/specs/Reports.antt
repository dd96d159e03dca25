-- What `replay` makes of a record's bytes: a report, or why there is none.
use Rattle.std.specs.Prelude.{◌≡◌, ◌⊎◌, ℕ, ◌<◌, true, List, Option, Result, Ok, Err}
use Rattle.mk_plan.specs.declared.Plan.{Plan}
use Rattle.mk_plan.specs.declared.Entry.{Entry}
use Rattle.mk_plan.specs.Plans.{IsValidPlan, sim_count}
use Rattle.mk_plan.specs.Journals.{Arrival}
use Rattle.mk_plan.specs.Sequential.{run_items, sequential, all_ended, messages_in}
use Rattle.mk_plan.specs.Report.{report}
use Rattle.mk_record.specs.Reading.{reading, Said}
use Rattle.mk_record.specs.Asked.{Asked}
use Rattle.mk_record.specs.Replays.{messages_from}
use Rattle.mosaikrun_endings.specs.declared.ending.Ending.{Ending}
use Rattle.mosaikrun_records.specs.Saved.{EndsEarly, IsDoneBy, IsUnread}

-- the bytes are a record of a valid plan; its replay in this order comes to a journal in which all
-- is done; and the text is the report of the sequential execution of the plan over the record's
-- messages, in which each message is used and no turn is cut
pub record IsReportOf (bytes : List ℕ) (order : Option ℕ) (text : List ℕ) : Type 0 where
  pub plan : Plan
  pub arrivals : List Arrival
  pub journal : List Entry
  pub steps : Option (List Asked)
  pub read : reading bytes ≡ Said plan arrivals steps
  pub valid : IsValidPlan plan
  pub done : IsDoneBy plan arrivals steps order journal
  pub used : (i : ℕ) → i < sim_count plan
      → messages_in (sequential plan (messages_from arrivals) i) ≡ messages_from arrivals i
  pub uncut : (i : ℕ) → i < sim_count plan
      → all_ended (sequential plan (messages_from arrivals) i) ≡ true
  pub reported : text ≡ report plan (run_items plan (messages_from arrivals))

-- why these bytes give no report in this order: they are no record, or its replay ends early
abbrev pub Unreported : List ℕ → Option ℕ → Ending → Type 0
Unreported bytes order e = IsUnread bytes e ⊎ EndsEarly bytes order e

-- what `replay` makes of these bytes in this order: the text that it prints, or why there is none
abbrev pub IsOutcome : List ℕ → Option ℕ → Result (List ℕ) Ending → Type 0
IsOutcome bytes order (Ok text) = IsReportOf bytes order text
IsOutcome bytes order (Err e) = Unreported bytes order e
