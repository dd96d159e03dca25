-- What `watch` makes of the bytes of a record and of a file of watches, by rules of certain names
-- and folds: the tables, or why there are none.
use Rattle.std.specs.Prelude.{◌≡◌, ◌⊎◌, ℕ, List, None, Option, Result, Ok, Err}
use Rattle.mk_plan.specs.declared.Plan.{Plan}
use Rattle.mk_plan.specs.declared.Entry.{Entry}
use Rattle.mk_plan.specs.Journals.{Arrival}
use Rattle.mk_plan.specs.Sequential.{run_items}
use Rattle.mk_record.specs.Reading.{reading, Said}
use Rattle.mk_record.specs.Asked.{Asked}
use Rattle.mk_record.specs.Replays.{messages_from}
use Rattle.mk_watch_read.specs.declared.fault.WatchFault.{WatchFault}
use Rattle.mk_watch_read.specs.declared.rule.Fold.{Fold}
use Rattle.mk_watch_read.specs.declared.watches.Watch.{Watch}
use Rattle.mk_watch_read.specs.Watches.{watches_of}
use Rattle.mk_watch.specs.Tables.{tables_text}
use Rattle.mosaikrun_endings.specs.declared.ending.Ending.{Ending}
use Rattle.mosaikrun_endings.specs.declared.ending.Ending.TheVariants as ends
use Rattle.mosaikrun_records.specs.Saved.{EndsEarly, IsUnread, ReplaysTo}

-- the bytes are a record of a valid plan, and its replay, the messages as they came, comes to a
-- journal in which all is done; the file says watches over that plan; and the text is their tables
-- over what sequential execution of the plan over the record's messages sends each simulator
pub record IsTabled (names : List (List ℕ)) (folds : List Fold) (bytes spec text : List ℕ)
    : Type 0 where
  pub plan : Plan
  pub journal : List Entry
  pub watches : List Watch
  pub replayed : ReplaysTo bytes plan journal
  pub read : watches_of plan names spec ≡ Ok watches
  pub is : text ≡ tables_text plan names folds (run_items plan (messages_from replayed.arrivals))
      watches

-- the file says no watches over the plan: the ending names the first test that it fails; or memory
-- is wanting
abbrev pub IsNoWatch : Plan → List (List ℕ) → List ℕ → Ending → Type 0
IsNoWatch P names spec e = (e ≡ ends.Mem)
    ⊎ ((fault : WatchFault) × (e ≡ ends.Watches fault) × (watches_of P names spec ≡ Err fault))

-- the bytes are a record, and the file says no watches over its plan: the ending names the first
-- test that the file fails
pub record SaysNoWatches (names : List (List ℕ)) (bytes spec : List ℕ) (ending : Ending)
    : Type 0 where
  pub plan : Plan
  pub arrivals : List Arrival
  pub steps : Option (List Asked)
  pub fault : WatchFault
  pub record_is : reading bytes ≡ Said plan arrivals steps
  pub refused : watches_of plan names spec ≡ Err fault
  pub is : ending ≡ ends.Watches fault

-- the bytes are a record, the file says watches over its plan, and the record's replay isn't done:
-- the ending says why
pub record IsUndone (names : List (List ℕ)) (bytes spec : List ℕ) (ending : Ending)
    : Type 0 where
  pub plan : Plan
  pub arrivals : List Arrival
  pub steps : Option (List Asked)
  pub watches : List Watch
  pub record_is : reading bytes ≡ Said plan arrivals steps
  pub read : watches_of plan names spec ≡ Ok watches
  pub stopped : EndsEarly bytes None ending

-- why there are no tables: the bytes are no record; the file says no watches; or the replay isn't
-- done. Or memory is wanting
abbrev pub IsUntabled : List (List ℕ) → List ℕ → List ℕ → Ending → Type 0
IsUntabled names bytes spec e = IsUnread bytes e
    ⊎ (SaysNoWatches names bytes spec e ⊎ IsUndone names bytes spec e)

-- what `watch` makes of these bytes: the text that it prints, or why there is none
abbrev pub IsWatchOutcome : List (List ℕ) → List Fold → List ℕ → List ℕ → Result (List ℕ) Ending
    → Type 0
IsWatchOutcome names folds bytes spec (Ok text) = IsTabled names folds bytes spec text
IsWatchOutcome names folds bytes spec (Err e) = IsUntabled names bytes spec e
