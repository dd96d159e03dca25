-- What `blame` makes of the bytes of two records: the text of a verdict, or why there is none.
use Rattle.std.specs.Prelude.{◌≡◌, ◌⊎◌, ℕ, List, Some, None, Result, Ok, Err}
use Rattle.mk_plan.specs.declared.Plan.{Plan}
use Rattle.mk_plan.specs.declared.Entry.{Entry}
use Rattle.mk_plan_same.specs.Parts.{IsFirstOther}
use Rattle.mk_blame.specs.declared.verdict.Verdict.{Verdict}
use Rattle.mk_blame.specs.Verdicts.{IsVerdict}
use Rattle.mk_blame.specs.Written.{verdict_text}
use Rattle.mosaikrun_endings.specs.declared.ending.Ending.{Ending}
use Rattle.mosaikrun_endings.specs.declared.ending.Ending.TheVariants as ends
use Rattle.mosaikrun_records.specs.Saved.{EndsEarly, IsRecord, IsUnread, ReplaysTo}

-- both are records of valid plans, and each replay, the messages as they came, comes to a journal
-- in which all is done
pub record BothReplay (first second : List ℕ) : Type 0 where
  pub plan : Plan
  pub other_plan : Plan
  pub journal : List Entry
  pub other_journal : List Entry
  pub first_replays : ReplaysTo first plan journal
  pub second_replays : ReplaysTo second other_plan other_journal

-- both replays are done, the plans are the same but for the limit of entries, and the text is that
-- of the verdict on the two journals
pub record IsBlameText (first second text : List ℕ) : Type 0 where
  pub both : BothReplay first second
  pub same : IsFirstOther both.plan both.other_plan None
  pub verdict : Verdict
  pub judged : IsVerdict both.plan both.journal both.other_journal verdict
  pub is : text ≡ verdict_text both.plan verdict

-- both are records, and the first's replay isn't done; the ending says why
pub record IsFirstStopped (first second : List ℕ) (ending : Ending) : Type 0 where
  pub record_is : IsRecord second
  pub stopped : EndsEarly first None ending

-- the first's replay is done, and the second's isn't; the ending says why
pub record IsSecondStopped (first second : List ℕ) (ending : Ending) : Type 0 where
  pub plan : Plan
  pub journal : List Entry
  pub first_replays : ReplaysTo first plan journal
  pub stopped : EndsEarly second None ending

-- both replays are done, and the ending names the first part in which the plans differ
pub record IsOfAnotherPlan (first second : List ℕ) (ending : Ending) : Type 0 where
  pub both : BothReplay first second
  pub part : ℕ
  pub differs : IsFirstOther both.plan both.other_plan (Some part)
  pub is : ending ≡ ends.OtherPlan part

-- why nobody can be blamed: the first is no record, or the second; the replay of the first isn't
-- done, or that of the second; or they are of two plans. Or memory is wanting
abbrev pub IsUnblamed : List ℕ → List ℕ → Ending → Type 0
IsUnblamed first second e = IsUnread first e
    ⊎ ((IsRecord first × IsUnread second e)
    ⊎ (IsFirstStopped first second e
    ⊎ (IsSecondStopped first second e ⊎ IsOfAnotherPlan first second e)))

-- what `blame` makes of these bytes: the text that it prints, or why there is none
abbrev pub IsBlameOutcome : List ℕ → List ℕ → Result (List ℕ) Ending → Type 0
IsBlameOutcome first second (Ok text) = IsBlameText first second text
IsBlameOutcome first second (Err e) = IsUnblamed first second e
