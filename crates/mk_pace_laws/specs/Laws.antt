-- The laws of a paced run: what it said and promised, and where it slept.
use Rattle.std.specs.Prelude.{◌≡◌, ℕ, ◌⊎◌, ℤ, true, List, Some, None, length}
use Rattle.mk_base.specs.declared.LinkNo.{LinkNo}
use Rattle.mk_base.specs.declared.SimNo.{SimNo}
use Rattle.mk_base.specs.Lists.{IsIn}
use Rattle.mk_plan.specs.declared.Plan.{Plan}
use Rattle.mk_plan.specs.declared.Item.{Item}
use Rattle.mk_plan.specs.declared.Entry.{Entry}
use Rattle.mk_plan.specs.Agreement.{Agrees}
use Rattle.mk_plan.specs.Journals.{view}
use Rattle.mk_plan.specs.Sequential.{Messages}
use Rattle.mk_frame.specs.Frames.{IsTooLong}
use Rattle.mk_outside.specs.Counts.{HasRisen}
use Rattle.mk_outside.specs.declared.fleet.LogEntry.{LogEntry}
use Rattle.mk_outside.specs.declared.fleet.LogEntry.TheVariants.{Ended}
use Rattle.mk_outside.specs.Logs.{heard_on}
use Rattle.mk_session.specs.Fronts.{BeginsGarbled}
use Rattle.mk_scenario.specs.declared.parts.Scenario.{Scenario}
use Rattle.mk_run_laws.specs.Exchanges.{Exchange}
use Rattle.mk_run_laws.specs.Handshake.{setup_count, sim_link}
use Rattle.mk_run_laws.specs.Hearing.{rest_heard}
use Rattle.mk_run_laws.specs.Runs.{SaidWhole, SaysRight}
use Rattle.mk_run.specs.declared.outcome.Outcome.TheVariants as outcome
use Rattle.mk_run.specs.Ends.{IsMessageLeft, NeedsMore}
use Rattle.mk_run.specs.Laws.{ArePromised, HasSentAll}
use Rattle.mk_pace_laws.specs.declared.end.Moment.{Moment}
use Rattle.mk_pace_laws.specs.declared.end.PaceEnd.{PaceEnd}
use Rattle.mk_pace_laws.specs.declared.end.PaceEnd.TheVariants as pace
use Rattle.mk_pace_laws.specs.Clocks.{IsRising}
use Rattle.mk_pace_laws.specs.Ends.{IsLongAmong, QueuedOut}
use Rattle.mk_pace_laws.specs.Moments.{Tempo, Timing, sent_out}
use Rattle.mk_pace_laws.specs.Naps.{AreNaps, NapsWell}
use Rattle.mk_pace_laws.specs.Paced.{IsPaced}

-- what is said on a simulator's link: its handshake, items that begin what sequential execution
-- sends it, and a stop; all of it, but where a write took nothing or the count of faults rose; and
-- the items are all of the journal's before the first Step that was never sent, but for the last
-- ones, where one was too long or there was no memory for it
pub record LinkPacesRight (X : Exchange) (P : Plan) (J : List Entry) (moments : List Moment)
    (risen : Type 0) (end : PaceEnd) (i : ℕ) (l : LinkNo) : Type 0 where
  pub items : List Item
  pub right : SaysRight X (Some P) i l (setup_count X.scenario i) items true
  pub whole : SaidWhole X.scenario X.log risen i l (setup_count X.scenario i) items
  pub all : QueuedOut end (sent_out J moments i) items

-- what holds of a paced run
pub record IsRightPace (X : Exchange) (P : Plan) (J : List Entry) (moments : List Moment)
    (risen : Type 0) (end : PaceEnd) : Type 0 where
  pub agrees : Agrees P J
  pub links : (i : ℕ) (l : LinkNo) → sim_link X.started X.scenario i ≡ Some l
      → LinkPacesRight X P J moments risen end i l
  pub done : end ≡ pace.Outcome outcome.Done → HasSentAll X P J
  pub promised : ArePromised X P J

-- every paced run is right
abbrev pub PacesAreRight : Type 0
PacesAreRight = (X : Exchange) (P : Plan) (J : List Entry) (T : Timing) (faults new_faults : ℕ)
    (end : PaceEnd) → IsPaced X P J T faults new_faults end
    → IsRightPace X P J T.moments (HasRisen faults new_faults) end

-- what stood at each sleep, said of the run's own journal
abbrev pub NapsAreWell : Type 0
NapsAreWell = (started : ℕ) (S : Scenario) (replies : Messages)
    → ((i : ℕ) (l : LinkNo) → sim_link started S i ≡ Some l → length (replies i) ≡ setup_count S i)
    → (P : Plan) (T : Tempo) (J : List Entry) (log : List LogEntry)
    → IsRising log → AreNaps started S replies P T J log → NapsWell started S P T J log

-- nothing went wrong that a paced run can show, but that a Step may be too late
pub record IsFaultlessPace (X : Exchange) (P : Plan) (J : List Entry)
    (faults new_faults : ℕ) : Type 0 where
  pub no_fault : (view P J).fault ≡ None
  pub roomy : length J ≡ P.entries
      → NeedsMore P J (IsMessageLeft X.started X.scenario P J X.log) → ⊥
  pub counts : HasRisen faults new_faults → ⊥
  pub open_links : (i : ℕ) (l : LinkNo) → sim_link X.started X.scenario i ≡ Some l
      → IsIn (Ended l) X.log → ⊥
  pub right_frames : (i : ℕ) (l : LinkNo) (n : ℕ) → sim_link X.started X.scenario i ≡ Some l
      → BeginsGarbled (rest_heard (heard_on l X.log)) n
      ⊎ IsTooLong n (rest_heard (heard_on l X.log)) → ⊥
  pub short_items : (i n : ℕ) → IsLongAmong X.started X.scenario P J i n → ⊥

-- it ended because a Step was too late by the bound that was given
pub record EndsLate (T : Timing) (end : PaceEnd) : Type 0 where
  pub sim : SimNo
  pub time : ℤ
  pub late : ℕ
  pub allowed : ℕ
  pub is : end ≡ pace.Late sim time late allowed
  pub bound : T.strict ≡ Some allowed

-- where nothing else went wrong, it ended because nothing was left to do, for want of memory, or
-- because a Step was too late
abbrev pub PacesComplete : Type 0
PacesComplete = (X : Exchange) (P : Plan) (J : List Entry) (T : Timing) (faults new_faults : ℕ)
    (end : PaceEnd) → IsPaced X P J T faults new_faults end
    → IsFaultlessPace X P J faults new_faults
    → (end ≡ pace.Outcome outcome.Done)
    ⊎ ((end ≡ pace.Outcome outcome.Mem) ⊎ EndsLate T end)
