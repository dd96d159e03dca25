-- What a paced run means, and what a call of `paced` comes to.
use Rattle.std.specs.Prelude.{◌≡◌, ℕ, ◌<◌, ◌≤◌, List, [], ◌∷◌, ◌++◌, length, filter, Option, Some, None, true, false}
use Rattle.std.specs.List.{list_any}
use Rattle.mk_base.specs.declared.LinkNo.{LinkNo}
use Rattle.mk_plan.specs.declared.Plan.{Plan}
use Rattle.mk_plan.specs.declared.Journal.{Journal}
use Rattle.mk_plan.specs.declared.Item.{Item}
use Rattle.mk_plan.specs.declared.Message.{Message}
use Rattle.mk_plan.specs.declared.Entry.{Entry}
use Rattle.mk_plan.specs.Plans.{IsValidPlan, first_id, sim_count}
use Rattle.mk_plan.specs.Journals.{got, view}
use Rattle.mk_plan.specs.Orderly.{IsEager}
use Rattle.mk_plan.specs.Sequential.{Messages, takes_id}
use Rattle.mk_outside.specs.Counts.{HasRisen}
use Rattle.mk_outside.specs.declared.fleet.LogEntry.{LogEntry}
use Rattle.mk_outside.specs.declared.fleet.LogEntry.TheVariants.{Nap, Rest, Told}
use Rattle.mk_scenario.specs.declared.parts.Scenario.{Scenario}
use Rattle.mk_run_crew.specs.Attempts.{Attempt, exchange_of}
use Rattle.mk_run_laws.specs.Exchanges.{Exchange}
use Rattle.mk_run_laws.specs.Handshake.{is_within, setup_count, setup_requests, sim_link}
use Rattle.mk_run_laws.specs.Laws.{IsJournalOf}
use Rattle.mk_run_laws.specs.Rests.{AllSetUp, IsWellInSetup}
use Rattle.mk_run_laws.specs.Runs.{IsLinkOfRun}
use Rattle.mk_setup.specs.Handshakes.{IsMade}
use Rattle.mk_run_links.specs.Entries.{AreOnOrOfClock, IsRunLink}
use Rattle.mk_run_crew.specs.Answers.{AreKindAnswers, answers_to}
use Rattle.mk_run.specs.declared.outcome.Outcome.{Outcome}
use Rattle.mk_onlooker.specs.Showings.{AreInRange}
use Rattle.mk_run.specs.Ends.{IsAwaiting}
use Rattle.mk_run.specs.Ran.{HasNotRun}
use Rattle.mk_run.specs.Ran as ran
use Rattle.mk_pace_laws.specs.declared.end.Moment.{Moment}
use Rattle.mk_pace_laws.specs.declared.end.PaceEnd.{PaceEnd}
use Rattle.mk_pace_laws.specs.declared.end.PaceEnd.TheVariants as pace
use Rattle.mk_pace_laws.specs.Clocks.{IsRising, is_told}
use Rattle.mk_pace_laws.specs.Ends.{IsBroken, QueuedOut, Shows, fault_of}
use Rattle.mk_pace_laws.specs.Moments.{AreMoments, Timing, sent_out, timing}
use Rattle.mk_pace_laws.specs.Naps.{AreAllLinked, IsTimely, NapsLook, NapsWell}

-- the fleet didn't sleep
abbrev pub IsAwake : List LogEntry → Type 0
IsAwake entries = (before after : List LogEntry) → entries ≡ before ++ Nap ∷ after → ⊥

-- the clock was first looked at when all had set up, and told the origin; until then the fleet
-- didn't sleep
pub record IsOrigin (started : ℕ) (S : Scenario) (log : List LogEntry) (origin : ℕ) : Type 0 where
  pub before : List LogEntry
  pub later : List LogEntry
  pub parts : log ≡ before ++ Told origin ∷ later
  pub set_up : AllSetUp started S before
  pub untold : list_any is_told before ≡ false
  pub awake : IsAwake before

-- what is said on a link: of the journal's items those before the first Step that was never sent,
-- and no Step before its moment was told
pub record IsPacedLink (X : Exchange) (replies : Messages) (J : List Entry) (T : Timing)
    (risen : Type 0) (end : PaceEnd) (i : ℕ) (l : LinkNo) : Type 0 where
  pub items : List Item
  pub run : IsLinkOfRun X.scenario replies J X.log risen i l items
  pub queued : QueuedOut end (sent_out J T.moments i) items
  pub timely : IsTimely T.tempo X.scenario i l items X.log

-- a paced run with a plan and a journal, over the entries that it added to the log: what holds of a
-- run holds of it, but for items that were never sent; a simulator within the program replied to
-- what was sent alone; the fleet rests only in the handshake; where it sleeps, the last read of each
-- link found nothing, and, the clock never having gone back and no simulator being within the
-- program, nothing was due; the journal has the fault that the end names, if it names one; where the
-- run was broken off some request was open, and nobody was ready; and no link but the run's was read
-- or written
pub record IsPaced (X : Exchange) (P : Plan) (J : List Entry) (T : Timing)
    (faults new_faults : ℕ) (end : PaceEnd) : Type 0 where
  pub replies : Messages
  pub valid : IsValidPlan P
  pub journal : IsJournalOf X P J
  pub eager : IsEager P J
  pub within : length J ≤ P.entries
  pub in_range : AreInRange J
  pub origin : IsOrigin X.started X.scenario X.log T.tempo.origin
  pub links : (i : ℕ) (l : LinkNo) → sim_link X.started X.scenario i ≡ Some l
      → IsPacedLink X replies J T (HasRisen faults new_faults) end i l
  pub moments_are : AreMoments T.tempo T.strict J X.log T.moments
  pub replied : (i : ℕ) → is_within X.scenario i ≡ true
      → length (got J i) ≤ length (filter takes_id (sent_out J T.moments i))
  pub setup_rests : (before after : List LogEntry) → X.log ≡ before ++ Rest ∷ after
      → IsWellInSetup X.started X.scenario before × (AllSetUp X.started X.scenario before → ⊥)
  pub on_links : AreOnOrOfClock (IsRunLink X.started X.scenario) X.log
  pub naps : IsRising X.log → AreAllLinked X.scenario
      → NapsWell X.started X.scenario P T.tempo J X.log
  pub looks : NapsLook X.started X.scenario X.log
  pub shown : Shows X P J T faults new_faults end
  pub fault : (view P J).fault ≡ fault_of end
  pub unfinished : IsBroken end → IsAwaiting P J

-- the handshake was made, the clock told the origin, and what came of the run then
pub record HasPaced (A : Attempt) (factor : ℕ) (strict : Option ℕ) (P : Plan) (J : List Entry)
    (moments : List Moment) (faults new_faults : ℕ) (end : PaceEnd) : Type 0 where
  pub answers : List Message
  pub made : IsMade A.scenario A.ranks answers P
  pub kinds : AreKindAnswers A.rows A.scenario answers
  pub first : (i : ℕ) → i < sim_count P → first_id P i ≡ setup_count A.scenario i
  pub origin : ℕ
  pub run : IsPaced (exchange_of A) P J
      (timing (record { origin = origin; factor = factor }) strict moments) faults new_faults end
  pub told : (i : ℕ) (l : LinkNo) → sim_link A.started A.scenario i ≡ Some l
      → run.replies i ≡ answers_to i (setup_requests A.scenario) answers

-- the handshake ended early, or there was no memory for the run, or the clock failed when it was
-- first looked at; the fleet didn't sleep
pub record HasNotPaced (A : Attempt) (risen : Type 0) (end : PaceEnd) : Type 0 where
  pub outcome : Outcome
  pub is : end ≡ pace.Outcome outcome
  pub run : HasNotRun A risen outcome
  pub awake : IsAwake A.log

-- the run may have ended while its links were started: the fleet failed or memory was wanting, and
-- nothing was read or written
abbrev pub EndsAtStart : Option Plan → List LogEntry → PaceEnd → Type 0
EndsAtStart plan log end = (o : Outcome) × (end ≡ pace.Outcome o) × ran.EndsAtStart plan log o

-- a paced run with its plan and its journal, or with neither
abbrev pub PacesAs : Attempt → ℕ → Option ℕ → Option Plan → Option Journal → List Moment → ℕ → ℕ
    → PaceEnd → Type 0
PacesAs A factor strict (Some P) (Some J) moments faults new_faults end = HasPaced A factor strict P
    J.entries moments faults new_faults end
PacesAs A factor strict (Some P) None moments faults new_faults end = ⊥
PacesAs A factor strict None (Some J) moments faults new_faults end = ⊥
PacesAs A factor strict None None moments faults new_faults end = HasNotPaced A
    (HasRisen faults new_faults) end × (moments ≡ [])
