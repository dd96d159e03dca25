-- For proofs alone. What the turns of a resumed run's loop come to.
use Rattle.std.specs.Prelude.{◌≡◌, ◌⊎◌, ℕ, true, List, [], ◌∷◌, ◌++◌, length, take, Option, Some, None, slice_get, Result, Ok, Err}
use Rattle.mk_base.specs.declared.SimNo.{SimNo}
use Rattle.mk_plan.specs.declared.Message.{Message}
use Rattle.mk_plan.specs.declared.Entry.{Entry}
use Rattle.mk_plan.specs.declared.Entry.TheVariants.{Got}
use Rattle.mk_plan.specs.Plans.{first_id, sim_count}
use Rattle.mk_plan.specs.Journals.{view}
use Rattle.mk_plan.specs.Ready.{IsDone}
use Rattle.mk_plan.specs.Sequential.{id_after}
use Rattle.mk_outside.specs.declared.fleet.LogEntry.{LogEntry}
use Rattle.mk_sched.specs.Cores.{CoreState}
use Rattle.mk_sched.specs.Answers.{SomeReady, SomeOpen}
use Rattle.mk_run_laws.specs.Handshake.{is_within}
use Rattle.mk_run_local.specs.Calls.{IsFitSuccess}
use Rattle.mk_run_crew.specs.Seen.{CrewSeen, crew_of}
use Rattle.mk_run.specs.inner.Underway.{Setting}
use Rattle.mk_resume_walk.specs.Index.{own_count}
use Rattle.mk_resume_links.specs.Rests.{Counts}
use Rattle.mk_resume_loop.specs.declared.behind.Standing.{Standing}
use Rattle.mk_resume_loop.specs.declared.ending.ResumeEnd.{ResumeEnd}
use Rattle.mk_resume_loop.specs.declared.ending.Pause.{Pause}
use Rattle.mk_resume_loop.specs.declared.ending.Pause.TheVariants as pause
use Rattle.mk_resume_loop.specs.inner.Ending.{HasEnded}
use Rattle.mk_resume_loop.specs.inner.Underway.{AreBehind, BehindSeen, Course, IsIndexed, IsMet, IsPassed, IsPassing, IsResuming, IsResumingWith, StandsAt, course_of, saved_of}
use Rattle.mk_resume_links.specs.inner.Touching.{RestsOver}
use Rattle.mk_resume_links.specs.inner.Catching.{one_more}

-- core, crew and what is behind have come about together over the log
abbrev pub GoesOn : Setting → List Entry → Counts → CoreState → List LogEntry → CrewSeen
    → BehindSeen → Type 0
GoesOn T first heard core log C B = IsResuming T core.plan first core.entries heard log (crew_of C)
    C.sims × AreBehind core.plan core.entries heard B

-- nobody is ready, and a request is open, or a simulator is behind
abbrev pub Waits : CoreState → BehindSeen → Type 0
Waits core B = (SomeReady core.plan core.entries → ⊥) × (SomeOpen core.plan core.entries
    ⊎ ((i : ℕ) × (c : Standing) × (slice_get B.sims i ≡ Some (Some c))))

-- a message was heard besides, which wasn't taken
abbrev pub IsPast : Setting → List Entry → Counts → CoreState → List LogEntry → SimNo → Message
    → CrewSeen → BehindSeen → Type 0
IsPast T first heard core log sim m C B = IsMet T core.plan first core.entries heard log sim.0 m
    (crew_of C) C.sims × AreBehind core.plan core.entries heard B

-- core and crew have come to this end, each simulator having sent so many messages in this call
abbrev pub IsStopping : Type 0 → Setting → List Entry → CoreState → List LogEntry → CrewSeen
    → ResumeEnd → Type 0
IsStopping risen T first core log C end = (heard : Counts)
    × HasEnded risen T core.plan first core.entries heard log (crew_of C) end

-- a simulator is to be sent its items anew: the course of the run, and the place of the journal
-- before which its entries were gone through
pub record Walk : Type 0 where
  pub course : Course
  pub from : ℕ

-- so many entries of the simulator were gone through, those before a place of the journal; the id
-- is that of its next request; and where it runs within the program and its message stands before
-- that place, that one is a success
pub record IsDue (R : Walk) (core : CoreState) (C : CrewSeen) (s gone id : ℕ) : Type 0 where
  pub resuming : IsResumingWith R.course core.plan core.entries (crew_of C) C.sims
  pub passing : IsPassing R.course core.plan core.entries s R.from
  pub counted : gone ≡ own_count s (take R.from core.entries)
  pub numbered : id ≡ id_after (first_id core.plan s) (R.course.queued s)
  pub fit : is_within R.course.setting.scenario s ≡ true → (H : List Entry) (t : SimNo)
      (m : Message) → take R.from core.entries ≡ H ++ Got t m ∷ [] → t.0 ≡ s → IsFitSuccess m

-- the simulator was sent what is free, and stands there now; or the run came to an end
abbrev pub PassesAs : Result (Unit {0}) ResumeEnd → CoreState → ℕ → ℕ → ℕ → CrewSeen → CrewSeen
    → BehindSeen → Type 0
PassesAs (Ok done) core s gone id C D B = (R : Walk) → IsDue R core C s gone id
    → IsPassed R.course core.plan core.entries s D
    × ((o : Option Standing) → slice_get B.sims s ≡ Some o
    → StandsAt core.plan core.entries s (R.course.heard s) o)
PassesAs (Err end) core s gone id C D B = (R : Walk) → IsDue R core C s gone id
    → HasEnded ⊥ R.course.setting core.plan R.course.first core.entries R.course.heard R.course.log
    (crew_of D) end

-- each simulator was sent its first items; or the run came to an end
abbrev pub BeginsAs : Result (Unit {0}) ResumeEnd → CoreState → CrewSeen → CrewSeen → BehindSeen
    → Type 0
BeginsAs (Ok done) core C D B = (T : Setting) (log : List LogEntry)
    → IsResumingWith (course_of T core.entries (λ i. 0) (λ i. []) (λ i. []) log) core.plan
    core.entries (crew_of C) C.sims
    → RestsOver (saved_of core.entries) T.started T.scenario T.replies core.plan core.entries log
    → GoesOn T core.entries (λ i. 0) core log D B
BeginsAs (Err end) core C D B = (T : Setting) (log : List LogEntry)
    → IsResumingWith (course_of T core.entries (λ i. 0) (λ i. []) (λ i. []) log) core.plan
    core.entries (crew_of C) C.sims
    → RestsOver (saved_of core.entries) T.started T.scenario T.replies core.plan core.entries log
    → IsStopping ⊥ T core.entries core log D end

-- nobody is ready: a request is open, or nothing is left to do
abbrev pub IsPausing : Pause → CoreState → Type 0
IsPausing pause.Waiting core = SomeOpen core.plan core.entries
IsPausing pause.Over core = IsDone core.plan (view core.plan core.entries)

-- whoever was ready was asked; or the run came to an end
abbrev pub AsksAllAs : Result Pause ResumeEnd → CoreState → CrewSeen → CoreState → CrewSeen
    → BehindSeen → Type 0
AsksAllAs (Ok p) old C new D B = (new.ended ≡ None)
    × (SomeReady new.plan new.entries → ⊥) × IsPausing p new
    × ((T : Setting) (first : List Entry) (heard : Counts) (log : List LogEntry)
    → GoesOn T first heard old log C B → GoesOn T first heard new log D B)
AsksAllAs (Err end) old C new D B = (T : Setting) (first : List Entry) (heard : Counts)
    (log : List LogEntry) → GoesOn T first heard old log C B → IsStopping ⊥ T first new log D end

-- the core took the message of a simulator that had caught up, or it was one that its simulator had
-- to send again, and what is free then was sent; or the run came to an end
abbrev pub TakesAs : Result (Unit {0}) ResumeEnd → SimNo → Message → CoreState → CrewSeen
    → BehindSeen → CoreState → CrewSeen → BehindSeen → Type 0
TakesAs (Ok done) sim m old C B new D E = (new.ended ≡ None) × ((T : Setting) (first : List Entry)
    (heard : Counts) (log : List LogEntry) → IsPast T first heard old log sim m C B
    → GoesOn T first (one_more heard sim.0) new log D E)
TakesAs (Err end) sim m old C B new D E = (T : Setting) (first : List Entry) (heard : Counts)
    (log : List LogEntry) → IsPast T first heard old log sim m C B
    → IsStopping ⊥ T first new log D end

-- by these entries the run went on; or it came to an end
abbrev pub TurnsAs : Result (Unit {0}) ResumeEnd → List LogEntry → Type 0 → CoreState → CrewSeen
    → BehindSeen → CoreState → CrewSeen → BehindSeen → Type 0
TurnsAs (Ok done) entries risen old C B new D E = (new.ended ≡ None) × ((T : Setting)
    (first : List Entry) (heard : Counts) (log : List LogEntry) → GoesOn T first heard old log C B
    → (next : Counts) × GoesOn T first next new (log ++ entries) D E)
TurnsAs (Err end) entries risen old C B new D E = (T : Setting) (first : List Entry)
    (heard : Counts) (log : List LogEntry) → GoesOn T first heard old log C B
    → IsStopping risen T first new (log ++ entries) D end

-- what is kept of all has its sizes still, and its index has grown at most
pub record IsSized (core : CoreState) (B : BehindSeen) : Type 0 where
  pub sims : length B.sims ≡ sim_count core.plan
  pub indexed : IsIndexed core.plan core.entries B.index
