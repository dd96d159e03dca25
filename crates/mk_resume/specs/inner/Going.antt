-- For proofs alone. What comes of a crew whose handshake is over, and of a core that has taken a
-- record's messages.
use Rattle.std.specs.Prelude.{◌≡◌, ℕ, ◌≤◌, Bool, true, false, List, [], ◌++◌, map, Option, Some, None}
use Rattle.mk_plan.specs.declared.Plan.{Plan}
use Rattle.mk_plan.specs.declared.Entry.{Entry}
use Rattle.mk_plan.specs.declared.Journal.{Journal}
use Rattle.mk_outside.specs.declared.fleet.LogEntry.{LogEntry}
use Rattle.mk_launch.specs.Ready.{IsPrepared}
use Rattle.mk_run_crew.specs.Attempts.{Attempt, longer}
use Rattle.mk_local.specs.Kinds.{name_of}
use Rattle.mk_record_read.specs.declared.saved.Saved.{Saved}
use Rattle.mk_record_read.specs.Seen.{came}
use Rattle.mk_record_compare.specs.Differences.{IsOther}
use Rattle.mk_plan_same.specs.Parts.{IsFirstOther}
use Rattle.mk_record_restored.specs.Restored.{IsOnward, IsRestored}
use Rattle.mk_sched.specs.Cores.{CoreState}
use Rattle.mk_run_crew.specs.Begun.{HasBegun}
use Rattle.mk_run_crew.specs.Seen.{CrewSeen, crew_of}
use Rattle.mk_run.specs.inner.Underway.{Setting, exchange_at}
use Rattle.mk_resume_links.specs.inner.Touching.{RestsOver}
use Rattle.mk_resume_loop.specs.declared.ending.ResumeEnd.{ResumeEnd}
use Rattle.mk_resume_loop.specs.inner.Turns.{IsSized, IsStopping}
use Rattle.mk_resume_loop.specs.inner.Underway.{IsResumingWith, course_of, saved_of}
use Rattle.mk_onlooker.specs.Showings.{IsShown}
use Rattle.mk_resume.specs.declared.accepting.Accepted.{Accepted}
use Rattle.mk_resume.specs.declared.accepting.Accepted.TheVariants as accepted
use Rattle.mk_resume.specs.Resumed.{HasFaultySaved, IsRefusedBy, IsResumed, ResumesAs}

-- the handshake is over, and the crew stands for what came of it
pub record IsStarted (A : Attempt) (C : CrewSeen) (P : Plan) : Type 0 where
  pub prepared : IsPrepared A.scenario (map name_of A.rows)
  pub begun : HasBegun A C P

-- a core has taken a record's messages, and nothing was sent behind the handshake
pub record IsFresh (T : Setting) (core : CoreState) (log : List LogEntry)
    (C : CrewSeen) : Type 0 where
  pub resuming : IsResumingWith (course_of T core.entries (λ i. 0) (λ i. []) (λ i. []) log)
      core.plan core.entries (crew_of C) C.sims
  pub over : RestsOver (saved_of core.entries) T.started T.scenario T.replies core.plan core.entries
      log

-- by these entries it came to this end
abbrev pub CatchesUpAs : List LogEntry → Type 0 → CoreState → CrewSeen → CoreState → CrewSeen
    → ResumeEnd → Type 0
CatchesUpAs entries risen old C new D end = (T : Setting) (log : List LogEntry)
    → IsFresh T old log C → IsStopping risen T old.entries new (log ++ entries) D end

-- and what the whole run means
abbrev pub GoesOnAs : CoreState → CrewSeen → List LogEntry → ℕ → ℕ → Option Plan → Option Journal
    → ResumeEnd → Type 0
GoesOnAs core C entries faults new_faults (Some P) (Some J) end = (saved : Saved)
    → IsRestored core.plan (map came saved.arrivals) core.entries
    → IsOther (map came saved.arrivals) saved.asks core.entries None → (T : Setting)
    (log : List LogEntry) (before : ℕ) → before ≤ faults → IsFresh T core log C
    → (P ≡ core.plan) × (r : IsResumed
    (exchange_at T (log ++ entries)) P saved J.entries before new_faults end)
    × (r.replies ≡ T.replies)
GoesOnAs core C entries faults new_faults (Some P) None end = ⊥
GoesOnAs core C entries faults new_faults None J end = ⊥

-- all that the core had was shown, and what its journal got
abbrev pub ShowsOnward : {O : Type 0} → (O → Plan → List Entry → Bool → O → Type 0) → CoreState
    → Option Plan → Option Journal → O → O → Type 0
ShowsOnward looks core (Some P) (Some J) old new = (P ≡ core.plan)
    × IsShown looks P true core.entries J.entries old new
ShowsOnward looks core (Some P) None old new = ⊥
ShowsOnward looks core None J old new = ⊥

-- why a record wasn't taken, and what is left of it
abbrev pub RefusesAs : Plan → Saved → Option Plan → Option Journal → ResumeEnd → Type 0
RefusesAs plan saved (Some P) (Some J) end = (P ≡ plan) × HasFaultySaved plan saved J.entries end
RefusesAs plan saved (Some P) None end = ⊥
RefusesAs plan saved None (Some J) end = ⊥
RefusesAs plan saved None None end = IsRefusedBy plan saved end

-- a record was taken, or it wasn't
abbrev pub AcceptsAs : Plan → Saved → Accepted → Type 0
AcceptsAs plan saved (accepted.Onward core behind) = IsFirstOther plan saved.plan None
    × IsOnward plan (map came saved.arrivals) saved.asks core × IsSized core behind
AcceptsAs plan saved (accepted.Refused ran) = (ran.taken ≡ false)
    × RefusesAs plan saved ran.plan ran.journal ran.end

-- what comes of the plan that a handshake was made of, whatever came before
abbrev pub PlanResumesAs : Plan → Saved → CrewSeen → List LogEntry → ℕ → ℕ → Bool → Option Plan
    → Option Journal → ResumeEnd → Type 0
PlanResumesAs plan saved C entries faults new_faults taken P J end = (A : Attempt) (before : ℕ)
    → before ≤ faults → IsStarted A C plan
    → ResumesAs (longer A entries) saved taken P J before new_faults end
