-- For proofs alone. What the turns of a run's loop come to.
use Rattle.std.specs.Prelude.{◌≡◌, ℕ, ◌<◌, ◌≤◌, List, [], ◌++◌, length, Option, Some, None, Result, Ok, Err}
use Rattle.mk_base.specs.declared.LinkNo.{LinkNo}
use Rattle.mk_base.specs.declared.SimNo.{SimNo}
use Rattle.mk_base.specs.Lists.{IsIn}
use Rattle.mk_plan.specs.declared.Plan.{Plan}
use Rattle.mk_plan.specs.declared.Journal.{Journal}
use Rattle.mk_plan.specs.declared.Message.{Message}
use Rattle.mk_outside.specs.Counts.{HasRisen}
use Rattle.mk_outside.specs.declared.fleet.LogEntry.{LogEntry}
use Rattle.mk_outside.specs.Logs.{Adds}
use Rattle.mk_local.specs.declared.turn.Turn.{Turn}
use Rattle.mk_sched.specs.Cores.{CoreState}
use Rattle.mk_sched.specs.Answers.{SomeReady, SomeOpen}
use Rattle.mk_onlooker.specs.Showings.{AddsBatch, AddsItems}
use Rattle.mk_run_laws.specs.Handshake.{sim_link}
use Rattle.mk_run_laws.specs.Crews.{AreStopped, IsRestless}
use Rattle.mk_run_links.specs.Entries.{AreOn}
use Rattle.mk_run_links.specs.Places.{IsChannelLink, IsLinked}
use Rattle.mk_run_local.specs.Seen.{AreOf}
use Rattle.mk_run_crew.specs.Seen.{CrewSeen, crew_of, within_of}
use Rattle.mk_run.specs.declared.outcome.Outcome.{Outcome}
use Rattle.mk_run.specs.declared.outcome.Outcome.TheVariants as outcome
use Rattle.mk_run.specs.Ends.{IsRun}
use Rattle.mk_run.specs.inner.Underway.{Setting, IsUnderway, HasHeard, HasEnded, exchange_at}

-- the log of a fleet grew by some entries of which this holds, its count of faults having risen or
-- not
abbrev pub GrowsBy : {F : Type 0} → (F → Option (List LogEntry)) → (F → ℕ) → F → F
    → (List LogEntry → Type 0 → Type 0) → Type 0
GrowsBy log faults old new Holds = (entries : List LogEntry) × Adds entries (log old) (log new)
    × Holds entries (HasRisen (faults old) (faults new))

-- core and crew have come about together over the log
abbrev pub GoesOn : Setting → CoreState → List LogEntry → CrewSeen → Type 0
GoesOn T core log C = IsUnderway T core.plan core.entries log (crew_of C) C.sims

-- a message was heard besides, which the core hasn't taken
abbrev pub IsPast : Setting → CoreState → List LogEntry → SimNo → Message → CrewSeen → Type 0
IsPast T core log sim m C = HasHeard T core.plan core.entries log sim.0 m (crew_of C) C.sims

-- core and crew have come to this outcome
abbrev pub IsStopping : Type 0 → Setting → CoreState → List LogEntry → CrewSeen → Outcome → Type 0
IsStopping risen T core log C end = HasEnded risen T core.plan core.entries log (crew_of C) end

-- nobody is ready, and some request is open
abbrev pub Waits : CoreState → Type 0
Waits core = (SomeReady core.plan core.entries → ⊥) × SomeOpen core.plan core.entries

-- the links of all simulators are open
abbrev pub AreLinksOpen : Setting → List LinkNo → Type 0
AreLinksOpen T open_links = (i : ℕ) (l : LinkNo) → sim_link T.started T.scenario i ≡ Some l
    → IsIn l open_links

-- the crew has its places and its kinds still
pub record IsStill (old new : CrewSeen) : Type 0 where
  pub places : new.places ≡ old.places
  pub kinds : (rows : List Turn) → AreOf rows (within_of old) → AreOf rows (within_of new)

-- the core has its plan still, and its journal has got items alone
pub record GetsItems (old new : CoreState) : Type 0 where
  pub plan : new.plan ≡ old.plan
  pub adds : AddsItems old.entries new.entries

-- the core has its plan still, and its journal has got a batch
pub record GetsBatch (old new : CoreState) : Type 0 where
  pub plan : new.plan ≡ old.plan
  pub adds : AddsBatch old.entries new.entries

-- the core has its plan still, and more entries
pub record IsLonger (old new : CoreState) : Type 0 where
  pub plan : new.plan ≡ old.plan
  pub count : length old.entries < length new.entries

-- where an item was too long, it was one for a link
abbrev pub IsLinkedIfLong : CrewSeen → Outcome → Type 0
IsLinkedIfLong C end = (i : SimNo) (n : ℕ) → end ≡ outcome.LongItem i n → IsLinked i.0 C.channels

-- whoever was ready was asked, and now a message is waited for; or the run came to an outcome
abbrev pub AsksAllAs : Result (Unit {0}) Outcome → CoreState → CrewSeen → CoreState → CrewSeen
    → Type 0
AsksAllAs (Ok done) old C new D = (new.ended ≡ None) × Waits new
    × ((T : Setting) (log : List LogEntry) → GoesOn T old log C → GoesOn T new log D)
AsksAllAs (Err end) old C new D = (T : Setting) (log : List LogEntry) → GoesOn T old log C
    → IsStopping ⊥ T new log D end

-- the core took the message that was heard, and what it owed was sent; or the run came to an
-- outcome
abbrev pub TakesAs : Result (Unit {0}) Outcome → SimNo → Message → CoreState → CrewSeen → CoreState
    → CrewSeen → Type 0
TakesAs (Ok done) sim m old C new D = (new.ended ≡ None)
    × ((T : Setting) (log : List LogEntry) → IsPast T old log sim m C → GoesOn T new log D)
TakesAs (Err end) sim m old C new D = (T : Setting) (log : List LogEntry) → IsPast T old log sim m C
    → IsStopping ⊥ T new log D end

-- by these entries the run went on; or it came to an outcome
abbrev pub TurnsAs : Result (Unit {0}) Outcome → List LogEntry → Type 0 → CoreState → CrewSeen
    → CoreState → CrewSeen → Type 0
TurnsAs (Ok done) entries risen old C new D = (new.ended ≡ None)
    × ((T : Setting) (log : List LogEntry) → GoesOn T old log C → GoesOn T new (log ++ entries) D)
TurnsAs (Err end) entries risen old C new D = (T : Setting) (log : List LogEntry)
    → GoesOn T old log C → IsStopping risen T new (log ++ entries) D end

-- what a run of a plan over a crew comes to, whatever came before: its plan and its journal, and
-- what the whole run means; or there was no memory for it, and its crew was stopped
abbrev pub PlanRunsAs : Plan → CrewSeen → List LogEntry → ℕ → ℕ → Option Plan → Option Journal
    → Outcome → Type 0
PlanRunsAs plan C entries faults new_faults (Some P) (Some J) end = (T : Setting)
    (log : List LogEntry) (before : ℕ) → before ≤ faults
    → IsUnderway T plan [] log (crew_of C) C.sims
    → (P ≡ plan) × (r : IsRun (exchange_at T (log ++ entries)) P J.entries before new_faults end)
    × (r.replies ≡ T.replies)
PlanRunsAs plan C entries faults new_faults (Some P) None end = ⊥
PlanRunsAs plan C entries faults new_faults None (Some J) end = ⊥
PlanRunsAs plan C entries faults new_faults None None end = (end ≡ outcome.Mem)
    × AreStopped entries (HasRisen faults new_faults) (crew_of C) × IsRestless entries
    × AreOn (IsChannelLink C.channels) entries
