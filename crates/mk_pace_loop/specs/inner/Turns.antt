-- For proofs alone. What the turns of a paced run's loop come to.
use Rattle.std.specs.Prelude.{◌≡◌, ◌⊎◌, ℕ, ◌≤◌, slice_get, List, [], ◌∷◌, ◌++◌, Option, Some, None, Result, Ok, Err, ⊤}
use Rattle.mk_base.specs.declared.SimNo.{SimNo}
use Rattle.mk_plan.specs.declared.Entry.{Entry}
use Rattle.mk_plan.specs.declared.Item.{Item}
use Rattle.mk_plan.specs.declared.Message.{Message}
use Rattle.mk_plan.specs.declared.Plan.{Plan}
use Rattle.mk_plan.specs.Journals.{Arrival}
use Rattle.mk_outside.specs.declared.fleet.LogEntry.{LogEntry}
use Rattle.mk_outside.specs.declared.fleet.LogEntry.TheVariants.{Nap, Told}
use Rattle.mk_outside.specs.Logs.{greatest_told}
use Rattle.mk_local.specs.Simulators.{Simulator}
use Rattle.mk_sched.specs.Cores.{CoreState}
use Rattle.mk_sched.specs.Answers.{SomeOpen, SomeReady}
use Rattle.mk_onlooker.specs.Showings.{AddsBatch, AddsItems}
use Rattle.mk_run_laws.specs.Crews.{CrewState, IsHeard}
use Rattle.mk_run_links.specs.Entries.{AreOfLinks, IsRunLink}
use Rattle.mk_run_local.specs.Calls.{IsFitSuccess}
use Rattle.mk_run_crew.specs.Calls.{SendsAs}
use Rattle.mk_run_crew.specs.Seen.{CrewSeen, crew_of}
use Rattle.mk_run.specs.declared.outcome.Outcome.{Outcome}
use Rattle.mk_run.specs.declared.outcome.Outcome.TheVariants as outcome
use Rattle.mk_run.specs.inner.Sendings.{IsUnsent}
use Rattle.mk_run.specs.inner.Underway.{Setting}
use Rattle.mk_run.specs.inner.Turns.{Waits}
use Rattle.mk_pace_laws.specs.declared.end.PaceEnd.{PaceEnd}
use Rattle.mk_pace_laws.specs.declared.end.PaceEnd.TheVariants as pace
use Rattle.mk_pace_loop.specs.inner.Pacing.{IsPacing}
use Rattle.mk_pace_loop.specs.inner.PacedOut.{HasPacedOut}
use Rattle.mk_pace_loop.specs.inner.Waiting.{AreEarly, IsHeldLast, IsSomeHeld, WaitingSeen, timing_of}

-- core, crew and what waits have come about together over the log
abbrev pub GoesOn : Setting → CoreState → List LogEntry → CrewSeen → WaitingSeen → Type 0
GoesOn S core log C W = IsPacing S core.plan core.entries log (crew_of C) C.sims W

-- core, crew and what waits have come to this end
abbrev pub IsStopping : Type 0 → Setting → CoreState → List LogEntry → CrewSeen → WaitingSeen
    → PaceEnd → Type 0
IsStopping risen S core log C W end = HasPacedOut risen S (timing_of W) core.plan core.entries log
    (crew_of C) end

-- the clock was just looked at, and told this
abbrev pub HasJustTold : ℕ → List LogEntry → Type 0
HasJustTold told log = (before : List LogEntry) × (log ≡ before ++ Told told ∷ [])

-- some request was open, nobody was ready, and a message was heard that the core hasn't taken: the
-- oldest reply that was kept, which is a success, or a message of a link
pub record HasMet (S : Setting) (P : Plan) (J : List Entry) (log : List LogEntry) (s : ℕ)
    (m : Message) (D : CrewState) (sims : List (Option Simulator)) (W : WaitingSeen) : Type 0 where
  pub before : List LogEntry
  pub entries : List LogEntry
  pub parts : log ≡ before ++ entries
  pub crew : CrewState
  pub pacing : IsPacing S P J before crew sims W
  pub opened : SomeOpen P J
  pub nobody : SomeReady P J → ⊥
  pub heard : IsHeard entries s m crew D
  pub of_links : AreOfLinks (IsRunLink S.started S.scenario) entries
  pub fit : (k : Arrival) (more : List Arrival) → crew.kept ≡ k ∷ more → IsFitSuccess m

-- a message was heard besides, which the core hasn't taken
abbrev pub IsPast : Setting → CoreState → List LogEntry → SimNo → Message → CrewSeen → WaitingSeen
    → Type 0
IsPast S core log sim m C W = HasMet S core.plan core.entries log sim.0 m (crew_of C) C.sims W

-- the core has its plan still, and items besides in its journal
pub record GainsItems (old new : CoreState) : Type 0 where
  pub plan : new.plan ≡ old.plan
  pub items : AddsItems old.entries new.entries

-- the core has its plan still, and a batch besides in its journal
pub record GainsBatch (old new : CoreState) : Type 0 where
  pub plan : new.plan ≡ old.plan
  pub batch : AddsBatch old.entries new.entries

-- whoever was ready was asked, and what he is to be sent waits; or the run came to an end
abbrev pub AsksAs : Result (Unit {0}) Outcome → CoreState → WaitingSeen → CoreState → WaitingSeen
    → Type 0
AsksAs (Ok done) old W new V = (new.ended ≡ None) × Waits new × ((S : Setting)
    (log : List LogEntry) (C : CrewSeen) → GoesOn S old log C W → GoesOn S new log C V)
AsksAs (Err end) old W new V = (S : Setting) (log : List LogEntry) (C : CrewSeen)
    → GoesOn S old log C W → IsStopping ⊥ S new log C V (pace.Outcome end)

-- what was due at this reading was sent, and nothing else is due; or the run came to an end
abbrev pub SendsDueAs : Result (Unit {0}) PaceEnd → ℕ → CoreState → CrewSeen → WaitingSeen
    → CrewSeen → WaitingSeen → Type 0
SendsDueAs (Ok done) told core C W D V = AreEarly told V.holds × ((S : Setting)
    (log : List LogEntry) → GoesOn S core log C W → HasJustTold told log → GoesOn S core log D V)
SendsDueAs (Err end) told core C W D V = (S : Setting) (log : List LogEntry) → GoesOn S core log C W
    → HasJustTold told log → IsStopping ⊥ S core log D V end

-- the item that the journal ends with waits, since something of its simulator does; or it was sent,
-- since nothing does; or it couldn't be
abbrev pub AnswersAs : Result (Unit {0}) Outcome → CoreState → SimNo → Item → ℕ → CrewSeen
    → WaitingSeen → CrewSeen → WaitingSeen → Type 0
AnswersAs (Ok done) core s item id C W D V = (IsSomeHeld s.0 W × (D ≡ C) × IsHeldLast core s item id
    W V) ⊎ ((slice_get W.holds s.0 ≡ Some []) × SendsAs s.0 item id C D × (V ≡ W))
AnswersAs (Err end) core s item id C W D V = (D ≡ C) × (V ≡ W) × ((end ≡ outcome.Mem)
    ⊎ ((slice_get W.holds s.0 ≡ Some []) × IsUnsent end s.0 item C))

-- the core took the message that was heard, and what it owed was sent, or waits; or the run came to
-- an end
abbrev pub TakesAs : Result (Unit {0}) Outcome → SimNo → Message → CoreState → CrewSeen
    → WaitingSeen → CoreState → CrewSeen → WaitingSeen → Type 0
TakesAs (Ok done) sim m old C W new D V = (new.ended ≡ None) × ((S : Setting)
    (log : List LogEntry) → IsPast S old log sim m C W → GoesOn S new log D V)
TakesAs (Err end) sim m old C W new D V = (S : Setting) (log : List LogEntry)
    → IsPast S old log sim m C W → IsStopping ⊥ S new log D V (pace.Outcome end)

-- the fleet slept, or failed
abbrev pub NapsAs : Result (Unit {0}) Outcome → List LogEntry → Type 0 → Type 0
NapsAs (Ok done) entries risen = entries ≡ Nap ∷ []
NapsAs (Err end) entries risen = (entries ≡ []) × (end ≡ outcome.Fleet) × risen

-- behind this reading, at which nothing is due any more, a message was taken or the fleet slept; or
-- the run came to an end
abbrev pub AttendsAs : Result (Unit {0}) Outcome → ℕ → List LogEntry → Type 0 → CoreState
    → CrewSeen → WaitingSeen → CoreState → CrewSeen → WaitingSeen → Type 0
AttendsAs (Ok done) told entries risen old C W new D V = (new.ended ≡ None) × ((S : Setting)
    (log : List LogEntry) → GoesOn S old log C W → HasJustTold told log
    → GoesOn S new (log ++ entries) D V)
AttendsAs (Err end) told entries risen old C W new D V = (S : Setting) (log : List LogEntry)
    → GoesOn S old log C W → HasJustTold told log
    → IsStopping risen S new (log ++ entries) D V (pace.Outcome end)

-- behind this reading the run went on by these entries; or it came to an end
abbrev pub PassesAs : Result (Unit {0}) PaceEnd → ℕ → List LogEntry → Type 0 → CoreState
    → CrewSeen → WaitingSeen → CoreState → CrewSeen → WaitingSeen → Type 0
PassesAs (Ok done) told entries risen old C W new D V = (new.ended ≡ None) × ((S : Setting)
    (log : List LogEntry) → GoesOn S old log C W → HasJustTold told log
    → GoesOn S new (log ++ entries) D V)
PassesAs (Err end) told entries risen old C W new D V = (S : Setting) (log : List LogEntry)
    → GoesOn S old log C W → HasJustTold told log → IsStopping risen S new (log ++ entries) D V end

-- by these entries the run went on; or it came to an end
abbrev pub TurnsAs : Result (Unit {0}) PaceEnd → List LogEntry → Type 0 → CoreState → CrewSeen
    → WaitingSeen → CoreState → CrewSeen → WaitingSeen → Type 0
TurnsAs (Ok done) entries risen old C W new D V = (new.ended ≡ None) × ((S : Setting)
    (log : List LogEntry) → GoesOn S old log C W → GoesOn S new (log ++ entries) D V)
TurnsAs (Err end) entries risen old C W new D V = (S : Setting) (log : List LogEntry)
    → GoesOn S old log C W → IsStopping risen S new (log ++ entries) D V end

-- behind these entries no number was told by those entries that is less than one before it
abbrev pub IsRisingBehind : List LogEntry → List LogEntry → Type 0
IsRisingBehind before entries = (less after : List LogEntry) (n : ℕ)
    → entries ≡ less ++ Told n ∷ after → greatest_told (before ++ less) ≤ n

-- while the log grew, the clock didn't go back
abbrev pub RisesOn : Option (List LogEntry) → Option (List LogEntry) → Type 0
RisesOn old None = ⊤
RisesOn old (Some after) = (before entries : List LogEntry) × (old ≡ Some before)
    × (after ≡ before ++ entries) × IsRisingBehind before entries
