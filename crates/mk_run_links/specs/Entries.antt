-- What kinds of entries a call on links adds to a log.
use Rattle.std.specs.Prelude.{◌≡◌, ℕ, List, Some, ⊤}
use Rattle.mk_base.specs.declared.LinkNo.{LinkNo}
use Rattle.mk_base.specs.Lists.{Each}
use Rattle.mk_outside.specs.declared.fleet.LogEntry.{LogEntry}
use Rattle.mk_outside.specs.declared.fleet.LogEntry.TheVariants.{Heard, NotHeard, Said, NotSaid, Ended, Rest, Told, Nap}
use Rattle.mk_outside.specs.Logs.{IsOnLink}
use Rattle.mk_scenario.specs.declared.parts.Scenario.{Scenario}
use Rattle.mk_run_laws.specs.Handshake.{sim_link}

-- each of these entries is of a read or a write on one of these links
abbrev pub AreOfLinks : (LinkNo → Type 0) → List LogEntry → Type 0
AreOfLinks has = Each (λ (entry : LogEntry). (link : LinkNo) × has link × IsOnLink link entry)

-- the entry is of a read or a write on one of these links, or the fleet rested
abbrev pub IsOn : (LinkNo → Type 0) → LogEntry → Type 0
IsOn has (Heard on bytes) = has on
IsOn has (NotHeard on) = has on
IsOn has (Said on bytes) = has on
IsOn has (NotSaid on) = has on
IsOn has (Ended on) = has on
IsOn has Rest = ⊤
IsOn has (Told moment) = ⊥
IsOn has Nap = ⊥

-- by these entries these links alone were read and written, no clock was read, and no nap was taken
abbrev pub AreOn : (LinkNo → Type 0) → List LogEntry → Type 0
AreOn has = Each (IsOn has)

-- the same, or a clock was read or a nap taken
abbrev pub IsOnOrOfClock : (LinkNo → Type 0) → LogEntry → Type 0
IsOnOrOfClock has (Heard on bytes) = has on
IsOnOrOfClock has (NotHeard on) = has on
IsOnOrOfClock has (Said on bytes) = has on
IsOnOrOfClock has (NotSaid on) = has on
IsOnOrOfClock has (Ended on) = has on
IsOnOrOfClock has Rest = ⊤
IsOnOrOfClock has (Told moment) = ⊤
IsOnOrOfClock has Nap = ⊤

-- by these entries these links alone were read and written
abbrev pub AreOnOrOfClock : (LinkNo → Type 0) → List LogEntry → Type 0
AreOnOrOfClock has = Each (IsOnOrOfClock has)

-- the link is that of a simulator of this scenario, so many links having been started before
abbrev pub IsRunLink : ℕ → Scenario → LinkNo → Type 0
IsRunLink started S link = (i : ℕ) × (sim_link started S i ≡ Some link)

-- the entry is neither a reading of a clock nor a nap
abbrev pub IsNotOfClock : LogEntry → Type 0
IsNotOfClock (Heard on bytes) = ⊤
IsNotOfClock (NotHeard on) = ⊤
IsNotOfClock (Said on bytes) = ⊤
IsNotOfClock (NotSaid on) = ⊤
IsNotOfClock (Ended on) = ⊤
IsNotOfClock Rest = ⊤
IsNotOfClock (Told moment) = ⊥
IsNotOfClock Nap = ⊥

-- by these entries no clock was read, and no nap was taken
abbrev pub IsClockless : List LogEntry → Type 0
IsClockless = Each IsNotOfClock
