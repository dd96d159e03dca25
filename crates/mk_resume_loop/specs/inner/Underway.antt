-- For proofs alone. What stands of a resumed run while its simulators catch up and afterwards.
use Rattle.std.specs.Prelude.{◌≡◌, ℕ, ◌+◌, true, List, [], ◌∷◌, ◌++◌, length, take, Option, Some, None, slice_get}
use Rattle.mk_base.specs.Lists.{BeginsWith}
use Rattle.mk_plan.specs.declared.Plan.{Plan}
use Rattle.mk_plan.specs.declared.Item.{Item}
use Rattle.mk_plan.specs.declared.Message.{Message}
use Rattle.mk_plan.specs.declared.Entry.{Entry}
use Rattle.mk_plan.specs.Plans.{first_id, sim_count}
use Rattle.mk_plan.specs.Journals.{Arrival, got, sent, view}
use Rattle.mk_plan.specs.Sequential.{id_after}
use Rattle.mk_outside.specs.declared.fleet.LogEntry.{LogEntry}
use Rattle.mk_sched.specs.Cores.{Stands}
use Rattle.mk_sched.specs.Answers.{SomeReady}
use Rattle.mk_local.specs.Simulators.{Simulator}
use Rattle.mk_run_laws.specs.Handshake.{is_within}
use Rattle.mk_run_laws.specs.Crews.{CrewState, IsHeard}
use Rattle.mk_run_local.specs.Calls.{IsFitSuccess}
use Rattle.mk_run_crew.specs.Seen.{CrewSeen, crew_of}
use Rattle.mk_run_links.specs.Entries.{AreOn, IsRunLink}
use Rattle.mk_onlooker.specs.Showings.{AreInRange}
use Rattle.mk_sched.specs.inner.Patient.{IsPatient}
use Rattle.mk_run.specs.inner.Underway.{Setting, reply_in, Suits, HasNoOther, IsLogRight, exchange_at}
use Rattle.mk_resume_walk.specs.Talks.{free_items}
use Rattle.mk_resume_walk.specs.Walks.{IsGoneTo, IsNextAt}
use Rattle.mk_resume_walk.specs.Index.{Indexed, IsIndexOf, own_count}
use Rattle.mk_resume_links.specs.Rests.{Counts}
use Rattle.mk_resume_links.specs.inner.Catching.{IsCatchingWith, awaited}
use Rattle.mk_resume_links.specs.inner.Touching.{RestsOver}
use Rattle.mk_run.specs.inner.Underway.{HaveComeBy, IsOnlyWithin, put}
use Rattle.mk_resume_loop.specs.declared.behind.Standing.{Standing}

-- how many messages of each simulator the record has
abbrev pub saved_of : List Entry → Counts
saved_of first i = length (got first i)

-- how far a resumed run came, in this setting and from a record's entries: how many messages each
-- simulator sent in this call, what it was sent behind the handshake, which replies of it are kept,
-- and what was logged
pub record Course : Type 0 where
  pub setting : Setting
  pub first : List Entry
  pub heard : Counts
  pub queued : ℕ → List Item
  pub awaits : ℕ → List Message
  pub log : List LogEntry

-- the course of these parts
abbrev pub course_of : Setting → List Entry → Counts → (ℕ → List Item) → (ℕ → List Message)
    → List LogEntry → Course
course_of T first heard queued awaits log = record {
  setting = T;
  first = first;
  heard = heard;
  queued = queued;
  awaits = awaits;
  log = log;
}

-- a journal that goes on from one after a record's messages, the course and a crew have come about
-- together, there is no fault, and nothing is owed
pub record IsResumingWith (R : Course) (P : Plan) (J : List Entry) (C : CrewState)
    (sims : List (Option Simulator)) : Type 0 where
  pub suits : Suits R.setting P
  pub stands : Stands P J
  pub begins : BeginsWith J R.first
  pub patient : IsPatient P J
  pub in_range : AreInRange J
  pub no_fault : (view P J).fault ≡ None
  pub paid : (view P J).owed ≡ None
  pub catching : IsCatchingWith R.queued R.awaits (saved_of R.first)
      (exchange_at R.setting R.log) R.setting.replies P J R.heard C
  pub no_other : HasNoOther R.setting C
  pub come : HaveComeBy R.setting R.queued sims
  pub only_within : IsOnlyWithin R.setting sims
  pub log_right : IsLogRight R.setting R.log

-- what is free was sent, and what is awaited is kept
abbrev pub IsResuming : Setting → Plan → List Entry → List Entry → Counts → List LogEntry
    → CrewState → List (Option Simulator) → Type 0
IsResuming T P first J heard log C sims = IsResumingWith (course_of T first heard
    (λ i. free_items J i (heard i)) (awaited T.scenario (reply_in T) J heard) log) P J C sims

-- nobody was ready, and a message was heard that wasn't taken: the oldest reply that was kept,
-- which is a success, or a message of a link
pub record IsMet (T : Setting) (P : Plan) (first J : List Entry) (heard : Counts)
    (log : List LogEntry) (s : ℕ) (m : Message) (D : CrewState)
    (sims : List (Option Simulator)) : Type 0 where
  pub before : List LogEntry
  pub entries : List LogEntry
  pub parts : log ≡ before ++ entries
  pub crew : CrewState
  pub resuming : IsResuming T P first J heard before crew sims
  pub nobody : SomeReady P J → ⊥
  pub met : IsHeard entries s m crew D
  pub fit : (k : Arrival) (more : List Arrival) → crew.kept ≡ k ∷ more → IsFitSuccess m
  pub on_links : AreOn (IsRunLink T.started T.scenario) entries

-- simulator s was sent what is free to it, and what is awaited of it then is kept; the others stand
-- as before
abbrev pub IsPassed : Course → Plan → List Entry → ℕ → CrewSeen → Type 0
IsPassed R P J s C = IsResumingWith (course_of R.setting R.first R.heard
    (put R.queued s (free_items J s (R.heard s)))
    (put R.awaits s (awaited R.setting.scenario (reply_in R.setting) J R.heard s)) R.log) P J
    (crew_of C) C.sims

-- simulator s has sent its messages so far, all that it was sent was answered, and its entries
-- before this place were gone through; what was sent to each is a beginning of what is free to it;
-- where it runs within the program a message has come since each rest
pub record IsPassing (R : Course) (P : Plan) (J : List Entry) (s from : ℕ) : Type 0 where
  pub gone : IsGoneTo J s (R.heard s) from
  pub was_sent : sent gone.gone s ≡ R.queued s
  pub answered : length (R.queued s) ≡ R.heard s
  pub none : R.awaits s ≡ []
  pub firsts : (i : ℕ) → BeginsWith (free_items J i (R.heard i)) (R.queued i)
  pub over : is_within R.setting.scenario s ≡ true
      → RestsOver (saved_of R.first) R.setting.started R.setting.scenario R.setting.replies P J
      R.log

-- simulator i, which has sent n messages in this call, stands there; or it has caught up
abbrev pub StandsAt : Plan → List Entry → ℕ → ℕ → Option Standing → Type 0
StandsAt P J i n None = n ≡ length (got J i)
StandsAt P J i n (Some c) = IsNextAt J i n (Some c.place)
    × (own_count i (take (c.place + 1) J) ≡ c.gone)
    × (c.id ≡ id_after (first_id P i) (free_items J i n))

-- what is kept of all simulators, and an index of a beginning of the journal
pub record BehindSeen : Type 0 where
  pub index : Indexed
  pub sims : List (Option Standing)

-- the index is one for so many simulators, of a beginning of J
pub record IsIndexed (P : Plan) (J : List Entry) (index : Indexed) : Type 0 where
  pub sims : length index.own ≡ sim_count P
  pub part : List Entry
  pub is : IsIndexOf part index
  pub begins : BeginsWith J part

-- each simulator stands where it is said
pub record AreBehind (P : Plan) (J : List Entry) (heard : Counts)
    (behind : BehindSeen) : Type 0 where
  pub indexed : IsIndexed P J behind.index
  pub sims : length behind.sims ≡ sim_count P
  pub each : (i : ℕ) (o : Option Standing) → slice_get behind.sims i ≡ Some o
      → StandsAt P J i (heard i) o
