-- For proofs alone. When a resumed run has come to its end, and its crew is still to be stopped.
use Rattle.std.specs.Prelude.{◌≡◌, ℕ, ◌<◌, ◌⊎◌, max, true, List, [], ◌∷◌, ◌++◌, length, map, Some, None, slice_get}
use Rattle.mk_base.specs.declared.LinkNo.{LinkNo}
use Rattle.mk_base.specs.declared.SimNo.{SimNo}
use Rattle.mk_base.specs.Lists.{BeginsWith}
use Rattle.mk_plan.specs.declared.Plan.{Plan}
use Rattle.mk_plan.specs.declared.Item.{Item}
use Rattle.mk_plan.specs.declared.Message.{Message}
use Rattle.mk_plan.specs.declared.Entry.{Entry}
use Rattle.mk_plan.specs.Plans.{sim_count}
use Rattle.mk_plan.specs.Journals.{bare, got, view}
use Rattle.mk_plan.specs.Ready.{IsDone}
use Rattle.mk_outside.specs.declared.fleet.LogEntry.{LogEntry}
use Rattle.mk_sched.specs.Cores.{Stands}
use Rattle.mk_run_laws.specs.Hearing.{first_message}
use Rattle.mk_run_laws.specs.Handshake.{is_within, sim_link}
use Rattle.mk_run_laws.specs.Crews.{CrewState}
use Rattle.mk_run_laws.specs.inner.Running.{HasChannel}
use Rattle.mk_onlooker.specs.Showings.{AreInRange}
use Rattle.mk_sched.specs.inner.Patient.{IsPatient}
use Rattle.mk_run.specs.inner.Shown.{EndsAs}
use Rattle.mk_run.specs.inner.Underway.{Setting, reply_in, Suits, HasNoOther, IsLogRight}
use Rattle.mk_resume_walk.specs.Talks.{free_items}
use Rattle.mk_resume_links.specs.Rests.{Counts, repeated}
use Rattle.mk_resume_links.specs.Running.{RestsEnd}
use Rattle.mk_resume_links.specs.inner.Touching.{RepeatsByKind}
use Rattle.mk_resume_loop.specs.declared.ending.ResumeEnd.{ResumeEnd}
use Rattle.mk_resume_loop.specs.declared.ending.ResumeEnd.TheVariants as ends
use Rattle.mk_resume_loop.specs.Resumed.{IsCutOff, IsFull, IsLongFree, IsRunWaiting, QueuedAllAt, fault_at}
use Rattle.mk_resume_loop.specs.inner.Underway.{saved_of}

-- a channel at the end: the messages that it gave go on from those that were sent again, and the
-- items queued on it are the first of those that are free
pub record IsLastChannel (T : Setting) (J : List Entry) (heard : Counts) (log : List LogEntry)
    (C : CrewState) (end : ResumeEnd) (i : ℕ) (l : LinkNo) : Type 0 where
  pub messages : List Message
  pub items : List Item
  pub channel : HasChannel T.scenario T.replies log i l messages items C
  pub given : BeginsWith messages (repeated J i (heard i))
  pub queued : BeginsWith (free_items J i (heard i)) items
  pub queued_all : QueuedAllAt end (free_items J i (heard i)) items

-- the channel of simulator i gave all messages that were sent again, and holds no further one
pub record HasGiven (T : Setting) (J : List Entry) (heard : Counts) (log : List LogEntry)
    (C : CrewState) (i : ℕ) (l : LinkNo) : Type 0 where
  pub linked : sim_link T.started T.scenario i ≡ Some l
  pub channel : HasChannel T.scenario T.replies log i l (repeated J i (heard i))
      (free_items J i (heard i)) C
  pub none_held : first_message channel.channel.held ≡ None

-- the channel of a simulator gave this message behind those that were sent again
pub record IsAhead (T : Setting) (J : List Entry) (heard : Counts) (log : List LogEntry)
    (C : CrewState) (s : ℕ) (m : Message) : Type 0 where
  pub link : LinkNo
  pub linked : sim_link T.started T.scenario s ≡ Some link
  pub channel : HasChannel T.scenario T.replies log s link (repeated J s (heard s) ++ m ∷ [])
      (free_items J s (heard s)) C

-- the reply of a simulator within the program is awaited: an item that is free isn't answered
pub record IsAwaitedOf (T : Setting) (J : List Entry) (heard : Counts) (s : ℕ) : Type 0 where
  pub within : is_within T.scenario s ≡ true
  pub more : heard s < length (free_items J s (heard s))

-- a message came that the journal hasn't got: its simulator had caught up
abbrev pub IsLeftNow : Setting → List Entry → Counts → List LogEntry → CrewState → Type 0
IsLeftNow T J heard log C = (s : ℕ) × (heard s ≡ length (got J s))
    × (((m : Message) × IsAhead T J heard log C s m) ⊎ IsAwaitedOf T J heard s)

-- the message that came isn't the saved one
pub record DiffersNow (T : Setting) (first J : List Entry) (heard : Counts) (log : List LogEntry)
    (C : CrewState) (s : SimNo) (place : ℕ) (saved other : Message) : Type 0 where
  pub at : place ≡ heard s.0
  pub early : place < length (got first s.0)
  pub had : slice_get (got J s.0) place ≡ Some saved
  pub apart : saved ≡ other → ⊥
  pub came : IsAhead T J heard log C s.0 other ⊎ ((is_within T.scenario s.0 ≡ true)
      × (other ≡ reply_in T s.0 (map bare (free_items J s.0 place))))

-- what the end shows before the run is stopped
abbrev pub EndsBy : Type 0 → Setting → Plan → List Entry → List Entry → Counts → List LogEntry
    → CrewState → ResumeEnd → Type 0
EndsBy risen T P first J heard log C (ends.Outcome end) = EndsAs risen
    (IsDone P (view P J) × ((i : ℕ) → i < sim_count P → heard i ≡ length (got J i)))
    (λ f. IsFull P J f (IsLeftNow T J heard log C)) (HasGiven T J heard log C)
    (λ i l g. g.channel.channel.held) (IsLongFree T.started T.scenario P J heard) P J log end
EndsBy risen T P first J heard log C (ends.OtherPlan n) = ⊥
EndsBy risen T P first J heard log C (ends.OtherEntry n) = ⊥
EndsBy risen T P first J heard log C (ends.Differs s place saved other) = DiffersNow T first J heard
    log C s place saved other

-- the run has come to its end, and its crew is still to be stopped
pub record HasEnded (risen : Type 0) (T : Setting) (P : Plan) (first J : List Entry)
    (heard : Counts) (log : List LogEntry) (C : CrewState) (end : ResumeEnd) : Type 0 where
  pub suits : Suits T P
  pub stands : Stands P J
  pub begins : BeginsWith J first
  pub patient : IsPatient P J
  pub in_range : AreInRange J
  pub counts : (i : ℕ) → length (got J i) ≡ max (saved_of first i) (heard i)
  pub kinds : RepeatsByKind (reply_in T) (is_within T.scenario) J heard
  pub channels : (i : ℕ) (l : LinkNo) → sim_link T.started T.scenario i ≡ Some l
      → IsLastChannel T J heard log C end i l
  pub no_other : HasNoOther T C
  pub rests : RestsEnd (saved_of first) T.started T.scenario T.replies P J log
  pub log_right : IsLogRight T log
  pub ends : EndsBy risen T P first J heard log C end
  pub fault : (view P J).fault ≡ fault_at end
  pub unfinished : IsCutOff end → IsRunWaiting P J heard
