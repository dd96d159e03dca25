-- For proofs alone. When a paced run has ended, and its crew is still to be stopped.
use Rattle.std.specs.Prelude.{◌≡◌, ◌⊎◌, ℕ, ◌≤◌, true, List, [], ◌∷◌, ◌++◌, length, filter, Some, None}
use Rattle.mk_base.specs.declared.LinkNo.{LinkNo}
use Rattle.mk_base.specs.declared.SimNo.{SimNo}
use Rattle.mk_base.specs.Lists.{BeginsWith}
use Rattle.mk_plan.specs.declared.Entry.{Entry}
use Rattle.mk_plan.specs.declared.Item.{Item}
use Rattle.mk_plan.specs.declared.Message.{Message}
use Rattle.mk_plan.specs.declared.Plan.{Plan}
use Rattle.mk_plan.specs.Journals.{view, sent, got}
use Rattle.mk_plan.specs.Ready.{IsDone}
use Rattle.mk_plan.specs.Sequential.{takes_id}
use Rattle.mk_outside.specs.declared.fleet.LogEntry.{LogEntry}
use Rattle.mk_outside.specs.declared.fleet.LogEntry.TheVariants.{Rest}
use Rattle.mk_sched.specs.Cores.{Stands}
use Rattle.mk_run_laws.specs.Crews.{CrewState}
use Rattle.mk_run_laws.specs.Handshake.{is_within, sim_link}
use Rattle.mk_run_laws.specs.Hearing.{first_message}
use Rattle.mk_run_laws.specs.Kinds.{KeepsToKinds}
use Rattle.mk_run_laws.specs.Rests.{AllSetUp, IsWellInSetup}
use Rattle.mk_run_links.specs.Entries.{AreOnOrOfClock, IsRunLink}
use Rattle.mk_run_laws.specs.inner.Running.{HasChannel}
use Rattle.mk_run.specs.declared.outcome.Outcome.{Outcome}
use Rattle.mk_onlooker.specs.Showings.{AreInRange}
use Rattle.mk_run.specs.Ends.{IsAwaiting, IsFull, IsOpenWithin}
use Rattle.mk_sched.specs.inner.Patient.{IsPatient}
use Rattle.mk_run.specs.inner.Shown.{EndsAs}
use Rattle.mk_run.specs.inner.Underway.{HasNoOther, Setting, Suits, reply_in}
use Rattle.mk_pace_laws.specs.declared.end.PaceEnd.{PaceEnd}
use Rattle.mk_pace_laws.specs.declared.end.PaceEnd.TheVariants as pace
use Rattle.mk_pace_laws.specs.Ends.{IsBroken, IsLate, IsLongAmong, QueuedOut, fault_of}
use Rattle.mk_pace_laws.specs.Moments.{AreMoments, Timing, sent_out}
use Rattle.mk_pace_laws.specs.Naps.{AreAllLinked, AreNaps, AreTold, IsTimely, NapsLook}
use Rattle.mk_pace_laws.specs.Paced.{IsOrigin}

-- a channel at the end: the messages that it gave go on from those of the journal, and the items
-- queued on it are those that were sent out, the moment of each Step among them having been told
pub record IsLastPacedChannel (S : Setting) (T : Timing) (J : List Entry) (log : List LogEntry)
    (C : CrewState) (end : PaceEnd) (i : ℕ) (l : LinkNo) : Type 0 where
  pub messages : List Message
  pub items : List Item
  pub channel : HasChannel S.scenario S.replies log i l messages items C
  pub given : BeginsWith messages (got J i)
  pub queued : BeginsWith (sent J i) items
  pub out : QueuedOut end (sent_out J T.moments i) items
  pub told : AreTold T.tempo log items
  pub timely : IsTimely T.tempo S.scenario i l items log

-- the channel of simulator i gave all messages that the journal got, and holds no further one
pub record HasGivenPaced (S : Setting) (J : List Entry) (log : List LogEntry) (C : CrewState)
    (i : ℕ) (l : LinkNo) : Type 0 where
  pub linked : sim_link S.started S.scenario i ≡ Some l
  pub items : List Item
  pub channel : HasChannel S.scenario S.replies log i l (got J i) items C
  pub none_held : first_message channel.channel.held ≡ None

-- a message was heard on a link that the journal hasn't got: the channel gave it behind those that
-- the journal got, and the items queued on it are the first of the journal's
pub record IsAheadPaced (S : Setting) (J : List Entry) (log : List LogEntry)
    (C : CrewState) : Type 0 where
  pub sim : SimNo
  pub message : Message
  pub link : LinkNo
  pub linked : sim_link S.started S.scenario sim.0 ≡ Some link
  pub items : List Item
  pub channel : HasChannel S.scenario S.replies log sim.0 link (got J sim.0 ++ message ∷ []) items C
  pub queued : BeginsWith (sent J sim.0) items

-- what an outcome shows before the crew is stopped
abbrev pub EndsOutcome : Type 0 → Setting → Plan → List Entry → List LogEntry → CrewState → Outcome
    → Type 0
EndsOutcome risen S P J log C = EndsAs risen (IsDone P (view P J))
    (λ f. IsFull P J f (IsAheadPaced S J log C ⊎ IsOpenWithin S.scenario P J))
    (HasGivenPaced S J log C) (λ i l g. g.channel.channel.held)
    (IsLongAmong S.started S.scenario P J) P J log

-- what an end shows before the crew is stopped
abbrev pub EndsPace : Type 0 → Setting → Plan → Timing → List Entry → List LogEntry → CrewState
    → PaceEnd → Type 0
EndsPace risen S P T J log C (pace.Outcome end) = EndsOutcome risen S P J log C end
EndsPace risen S P T J log C
    (pace.Late sim time late allowed) = IsLate T J log sim time late allowed

-- the paced run has come to its end, and its crew is still to be stopped
pub record HasPacedOut (risen : Type 0) (S : Setting) (T : Timing) (P : Plan) (J : List Entry)
    (log : List LogEntry) (C : CrewState) (end : PaceEnd) : Type 0 where
  pub suits : Suits S P
  pub stands : Stands P J
  pub patient : IsPatient P J
  pub in_range : AreInRange J
  pub kinds : KeepsToKinds (reply_in S) (is_within S.scenario) P J
  pub channels : (i : ℕ) (l : LinkNo) → sim_link S.started S.scenario i ≡ Some l
      → IsLastPacedChannel S T J log C end i l
  pub no_other : HasNoOther S C
  pub origin : IsOrigin S.started S.scenario log T.tempo.origin
  pub moments_are : AreMoments T.tempo T.strict J log T.moments
  pub within : (i : ℕ) → is_within S.scenario i ≡ true
      → length (got J i) ≤ length (filter takes_id (sent_out J T.moments i))
  pub setup_rests : (before after : List LogEntry) → log ≡ before ++ Rest ∷ after
      → IsWellInSetup S.started S.scenario before × (AllSetUp S.started S.scenario before → ⊥)
  pub on_links : AreOnOrOfClock (IsRunLink S.started S.scenario) log
  pub naps : AreAllLinked S.scenario → AreNaps S.started S.scenario S.replies P T.tempo J log
  pub looks : NapsLook S.started S.scenario log
  pub ends : EndsPace risen S P T J log C end
  pub fault : (view P J).fault ≡ fault_of end
  pub unfinished : IsBroken end → IsAwaiting P J
