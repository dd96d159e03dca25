-- What a resumed run of a plan comes to, from the loop's end and the stop.
use Rattle.std.proofs.Common.{◌≡◌, ℕ, ◌≤◌, List, ◌++◌, map, None, sym, ◌∙◌, subst, arith, append_assoc}
use Rattle.mk_plan.specs.declared.Plan.{Plan}
use Rattle.mk_plan.specs.declared.Entry.{Entry}
use Rattle.mk_outside.specs.Counts.{HasRisen}
use Rattle.mk_outside.specs.declared.fleet.LogEntry.{LogEntry}
use Rattle.mk_record_read.specs.declared.saved.Saved.{Saved}
use Rattle.mk_record_read.specs.Seen.{came}
use Rattle.mk_record_compare.specs.Differences.{IsOther}
use Rattle.mk_record_restored.specs.Restored.{IsRestored}
use Rattle.mk_sched.specs.Cores.{CoreState}
use Rattle.mk_run_laws.specs.Crews.{AreStopped, IsRestless}
use Rattle.mk_run_links.specs.Entries.{AreOn}
use Rattle.mk_run_links.specs.Places.{IsChannelLink}
use Rattle.mk_run_crew.specs.Seen.{CrewSeen, crew_of}
use Rattle.mk_run.specs.inner.Underway.{Setting, exchange_at}
use Rattle.mk_resume_loop.specs.declared.ending.ResumeEnd.{ResumeEnd}
use Rattle.mk_resume_loop.specs.inner.Turns.{IsStopping}
use Rattle.mk_resume.specs.Resumed.{IsResumed}
use Rattle.mk_resume.specs.inner.Going.{CatchesUpAs, IsFresh}
use Rattle.mk_resume.proofs.Whole.{whole, whole_replies}
use Rattle.mk_run_links.proofs.OnStops.{risen_later}
use Rattle.mk_session.proofs.Polling.{risen_after}

-- a resumed run from the record's messages to its stop
pub resumed_whole : (core new : CoreState) (C D : CrewSeen) (entries stops : List LogEntry) (f0 f1 f2 : ℕ) (end : ResumeEnd) → f0 ≤ f1 → f1 ≤ f2 → CatchesUpAs entries (HasRisen f0 f1) core C new D end → AreStopped stops (HasRisen f1 f2) (crew_of D) → IsRestless stops → AreOn (IsChannelLink D.channels) stops
    → (saved : Saved) → IsRestored core.plan (map came saved.arrivals) core.entries → IsOther (map came saved.arrivals) saved.asks core.entries None → (T : Setting) (log : List LogEntry) (before : ℕ) → before ≤ f0 → IsFresh T core log C
    → (new.plan ≡ core.plan) × (r : IsResumed (exchange_at T (log ++ (entries ++ stops))) new.plan saved new.entries before f2 end) × (r.replies ≡ T.replies)
resumed_whole core new C D entries stops f0 f1 f2 end up later ended stopped restless of_channels saved restored same T log before low u =
    let stopping : IsStopping (HasRisen f0 f1) T core.entries new (log ++ entries) D end = ended T log u in
    let plans : new.plan ≡ core.plan = stopping.1.suits.same ∙ sym u.resuming.suits.same in
    let there : IsRestored new.plan (map came saved.arrivals) core.entries = subst (λ (X : Plan). IsRestored X (map came saved.arrivals) core.entries) (sym plans) restored in
    let made = whole T new.plan core.entries new.entries stopping.0 (log ++ entries) stops (crew_of D) end before f2 (HasRisen f0 f1) (HasRisen f1 f2)
    (λ r. risen_after before f0 f2 low (risen_later f0 f1 f2 later r)) (λ r. risen_after before f1 f2 (omega (arith, low, up)) r) stopping.1 stopped restless of_channels saved there same in
    let moved = subst (λ (l : List LogEntry). (r : IsResumed (exchange_at T l) new.plan saved new.entries before f2 end) × (r.replies ≡ T.replies)) (append_assoc log entries stops) (
      made,
      whole_replies T new.plan core.entries new.entries stopping.0 (log ++ entries) stops (crew_of D) end before f2 (HasRisen f0 f1) (HasRisen f1 f2)
          (λ r. risen_after before f0 f2 low (risen_later f0 f1 f2 later r)) (λ r. risen_after before f1 f2 (omega (arith, low, up)) r) stopping.1 stopped restless of_channels saved there same,
    ) in
    (plans, moved.0, moved.1)

-- the same of the core's parts
pub resumed_in_parts : (T : Setting) (P Q : Plan) (saved : Saved) (J K : List Entry) (log : List LogEntry) (before new_faults : ℕ) (end : ResumeEnd) → Q ≡ P → K ≡ J → (old : Plan)
    → (P ≡ old) × (r : IsResumed (exchange_at T log) P saved J before new_faults end) × (r.replies ≡ T.replies)
    → (Q ≡ old) × (r : IsResumed (exchange_at T log) Q saved K before new_faults end) × (r.replies ≡ T.replies)
resumed_in_parts T P Q saved J K log before new_faults end q k old t =
    subst (λ (X : Plan). (X ≡ old) × (r : IsResumed (exchange_at T log) X saved K before new_faults end) × (r.replies ≡ T.replies)) (sym q)
    (subst (λ (Y : List Entry). (P ≡ old) × (r : IsResumed (exchange_at T log) P saved Y before new_faults end) × (r.replies ≡ T.replies)) (sym k) t)
