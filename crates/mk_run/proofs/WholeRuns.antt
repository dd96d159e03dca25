-- What a run of a plan comes to, from the loop's end and the stop.
use Rattle.std.proofs.Common.{◌≡◌, ℕ, ◌≤◌, List, [], ◌++◌, None, Err, sym, ◌∙◌, subst, arith, append_assoc}
use Rattle.mk_base.specs.declared.LinkNo.{LinkNo}
use Rattle.mk_plan.specs.declared.Plan.{Plan}
use Rattle.mk_plan.specs.declared.Entry.{Entry}
use Rattle.mk_outside.specs.Counts.{HasRisen}
use Rattle.mk_outside.specs.declared.fleet.LogEntry.{LogEntry}
use Rattle.mk_sched.specs.Cores.{CoreState}
use Rattle.mk_run_links.specs.Entries.{AreOn}
use Rattle.mk_run_links.specs.Places.{AreOpen, IsChannelLink}
use Rattle.mk_run_laws.specs.Crews.{AreStopped, IsRestless}
use Rattle.mk_run_crew.specs.Seen.{CrewSeen, crew_of}
use Rattle.mk_run.specs.declared.outcome.Outcome.{Outcome}
use Rattle.mk_run.specs.Ends.{IsRun}
use Rattle.mk_run.specs.inner.Turns.{AreLinksOpen, GoesOn, IsStopping, TurnsAs}
use Rattle.mk_run.specs.inner.Underway.{Setting, IsUnderway, exchange_at}
use Rattle.mk_run.proofs.Turning.{are_open}
use Rattle.mk_run.proofs.Whole.{whole, whole_replies}
use Rattle.mk_run_links.proofs.OnStops.{risen_later}
use Rattle.mk_session.proofs.Polling.{risen_after}

-- the core of a run that has not begun
abbrev pub new_core : Plan → CoreState
new_core P = record { plan = P; entries = []; ended = None }

pub open_first : (T : Setting) (P : Plan) (log : List LogEntry) (C : CrewSeen) (open_links : List LinkNo) → IsUnderway T P [] log (crew_of C) C.sims → AreLinksOpen T open_links → AreOpen C.channels open_links
open_first T P log C open_links u links = are_open T (new_core P) log C open_links u links

-- a run from its first turn to its stop
pub run_whole : (P : Plan) (old core : CoreState) (C D : CrewSeen) (entries stops : List LogEntry) (f0 f1 f2 : ℕ) (end : Outcome) → old ≡ new_core P → f0 ≤ f1 → f1 ≤ f2 → TurnsAs (Err end) entries (HasRisen f0 f1) old C core D
    → AreStopped stops (HasRisen f1 f2) (crew_of D) → IsRestless stops → AreOn (IsChannelLink D.channels) stops
    → (T : Setting) (log : List LogEntry) (before : ℕ) → before ≤ f0 → IsUnderway T P [] log (crew_of C) C.sims
    → (core.plan ≡ P) × (r : IsRun (exchange_at T (log ++ (entries ++ stops))) core.plan core.entries before f2 end) × (r.replies ≡ T.replies)
run_whole P old core C D entries stops f0 f1 f2 end is up later ends stopped restless of_channels T log before low u =
    let stopping : IsStopping (HasRisen f0 f1) T core (log ++ entries) D end = ends T log (subst (λ (k : CoreState). GoesOn T k log C) (sym is) u) in
    let made = whole T core.plan core.entries (log ++ entries) stops (crew_of D) end before f2 (HasRisen f0 f1) (HasRisen f1 f2) (λ r. risen_after before f0 f2 low (risen_later f0 f1 f2 later r)) (λ r. risen_after before f1 f2 (omega (arith, low, up)) r)
    stopping stopped restless of_channels in
    let moved = subst (λ (l : List LogEntry). (r : IsRun (exchange_at T l) core.plan core.entries before f2 end) × (r.replies ≡ T.replies)) (append_assoc log entries stops) (
      made,
      whole_replies T core.plan core.entries (log ++ entries) stops
          (crew_of D) end before f2 (HasRisen f0 f1) (HasRisen f1 f2) (λ r. risen_after before f0 f2 low (risen_later f0 f1 f2 later r)) (λ r. risen_after before f1 f2 (omega (arith, low, up)) r) stopping stopped restless of_channels,
    ) in
    (stopping.suits.same ∙ sym u.suits.same, moved.0, moved.1)

-- the same of the core's parts
pub run_in_parts : (T : Setting) (P Q : Plan) (J K : List Entry) (log : List LogEntry) (before new_faults : ℕ) (end : Outcome) → Q ≡ P → K ≡ J → (first : Plan)
    → (P ≡ first) × (r : IsRun (exchange_at T log) P J before new_faults end) × (r.replies ≡ T.replies)
    → (Q ≡ first) × (r : IsRun (exchange_at T log) Q K before new_faults end) × (r.replies ≡ T.replies)
run_in_parts T P Q J K log before new_faults end q k first t =
    subst (λ (X : Plan). (X ≡ first) × (r : IsRun (exchange_at T log) X K before new_faults end) × (r.replies ≡ T.replies)) (sym q)
    (subst (λ (Y : List Entry). (P ≡ first) × (r : IsRun (exchange_at T log) P Y before new_faults end) × (r.replies ≡ T.replies)) (sym k) t)
