-- What a paced run of a plan comes to, from the loop's end and the stop.
use Rattle.std.proofs.Common.{◌≡◌, ℕ, ◌<◌, ◌≤◌, List, [], ◌∷◌, ◌++◌, Option, Some, None, Err, sym, ap, ◌∙◌, subst, arith, append_assoc, replicate}
use Rattle.mk_base.specs.declared.LinkNo.{LinkNo}
use Rattle.mk_plan.specs.declared.Plan.{Plan}
use Rattle.mk_plan.specs.declared.Journal.{Journal}
use Rattle.mk_plan.specs.declared.Entry.{Entry}
use Rattle.mk_plan.specs.Plans.{first_id, sim_count}
use Rattle.mk_plan.specs.Sequential.{Messages}
use Rattle.mk_outside.specs.Counts.{HasRisen}
use Rattle.mk_outside.specs.declared.fleet.LogEntry.{LogEntry}
use Rattle.mk_outside.specs.declared.fleet.LogEntry.TheVariants.{Told}
use Rattle.mk_setup.specs.Handshakes.{IsMade}
use Rattle.mk_sched.specs.Cores.{CoreState}
use Rattle.mk_run_laws.specs.Exchanges.{exchange}
use Rattle.mk_run_laws.specs.Crews.{AreStopped, IsRestless}
use Rattle.mk_run_links.specs.Entries.{AreOn}
use Rattle.mk_run_links.specs.Places.{AreOpen, IsChannelLink}
use Rattle.mk_run_crew.specs.Seen.{CrewSeen, crew_of}
use Rattle.mk_run_crew.specs.Attempts.{Attempt}
use Rattle.mk_run.specs.inner.Underway.{Setting, reply_in, exchange_at}
use Rattle.mk_run.specs.inner.Turns.{AreLinksOpen}
use Rattle.mk_run.proofs.WholeRuns.{new_core}
use Rattle.mk_pace_laws.specs.declared.end.Moment.{Moment}
use Rattle.mk_pace_laws.specs.declared.end.PaceEnd.{PaceEnd}
use Rattle.mk_pace_laws.specs.Moments.{Tempo, timing}
use Rattle.mk_pace_laws.specs.Paced.{IsPaced}
use Rattle.mk_pace_loop.specs.inner.PacedOut.{HasPacedOut}
use Rattle.mk_pace_loop.specs.inner.Turns.{GoesOn, TurnsAs}
use Rattle.mk_pace_loop.specs.inner.Waiting.{IsOnTempo, WaitingSeen, timing_of}
use Rattle.mk_pace.specs.inner.Going.{GoesOnAs, IsStarted, PlanPacesAs}
use Rattle.mk_pace.proofs.Beginning.{begins, links_at, setting_at}
use Rattle.mk_pace.proofs.Whole.{whole, whole_replies}
use Rattle.mk_run_links.proofs.OnStops.{risen_later}
use Rattle.mk_session.proofs.Polling.{risen_after}

-- a paced run from its first turn to its stop
pub paced_whole : (core new : CoreState) (C D : CrewSeen) (W V : WaitingSeen) (entries stops : List LogEntry) (f0 f1 f2 : ℕ) (end : PaceEnd) → f0 ≤ f1 → f1 ≤ f2 → TurnsAs (Err end) entries (HasRisen f0 f1) core C W new D V → IsOnTempo W V
    → AreStopped stops (HasRisen f1 f2) (crew_of D) → IsRestless stops → AreOn (IsChannelLink D.channels) stops → (S : Setting) (log : List LogEntry) (before : ℕ) → before ≤ f0 → GoesOn S core log C W
    → (new.plan ≡ core.plan) × (r : IsPaced (exchange_at S (log ++ (entries ++ stops))) new.plan new.entries (timing W.tempo W.strict V.moments) before f2 end) × (r.replies ≡ S.replies)
paced_whole core new C D W V entries stops f0 f1 f2 end up later ended same stopped restless of_channels S log before low u =
    let over : HasPacedOut (HasRisen f0 f1) S (timing_of V) new.plan new.entries (log ++ entries) (crew_of D) end = ended S log u in
    let on_tempo : HasPacedOut (HasRisen f0 f1) S (timing W.tempo V.strict V.moments) new.plan new.entries (log ++ entries) (crew_of D) end =
    subst (λ (T : Tempo). HasPacedOut (HasRisen f0 f1) S (timing T V.strict V.moments) new.plan new.entries (log ++ entries) (crew_of D) end) same.tempo over in
    let stopping : HasPacedOut (HasRisen f0 f1) S (timing W.tempo W.strict V.moments) new.plan new.entries (log ++ entries) (crew_of D) end =
    subst (λ (o : Option ℕ). HasPacedOut (HasRisen f0 f1) S (timing W.tempo o V.moments) new.plan new.entries (log ++ entries) (crew_of D) end) same.strict on_tempo in
    let by_run = λ (r : HasRisen f0 f1). risen_after before f0 f2 low (risen_later f0 f1 f2 later r) in
    let by_stop = λ (r : HasRisen f1 f2). risen_after before f1 f2 (omega (arith, low, up)) r in
    let made = whole S W.tempo W.strict new.plan new.entries V.moments (log ++ entries) stops (crew_of D) end before f2 (HasRisen f0 f1) (HasRisen f1 f2) by_run by_stop stopping stopped restless of_channels in
    let moved = subst (λ (l : List LogEntry). (r : IsPaced (exchange_at S l) new.plan new.entries (timing W.tempo W.strict V.moments) before f2 end) × (r.replies ≡ S.replies)) (append_assoc log entries stops) (
      made,
      whole_replies S W.tempo W.strict new.plan new.entries V.moments (log ++ entries) stops (crew_of D) end before f2 (HasRisen f0 f1) (HasRisen f1 f2) by_run by_stop stopping stopped restless of_channels,
    ) in
    (stopping.suits.same ∙ sym u.suits.same, moved.0, moved.1)

-- the same of the core's parts
pub paced_in_parts : (S : Setting) (T : Tempo) (strict : Option ℕ) (P Q : Plan) (J K : List Entry) (moments others : List Moment) (log : List LogEntry) (before new_faults : ℕ) (end : PaceEnd) → Q ≡ P → K ≡ J → others ≡ moments → (old : Plan)
    → (P ≡ old) × (r : IsPaced (exchange_at S log) P J (timing T strict moments) before new_faults end) × (r.replies ≡ S.replies)
    → (Q ≡ old) × (r : IsPaced (exchange_at S log) Q K (timing T strict others) before new_faults end) × (r.replies ≡ S.replies)
paced_in_parts S T strict P Q J K moments others log before new_faults end q k o old t =
    subst (λ (X : Plan). (X ≡ old) × (r : IsPaced (exchange_at S log) X K (timing T strict others) before new_faults end) × (r.replies ≡ S.replies)) (sym q)
    (subst (λ (Y : List Entry). (P ≡ old) × (r : IsPaced (exchange_at S log) P Y (timing T strict others) before new_faults end) × (r.replies ≡ S.replies)) (sym k)
    (subst (λ (Z : List Moment). (P ≡ old) × (r : IsPaced (exchange_at S log) P J (timing T strict Z) before new_faults end) × (r.replies ≡ S.replies)) (sym o) t))

-- nothing waits yet
abbrev pub new_waiting : Plan → ℕ → ℕ → Option ℕ → WaitingSeen
new_waiting P origin factor strict = record { holds = replicate (sim_count P) []; moments = []; tempo = record { origin = origin; factor = factor }; strict = strict }

-- it goes on from there
pub goes_new : (A : Attempt) (C : CrewSeen) (P : Plan) (s : IsStarted A C P) (origin factor : ℕ) (strict : Option ℕ) (core : CoreState) (W : WaitingSeen) → core ≡ new_core P → W ≡ new_waiting P origin factor strict → (open_links : List LinkNo) → AreOpen C.channels open_links
    → (S : Setting) × (log : List LogEntry) × GoesOn S core log C W × AreLinksOpen S open_links
goes_new A C P s origin factor strict core W core_is waiting_is open_links all = (
  setting_at A C P s,
  A.log ++ Told origin ∷ [],
  subst (λ (k : CoreState). GoesOn (setting_at A C P s) k (A.log ++ Told origin ∷ []) C W) (sym core_is)
      (subst (λ (w : WaitingSeen). GoesOn (setting_at A C P s) (new_core P) (A.log ++ Told origin ∷ []) C w) (sym waiting_is) (begins A C P s origin factor strict)),
  links_at A C P s open_links all,
)

-- what the run of a plan comes to once the clock told its origin
pub plan_paces : (P : Plan) (C : CrewSeen) (core : CoreState) (W : WaitingSeen) (origin factor : ℕ) (strict : Option ℕ) (entries : List LogEntry) (faults new_faults : ℕ) (Q : Option Plan) (J : Option Journal) (moments : List Moment) (end : PaceEnd)
    → core ≡ new_core P → W ≡ new_waiting P origin factor strict → GoesOnAs core C W entries faults new_faults Q J moments end → PlanPacesAs P C factor strict (Told origin ∷ entries) faults new_faults Q J moments end
plan_paces P C core W origin factor strict entries faults new_faults (Some Q) (Some J) moments end core_is waiting_is g A before low s =
    let S = setting_at A C P s in
    let log : List LogEntry = A.log ++ Told origin ∷ [] in
    let goes : GoesOn S core log C W = subst (λ (k : CoreState). GoesOn (setting_at A C P s) k (A.log ++ Told origin ∷ []) C W) (sym core_is)
    (subst (λ (w : WaitingSeen). GoesOn (setting_at A C P s) (new_core P) (A.log ++ Told origin ∷ []) C w) (sym waiting_is) (begins A C P s origin factor strict)) in
    let t = subst
    (λ (w : WaitingSeen).
    (Q ≡ P) × (r : IsPaced (exchange A.started A.scenario (reply_in (setting_at A C P s)) (A.log ++ (Told origin ∷ entries))) Q J.entries (timing w.tempo w.strict moments) before new_faults end) × (r.replies ≡ s.begun.replies)) waiting_is
    (subst (λ (X : Plan). (Q ≡ X) × (r : IsPaced (exchange A.started A.scenario (reply_in (setting_at A C P s)) (A.log ++ (Told origin ∷ entries))) Q J.entries (timing W.tempo W.strict moments) before new_faults end) × (r.replies ≡ s.begun.replies)) (ap (λ (k : CoreState). k.plan) core_is)
    (subst (λ (l : List LogEntry). (Q ≡ core.plan) × (r : IsPaced (exchange A.started A.scenario (reply_in (setting_at A C P s)) l) Q J.entries (timing W.tempo W.strict moments) before new_faults end) × (r.replies ≡ s.begun.replies)) (append_assoc A.log (Told origin ∷ []) entries)
    (g S log before low goes))) in
    record {
      answers = s.begun.answers;
      made = subst (IsMade A.scenario A.ranks s.begun.answers) (sym t.0) s.begun.made;
      kinds = s.begun.kinds;
      first = λ i lower. ap (λ (X : Plan). first_id X i) t.0 ∙ s.begun.first i (subst (λ (n : ℕ). i < n) s.begun.sims (subst (λ (X : Plan). i < sim_count X) t.0 lower));
      origin = origin;
      run = t.1;
      told = λ i l linked. ap (λ (f : Messages). f i) t.2 ∙ s.begun.told i l linked;
    }
plan_paces P C core W origin factor strict entries faults new_faults (Some Q) None moments end core_is waiting_is g A before low s = absurd g
plan_paces P C core W origin factor strict entries faults new_faults None J moments end core_is waiting_is g A before low s = absurd g
