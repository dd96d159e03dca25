-- A resumed run's turns, one after another.
use Rattle.std.proofs.Common.{◌≡◌, ◌⊎◌, inl, inr, ℕ, ◌<◌, List, [], ◌∷◌, ◌++◌, length, Option, Some, None, Result, Ok, Err, sym, ap, ◌∙◌, subst, append_assoc}
use Rattle.std.proofs.lemmas.Option.{slice_get_within}
use Rattle.mk_base.specs.declared.LinkNo.{LinkNo}
use Rattle.mk_base.specs.declared.SimNo.{SimNo}
use Rattle.mk_base.specs.Lists.{IsIn}
use Rattle.mk_base.proofs.Lists.{append_nil, some_same}
use Rattle.mk_plan.specs.declared.Message.{Message}
use Rattle.mk_plan.specs.declared.Entry.{Entry}
use Rattle.mk_plan.specs.Plans.{sim_count}
use Rattle.mk_plan.specs.Journals.{Arrival, got}
use Rattle.mk_outside.specs.declared.fleet.LogEntry.{LogEntry}
use Rattle.mk_outside.specs.Logs.{Adds}
use Rattle.mk_outside.proofs.OnLogs.{adds_none, adds_more}
use Rattle.mk_onlooker.specs.Showings.{AreInRange}
use Rattle.mk_sched.specs.Cores.{CoreState}
use Rattle.mk_run_laws.specs.Channels.{Channel}
use Rattle.mk_run_laws.specs.Crews.{IsHeard}
use Rattle.mk_run_links.specs.Entries.{AreOn}
use Rattle.mk_run_links.specs.Places.{AreOpen, IsChannelLink}
use Rattle.mk_run_local.specs.Calls.{IsFitSuccess}
use Rattle.mk_run_crew.specs.declared.halt.Halt.{Halt}
use Rattle.mk_run_crew.specs.declared.halt.Halt.TheVariants as halt
use Rattle.mk_run_crew.specs.Calls.{CanHear, HearsNothing, halt_of}
use Rattle.mk_run_crew.specs.Seen.{CrewSeen, crew_of}
use Rattle.mk_run.specs.declared.outcome.Outcome.TheVariants as outcome
use Rattle.mk_run.specs.Outcomes.{outcome_of}
use Rattle.mk_run.specs.inner.Underway.{Setting}
use Rattle.mk_run.specs.inner.Turns.{AreLinksOpen}
use Rattle.mk_run.proofs.Shown.{ends_as}
use Rattle.mk_resume_links.specs.Rests.{Counts}
use Rattle.mk_resume_links.specs.inner.Catching.{one_more}
use Rattle.mk_resume_loop.specs.declared.behind.Standing.{Standing}
use Rattle.mk_resume_loop.specs.declared.ending.ResumeEnd.{ResumeEnd}
use Rattle.mk_resume_loop.specs.declared.ending.ResumeEnd.TheVariants as ends
use Rattle.mk_resume_loop.specs.Resumed.{SomeToCome}
use Rattle.mk_resume_loop.specs.inner.Ending.{EndsBy}
use Rattle.mk_resume_loop.specs.declared.ending.Pause.{Pause}
use Rattle.mk_resume_loop.specs.declared.ending.Pause.TheVariants as pause
use Rattle.mk_resume_loop.specs.inner.Standings.{HasNobody, HasSomebody}
use Rattle.mk_resume_loop.specs.inner.Turns.{GoesOn, IsPausing, IsStopping, AsksAllAs, TakesAs, TurnsAs, Waits}
use Rattle.mk_resume_loop.specs.inner.Underway.{BehindSeen}
use Rattle.mk_resume_loop.proofs.Endings.{done_ends, unheard_ends}
use Rattle.mk_resume_loop.proofs.Opened.{can_hear}
use Rattle.mk_resume_loop.proofs.Standing.{next_behind}
use Rattle.mk_resume_loop.proofs.Turning.{past_it}
use Rattle.mk_base.proofs.Items.{get_there}

-- ---- an end stays, whatever rises besides

ends_by : (some all : Type 0) (T : Setting) (first : List Entry) (core : CoreState) (heard : Counts) (log : List LogEntry) (C : CrewSeen) → (some → all) → (e : ResumeEnd) → EndsBy some T core.plan first core.entries heard log (crew_of C) e → EndsBy all T core.plan first core.entries heard log (crew_of C) e
ends_by some all T first core heard log C more (ends.Outcome end) is = ends_as some all _ _ _ _ _ _ _ _ more end is
ends_by some all T first core heard log C more (ends.OtherPlan n) is = is
ends_by some all T first core heard log C more (ends.OtherEntry n) is = is
ends_by some all T first core heard log C more (ends.Differs s place saved other) is = is

pub stopping_by : (some all : Type 0) (T : Setting) (first : List Entry) (core : CoreState) (log : List LogEntry) (C : CrewSeen) (end : ResumeEnd) → (some → all) → IsStopping some T first core log C end → IsStopping all T first core log C end
stopping_by some all T first core log C end more (heard, e) = (
  heard,
  record {
    suits = e.suits;
    stands = e.stands;
    begins = e.begins;
    patient = e.patient;
    in_range = e.in_range;
    counts = e.counts;
    kinds = e.kinds;
    channels = e.channels;
    no_other = e.no_other;
    rests = e.rests;
    log_right = e.log_right;
    ends = ends_by some all T first core heard log C more end e.ends;
    fault = e.fault;
    unfinished = e.unfinished;
  },
)

-- ---- what is waited for

pub unfinished_by : (T : Setting) (first : List Entry) (heard : Counts) (core : CoreState) (log : List LogEntry) (C : CrewSeen) (B : BehindSeen) → GoesOn T first heard core log C B → Waits core B → SomeToCome core.plan core.entries heard
unfinished_by T first heard core log C B u waits = elim waits.1 [
  | inl opened ↦ inl opened
  | inr t ↦ inr (t.0, subst (λ (n : ℕ). t.0 < n) u.1.sims (slice_get_within B.sims t.0 (Some t.1) t.2), next_behind core.entries t.0 (heard t.0) t.1.place (u.1.each t.0 (Some t.1) t.2).0)
]

pub may_hear : (T : Setting) (first : List Entry) (heard : Counts) (core : CoreState) (log : List LogEntry) (C : CrewSeen) (B : BehindSeen) → GoesOn T first heard core log C B → Waits core B → CanHear C
may_hear T first heard core log C B u waits = can_hear T core.plan first core.entries heard log C u.0 (unfinished_by T first heard core log C B u waits)

pub are_open : (T : Setting) (first : List Entry) (heard : Counts) (core : CoreState) (log : List LogEntry) (C : CrewSeen) (B : BehindSeen) (open_links : List LinkNo) → GoesOn T first heard core log C B → AreLinksOpen T open_links → AreOpen C.channels open_links
are_open T first heard core log C B open_links u links i w there =
    let t = u.0.no_other i w there in
    let g = u.0.catching.touch.channels i t.0 t.1 in
    subst (λ (l : LinkNo). IsIn l open_links) (sym (ap (λ (v : Channel). v.link) (some_same (sym there ∙ g.there)) ∙ g.link)) (links i t.0 t.1)

-- nothing was heard
pub stopped_unheard : (T : Setting) (first : List Entry) (heard : Counts) (core : CoreState) (log entries : List LogEntry) (C D : CrewSeen) (B : BehindSeen) (h : Halt) (risen : Type 0) → GoesOn T first heard core log C B → Waits core B → HearsNothing h entries C D → AreOn (IsChannelLink C.channels) entries → (h ≡ halt.Fleet → risen)
    → IsStopping risen T first core (log ++ entries) D (ends.Outcome (outcome_of h))
stopped_unheard T first heard core log entries C D B h risen u waits un on_links cause = subst (λ (g : Halt). IsStopping risen T first core (log ++ entries) D (ends.Outcome (outcome_of g))) (sym un.is)
    (heard, unheard_ends T first risen core.plan core.entries heard log entries C D u.0 waits.0 (unfinished_by T first heard core log C B u waits) un.unheard un.why (λ e. cause (un.is ∙ ap halt_of e)) un.shown on_links)

-- a message was, and was taken
pub heard_turn : (risen : Type 0) (core new : CoreState) (entries : List LogEntry) (C D E : CrewSeen) (B F : BehindSeen) (s : SimNo) (m : Message) (r : Result (Unit {0}) ResumeEnd) → Waits core B → IsHeard entries s.0 m (crew_of C) (crew_of D) → AreOn (IsChannelLink C.channels) entries → D.sims ≡ C.sims
    → ((k : Arrival) (more : List Arrival) → C.kept ≡ k ∷ more → IsFitSuccess m) → TakesAs r s m core D B new E F → TurnsAs r entries risen core C B new E F
heard_turn risen core new entries C D E B F s m (Ok done) waits h on_links sims fit t = (t.0, λ T first heard log u. (one_more heard s.0, t.1 T first heard (log ++ entries) (past_it T core first heard log entries C D B s m u waits.0 h on_links sims fit)))
heard_turn risen core new entries C D E B F s m (Err end) waits h on_links sims fit t = λ T first heard log u. stopping_by ⊥ risen T first new (log ++ entries) E end (λ e. absurd e) (t T first heard (log ++ entries) (past_it T core first heard log entries C D B s m u waits.0 h on_links sims fit))

-- and whoever was ready then was asked
pub asked_then : (risen : Type 0) (old mid new : CoreState) (entries : List LogEntry) (C D E : CrewSeen) (B F G : BehindSeen) (r : Result (Unit {0}) ResumeEnd)
    → ((T : Setting) (first : List Entry) (heard : Counts) (log : List LogEntry) → GoesOn T first heard old log C B → (next : Counts) × GoesOn T first next mid (log ++ entries) D F) → TurnsAs r [] ⊥ mid D F new E G → TurnsAs r entries risen old C B new E G
asked_then risen old mid new entries C D E B F G (Ok done) goes t = (
  t.0,
  λ T first heard log u. let w = goes T first heard log u in let v = t.1 T first w.0 (log ++ entries) w.1 in
      (v.0, subst (λ (l : List LogEntry). GoesOn T first v.0 new l E G) (append_nil (log ++ entries)) v.1),
)
asked_then risen old mid new entries C D E B F G (Err end) goes t = λ T first heard log u. let w = goes T first heard log u in
    subst (λ (l : List LogEntry). IsStopping risen T first new l E end) (append_nil (log ++ entries)) (stopping_by ⊥ risen T first new ((log ++ entries) ++ []) E end (λ e. absurd e) (t T first w.0 (log ++ entries) w.1))

-- whoever was ready was asked, and nothing was heard
pub asked_alone : (old new : CoreState) (C D : CrewSeen) (B : BehindSeen) (p : Pause) → AsksAllAs (Ok p) old C new D B → TurnsAs (Ok tt) [] ⊥ old C B new D B
asked_alone old new C D B p asks = (asks.0, λ T first heard log u. (heard, subst (λ (l : List LogEntry). GoesOn T first heard new l D B) (sym (append_nil log)) (asks.3 T first heard log u)))

-- the run ended while whoever was ready was asked
pub asked_end : (risen : Type 0) (old new : CoreState) (C D : CrewSeen) (B F : BehindSeen) (end : ResumeEnd) → ((T : Setting) (first : List Entry) (heard : Counts) (log : List LogEntry) → GoesOn T first heard old log C B → IsStopping ⊥ T first new log D end) → TurnsAs (Err end) [] risen old C B new D F
asked_end risen old new C D B F end stops = λ T first heard log u. subst (λ (l : List LogEntry). IsStopping risen T first new l D end) (sym (append_nil log)) (stopping_by ⊥ risen T first new log D end (λ e. absurd e) (stops T first heard log u))

-- ---- nobody is ready

-- nothing is left to do, and nobody is behind
pub all_over : (old new : CoreState) (C D : CrewSeen) (B : BehindSeen) (p : Pause) → AsksAllAs (Ok p) old C new D B → p ≡ pause.Over → HasNobody B → (T : Setting) (first : List Entry) (heard : Counts) (log : List LogEntry) → GoesOn T first heard old log C B
    → IsStopping ⊥ T first new log D (ends.Outcome outcome.Done)
all_over old new C D B p asks is nobody T first heard log before =
    let u : GoesOn T first heard new log D B = asks.3 T first heard log before in
    (heard, done_ends T first ⊥ new.plan new.entries heard log (crew_of D) D.sims u.0 (subst (λ (q : Pause). IsPausing q new) is asks.2, caught u))
  where
    caught : GoesOn T first heard new log D B → (i : ℕ) → i < sim_count new.plan → heard i ≡ length (got new.entries i)
    caught u i low =
        let there = get_there B.sims i (subst (λ (n : ℕ). i < n) (sym u.1.sims) low) in
        u.1.each i None (there.1 ∙ ap (λ (o : Option Standing). Some o) (nobody i there.0 there.1))

-- something is to come
pub waits_so : (old new : CoreState) (C D : CrewSeen) (B : BehindSeen) (p : Pause) → AsksAllAs (Ok p) old C new D B → (p ≡ pause.Waiting) ⊎ HasSomebody B → Waits new B
waits_so old new C D B p asks (inl is) = (asks.1, inl (subst (λ (q : Pause). IsPausing q new) is asks.2))
waits_so old new C D B p asks (inr somebody) = (asks.1, inr somebody)

-- ---- each message of the journal may be written

pub turned_in_range : (entries : List LogEntry) (risen : Type 0) (old new : CoreState) (C D : CrewSeen) (B F : BehindSeen) (r : Result (Unit {0}) ResumeEnd) (T : Setting) (first : List Entry) (heard : Counts) (log : List LogEntry) → GoesOn T first heard old log C B → TurnsAs r entries risen old C B new D F → AreInRange new.entries
turned_in_range entries risen old new C D B F (Ok done) T first heard log u t = (t.1 T first heard log u).1.0.in_range
turned_in_range entries risen old new C D B F (Err end) T first heard log u t = (t T first heard log u).1.in_range

-- ---- turns one after another

-- by these entries the run has gone on
pub record Gone (old new : CoreState) (C D : CrewSeen) (B F : BehindSeen) (before after : Option (List LogEntry)) : Type 0 where
  pub entries : List LogEntry
  pub adds : Adds entries before after
  pub goes : (T : Setting) (first : List Entry) (heard : Counts) (log : List LogEntry) → GoesOn T first heard old log C B → (next : Counts) × GoesOn T first next new (log ++ entries) D F

-- nothing was heard yet
pub first_gone : (old new : CoreState) (C D : CrewSeen) (B : BehindSeen) (log : Option (List LogEntry))
    → ((T : Setting) (first : List Entry) (heard : Counts) (log : List LogEntry) → GoesOn T first heard old log C B → (next : Counts) × GoesOn T first next new (log ++ []) D B) → Gone old new C D B B log log
first_gone old new C D B log goes = record { entries = []; adds = adds_none log; goes = goes }

pub asked_to_end : (risen : Type 0) (old new : CoreState) (C D : CrewSeen) (B F : BehindSeen) (end : ResumeEnd) → TurnsAs (Err end) [] ⊥ old C B new D F → TurnsAs (Err end) [] risen old C B new D F
asked_to_end risen old new C D B F end stops = λ T first heard log u. stopping_by ⊥ risen T first new (log ++ []) D end (λ e. absurd e) (stops T first heard log u)

pub gone_on : (old mid new : CoreState) (C D E : CrewSeen) (B F G : BehindSeen) (x y z : Option (List LogEntry)) (more : List LogEntry) → Gone old mid C D B F x y → Adds more y z
    → ((T : Setting) (first : List Entry) (heard : Counts) (log : List LogEntry) → GoesOn T first heard mid log D F → (next : Counts) × GoesOn T first next new (log ++ more) E G) → Gone old new C E B G x z
gone_on old mid new C D E B F G x y z more one adds goes = record {
  entries = one.entries ++ more;
  adds = adds_more one.entries more x y z one.adds adds;
  goes = λ T first heard log u. let t = one.goes T first heard log u in let w = goes T first t.0 (log ++ one.entries) t.1 in
      (w.0, subst (λ (k : List LogEntry). GoesOn T first w.0 new k E G) (append_assoc log one.entries more) w.1);
}

pub gone_to_end : (some all : Type 0) (old mid new : CoreState) (C D E : CrewSeen) (B F G : BehindSeen) (x y z : Option (List LogEntry)) (more : List LogEntry) (end : ResumeEnd) → (some → all) → Gone old mid C D B F x y → Adds more y z
    → TurnsAs (Err end) more some mid D F new E G → (entries : List LogEntry) × Adds entries x z × TurnsAs (Err end) entries all old C B new E G
gone_to_end some all old mid new C D E B F G x y z more end rises one adds stops = (
  one.entries ++ more,
  adds_more one.entries more x y z one.adds adds,
  (λ T first heard log u. let t = one.goes T first heard log u in
      subst (λ (k : List LogEntry). IsStopping all T first new k E end) (append_assoc log one.entries more) (stopping_by some all T first new ((log ++ one.entries) ++ more) E end rises (stops T first t.0 (log ++ one.entries) t.1))),
)
