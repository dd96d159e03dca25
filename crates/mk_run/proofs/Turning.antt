-- From the calls of a turn to what the turn comes to.
use Rattle.std.proofs.Common.{◌≡◌, inl, inr, ℕ, ◌<◌, List, [], ◌∷◌, ◌++◌, Option, Result, Ok, Err, OnOk, OnErr, IfErr, refl, sym, ap, ◌∙◌, subst, append_assoc}
use Rattle.mk_base.specs.declared.LinkNo.{LinkNo}
use Rattle.mk_base.specs.declared.SimNo.{SimNo}
use Rattle.mk_base.specs.Lists.{IsIn}
use Rattle.mk_base.proofs.Lists.{some_same, append_nil}
use Rattle.mk_plan.specs.declared.Item.{Item}
use Rattle.mk_plan.specs.declared.Item.TheVariants.{Step}
use Rattle.mk_plan.specs.declared.Message.{Message}
use Rattle.mk_plan.specs.declared.Entry.TheVariants.{Sent, Got}
use Rattle.mk_plan.specs.Plans.{sim_count, first_id}
use Rattle.mk_plan.specs.Journals.{Arrival, sent}
use Rattle.mk_plan.specs.Sequential.{id_after}
use Rattle.mk_outside.specs.declared.fleet.LogEntry.{LogEntry}
use Rattle.mk_outside.specs.Logs.{Adds}
use Rattle.mk_outside.proofs.OnLogs.{adds_none, adds_more}
use Rattle.mk_sched.specs.Cores.{CoreState, Stands}
use Rattle.mk_sched.specs.Answers.{SomeOpen, IsAsked, AwaitsMessage, IsAnswered}
use Rattle.mk_run_laws.specs.Channels.{Channel}
use Rattle.mk_run_laws.specs.Crews.{IsHeard}
use Rattle.mk_run_links.specs.Entries.{AreOn}
use Rattle.mk_run_links.specs.Places.{AreOpen, IsChannelLink}
use Rattle.mk_run_links.proofs.OnEntries.{on_run}
use Rattle.mk_run_local.specs.Calls.{IsFitSuccess}
use Rattle.mk_run_local.specs.Laws.{RepliesAreKinds}
use Rattle.mk_run_crew.specs.declared.halt.Halt.{Halt}
use Rattle.mk_run_crew.specs.declared.halt.Halt.TheVariants as halt
use Rattle.mk_run_crew.specs.Calls.{SendsAs, HearsNothing, CanHear, halt_of}
use Rattle.mk_run_crew.specs.Seen.{CrewSeen, crew_of}
use Rattle.mk_run.specs.declared.outcome.Outcome.{Outcome}
use Rattle.mk_run.specs.inner.Underway.{Setting, reply_in, EndsBy, HasEnded, IsUnderway}
use Rattle.mk_run.specs.Outcomes.{outcome_of}
use Rattle.mk_run.specs.inner.Sendings.{CanSend, EndsWithItem, IsUnsent}
use Rattle.mk_run.specs.inner.Turns.{AreLinksOpen, AsksAllAs, GoesOn, IsPast, IsStopping, TakesAs, TurnsAs, Waits}
use Rattle.mk_onlooker.specs.Showings.{AreInRange}
use Rattle.mk_run.proofs.LoopSteps.{can_hear}
use Rattle.mk_run.proofs.Endings.{unsent_ends, unheard_ends}
use Rattle.mk_run.proofs.Going.{asked_low, asked_opened, asked_replied, asked_linked, asked_goes}
use Rattle.mk_run.proofs.Hearing.{heard_low, heard_fits, heard_running, heard_no_other, heard_log_right, answered_opened, answered_replied, answered_linked, answered_goes}
use Rattle.mk_sched.proofs.Pushed.{patient_got}
use Rattle.mk_run.proofs.Pushed.{range_got}
use Rattle.mk_run.proofs.Shown.{ends_as}

-- ---- sending what the journal ends with

-- what it is
sent_same : (s t : SimNo) (item other : Item) → Sent s item ≡ Sent t other → item ≡ other
sent_same s t item other e = cc

-- ---- a Step was asked

module _ (T : Setting) (old new : CoreState) (log : List LogEntry) (C : CrewSeen) (s : SimNo) (u : GoesOn T old log C) (stands : Stands new.plan new.entries) (a : IsAsked old s new) where
  ends_with_step : EndsWithItem new s (Step a.at a.inputs a.advance) (id_after (first_id old.plan s.0) (sent old.entries s.0))
  ends_with_step = record { before = old.entries; last = ap (λ (c : CoreState). c.entries) a.moved; opened = asked_opened T old new log C s u stands a }

  pub can_ask : CanSend new s C
  can_ask = (
    Step a.at a.inputs a.advance,
    id_after (first_id old.plan s.0) (sent old.entries s.0),
    ends_with_step,
    record { replied = asked_replied T old new log C s u stands a; linked = asked_linked T old new log C s u stands a },
  )

  pub asked_there : s.0 < sim_count new.plan
  asked_there = subst (λ (c : CoreState). s.0 < sim_count c.plan) (sym a.moved) (asked_low T old new log C s u stands a)

  pub asked_on : RepliesAreKinds → (D : CrewSeen) → ((item : Item) (id : ℕ) → EndsWithItem new s item id → SendsAs s.0 item id C D) → GoesOn T new log D
  asked_on law D so = asked_goes T old new log C s u stands a law D (id_after (first_id old.plan s.0) (sent old.entries s.0)) (asked_opened T old new log C s u stands a) (so _ _ ends_with_step)

  pub asked_not : (end : Outcome) → ((item : Item) (id : ℕ) → EndsWithItem new s item id → IsUnsent end s.0 item C) → IsStopping ⊥ T new log C end
  asked_not end why = subst (λ (c : CoreState). HasEnded ⊥ T c.plan c.entries log (crew_of C) end) (sym a.moved)
      (unsent_ends T ⊥ _ old.plan old.entries log C s (Step a.at a.inputs a.advance) u.suits (asked_low T old new log C s u stands a) (subst (λ (c : CoreState). Stands c.plan c.entries) a.moved stands) u.patient u.in_range u.no_fault u.running u.no_other u.log_right
      end (why _ _ ends_with_step))

-- ---- a message is waited for

pub waiting_on : (T : Setting) (old new : CoreState) (log : List LogEntry) (C : CrewSeen) → AwaitsMessage old new → GoesOn T old log C → GoesOn T new log C
waiting_on T old new log C w u = subst (λ (c : CoreState). GoesOn T c log C) (sym w.same) u

pub waits_so : (old new : CoreState) → AwaitsMessage old new → Waits new
waits_so old new w = subst Waits (sym w.same) (w.nobody, w.waiting)

-- ---- links are open, and something can be heard

pub are_open : (T : Setting) (core : CoreState) (log : List LogEntry) (C : CrewSeen) (open_links : List LinkNo) → GoesOn T core log C → AreLinksOpen T open_links → AreOpen C.channels open_links
are_open T core log C open_links u links i w there =
    let t = u.no_other i w there in
    let g = u.running.channels i t.0 t.1 in
    subst (λ (l : LinkNo). IsIn l open_links) (sym (ap (λ (v : Channel). v.link) (some_same (sym there ∙ g.there)) ∙ g.link)) (links i t.0 t.1)

pub ended_open : (risen : Type 0) (T : Setting) (core : CoreState) (log : List LogEntry) (C : CrewSeen) (end : Outcome) (open_links : List LinkNo) → IsStopping risen T core log C end → AreLinksOpen T open_links → AreOpen C.channels open_links
ended_open risen T core log C end open_links u links i w there =
    let t = u.no_other i w there in
    let g = (u.channels i t.0 t.1).channel in
    subst (λ (l : LinkNo). IsIn l open_links) (sym (ap (λ (v : Channel). v.link) (some_same (sym there ∙ g.there)) ∙ g.link)) (links i t.0 t.1)

pub may_hear : (T : Setting) (core : CoreState) (log : List LogEntry) (C : CrewSeen) → GoesOn T core log C → SomeOpen core.plan core.entries → CanHear C
may_hear T core log C u opened none = elim (can_hear T.started T.scenario T.replies (reply_in T) core.plan core.entries log (crew_of C) u.suits.sims u.running opened) [
  | inl kept ↦ absurd (kept none)
  | inr t ↦ let g = u.running.channels t.0 t.1 t.2 in (t.0, (g.channel, g.there))
]

-- ---- a message was heard

pub past_it : (T : Setting) (core : CoreState) (log entries : List LogEntry) (C D : CrewSeen) (s : SimNo) (m : Message) → GoesOn T core log C → Waits core → IsHeard entries s.0 m (crew_of C) (crew_of D) → AreOn (IsChannelLink C.channels) entries → D.sims ≡ C.sims
    → ((k : Arrival) (more : List Arrival) → C.kept ≡ k ∷ more → IsFitSuccess m) → IsPast T core (log ++ entries) s m D
past_it T core log entries C D s m u waits h on_links sims fit = record {
  before = log;
  entries = entries;
  parts = refl;
  crew = crew_of C;
  underway = subst (λ (l : _). IsUnderway T core.plan core.entries log (crew_of C) l) (sym sims) u;
  opened = waits.1;
  nobody = waits.0;
  heard = h;
  fit = fit;
  on_links = on_run T.started T.scenario C.channels entries (λ i l linked. let g = u.running.channels i l linked in (g.channel, g.there, g.link)) u.no_other on_links;
}

-- nothing was
pub stopped_unheard : (T : Setting) (core : CoreState) (log entries : List LogEntry) (C D : CrewSeen) (h : Halt) (risen : Type 0) → GoesOn T core log C → Waits core → HearsNothing h entries C D → AreOn (IsChannelLink C.channels) entries → (h ≡ halt.Fleet → risen)
    → IsStopping risen T core (log ++ entries) D (outcome_of h)
stopped_unheard T core log entries C D h risen u waits un on_links cause = subst (λ (g : Halt). IsStopping risen T core (log ++ entries) D (outcome_of g)) (sym un.is)
    (unheard_ends T risen core.plan core.entries log entries C D u waits.0 waits.1 un.unheard un.why (λ e. cause (un.is ∙ ap halt_of e)) un.shown on_links)

-- ---- an outcome stays, whatever rises besides

ends_by : (some all : Type 0) (T : Setting) (core : CoreState) (log : List LogEntry) (C : CrewSeen) → (some → all) → (e : Outcome) → EndsBy some T core.plan core.entries log (crew_of C) e → EndsBy all T core.plan core.entries log (crew_of C) e
ends_by some all T core log C more = ends_as some all _ _ _ _ _ _ _ _ more

pub stopping_by : (some all : Type 0) (T : Setting) (core : CoreState) (log : List LogEntry) (C : CrewSeen) (end : Outcome) → (some → all) → IsStopping some T core log C end → IsStopping all T core log C end
stopping_by some all T core log C end more e = record {
  suits = e.suits;
  stands = e.stands;
  patient = e.patient;
  in_range = e.in_range;
  kinds = e.kinds;
  channels = e.channels;
  no_other = e.no_other;
  rests = e.rests;
  log_right = e.log_right;
  ends = ends_by some all T core log C more end e.ends;
  fault = e.fault;
  unfinished = e.unfinished;
}

-- ---- counts

-- ---- the core answered the message

module _ (T : Setting) (core new : CoreState) (log : List LogEntry) (s : SimNo) (m : Message) (C : CrewSeen) (h : IsPast T core log s m C) (a : IsAnswered core s m new) (stands : Stands new.plan new.entries) where
  ends_with_answer : EndsWithItem new s a.item (answered_opened T core new log s m C h a stands).0
  ends_with_answer = record { before = core.entries ++ Got s m ∷ []; last = ap (λ (c : CoreState). c.entries) a.moved; opened = (answered_opened T core new log s m C h a stands).1 }

  pub can_answer : CanSend new s C
  can_answer =
      let id = answered_opened T core new log s m C h a stands in
      (a.item, id.0, ends_with_answer, record { replied = answered_replied T core new log s m C h a stands; linked = answered_linked T core new log s m C h a stands id.0 id.1 })

  pub answered_on : RepliesAreKinds → (D : CrewSeen) → ((item : Item) (id : ℕ) → EndsWithItem new s item id → SendsAs s.0 item id C D) → GoesOn T new log D
  answered_on law D so = let id = answered_opened T core new log s m C h a stands in answered_goes T core new log s m C h a stands law D id.0 id.1 (so a.item id.0 ends_with_answer)

  pub answered_not : (end : Outcome) → ((item : Item) (id : ℕ) → EndsWithItem new s item id → IsUnsent end s.0 item C) → IsStopping ⊥ T new log C end
  answered_not end why = subst (λ (c : CoreState). HasEnded ⊥ T c.plan c.entries log (crew_of C) end) (sym a.moved)
      (unsent_ends T ⊥ _ core.plan (core.entries ++ Got s m ∷ []) log C s a.item h.underway.suits (heard_low T core.plan core.entries log s m (crew_of C) C.sims h)
      (subst (λ (c : CoreState). Stands c.plan c.entries) a.moved stands) (patient_got core.plan core.entries s m h.underway.patient h.nobody)
      (range_got core.entries s m h.underway.in_range (heard_fits T core.plan core.entries log s m (crew_of C) C.sims h)) a.no_fault (heard_running T core.plan core.entries log s m (crew_of C) C.sims h)
      (heard_no_other T core.plan core.entries log s m (crew_of C) C.sims h) (heard_log_right T core.plan core.entries log s m (crew_of C) C.sims h) end (why a.item _ ends_with_answer))

-- whether it was sent or not
pub answered_so : (core new : CoreState) (s : SimNo) (m : Message) (C D : CrewSeen) (r : Result (Unit {0}) Outcome) → IsAnswered core s m new → Stands new.plan new.entries → RepliesAreKinds
    → OnOk r ((item : Item) (id : ℕ) → EndsWithItem new s item id → SendsAs s.0 item id C D) → IfErr r (λ end. (item : Item) (id : ℕ) → EndsWithItem new s item id → IsUnsent end s.0 item C) → OnErr r (D ≡ C) → TakesAs r s m core C new D
answered_so core new s m C D (Ok done) a stands law sent unsent same = (ap (λ (c : CoreState). c.ended) a.moved, λ T log h. answered_on T core new log s m C h a stands law D sent)
answered_so core new s m C D (Err end) a stands law sent unsent same = λ T log h. subst (λ (E : CrewSeen). IsStopping ⊥ T new log E end) (sym same) (answered_not T core new log s m C h a stands end unsent)

-- ---- a turn

-- the core was given the message that was heard
pub heard_turn : (risen : Type 0) (core new : CoreState) (entries : List LogEntry) (C D E : CrewSeen) (s : SimNo) (m : Message) (r : Result (Unit {0}) Outcome) → Waits core → IsHeard entries s.0 m (crew_of C) (crew_of D) → AreOn (IsChannelLink C.channels) entries → D.sims ≡ C.sims
    → ((k : Arrival) (more : List Arrival) → C.kept ≡ k ∷ more → IsFitSuccess m) → TakesAs r s m core D new E → TurnsAs r entries risen core C new E
heard_turn risen core new entries C D E s m (Ok done) waits h on_links sims fit t = (t.0, λ T log u. t.1 T (log ++ entries) (past_it T core log entries C D s m u waits h on_links sims fit))
heard_turn risen core new entries C D E s m (Err end) waits h on_links sims fit t = λ T log u. stopping_by ⊥ risen T new (log ++ entries) E end (λ e. absurd e) (t T (log ++ entries) (past_it T core log entries C D s m u waits h on_links sims fit))

-- whoever was ready was asked then
pub then_asked : (risen : Type 0) (old mid new : CoreState) (entries : List LogEntry) (C D E : CrewSeen) (r : Result (Unit {0}) Outcome) → (done : Unit {0}) → TurnsAs (Ok done) entries risen old C mid D → AsksAllAs r mid D new E → TurnsAs r entries risen old C new E
then_asked risen old mid new entries C D E (Ok did) done t a = (a.0, λ T log u. a.2 T (log ++ entries) (t.1 T log u))
then_asked risen old mid new entries C D E (Err end) done t a = λ T log u. stopping_by ⊥ risen T new (log ++ entries) E end (λ e. absurd e) (a T (log ++ entries) (t.1 T log u))

-- so it waits again, if it goes on
pub waits_then : (old new : CoreState) (C D : CrewSeen) (r : Result (Unit {0}) Outcome) → AsksAllAs r old C new D → OnOk r (Waits new)
waits_then old new C D (Ok done) a = a.1
waits_then old new C D (Err end) a = tt

-- the run ended while whoever was ready was asked
pub asked_end : (risen : Type 0) (old new : CoreState) (C D : CrewSeen) (end : Outcome) → ((T : Setting) (log : List LogEntry) → GoesOn T old log C → IsStopping ⊥ T new log D end) → TurnsAs (Err end) [] risen old C new D
asked_end risen old new C D end ends = λ T log u. subst (λ (l : List LogEntry). IsStopping risen T new l D end) (sym (append_nil log)) (stopping_by ⊥ risen T new log D end (λ e. absurd e) (ends T log u))

-- ---- the numbers of what the journal has may be written

pub turned_in_range : (risen : Type 0) (old new : CoreState) (entries : List LogEntry) (C D : CrewSeen) (r : Result (Unit {0}) Outcome) (T : Setting) (log : List LogEntry) → TurnsAs r entries risen old C new D → GoesOn T old log C → AreInRange new.entries
turned_in_range risen old new entries C D (Ok done) T log t u = (t.1 T log u).in_range
turned_in_range risen old new entries C D (Err end) T log t u = (t T log u).in_range

pub asked_in_range : (old new : CoreState) (C D : CrewSeen) (r : Result (Unit {0}) Outcome) (T : Setting) (log : List LogEntry) → AsksAllAs r old C new D → GoesOn T old log C → AreInRange new.entries
asked_in_range old new C D (Ok done) T log a u = (a.2 T log u).in_range
asked_in_range old new C D (Err end) T log a u = (a T log u).in_range

-- ---- turns one after another

-- by these entries the run has gone on
pub record Gone (old new : CoreState) (C D : CrewSeen) (before after : Option (List LogEntry)) : Type 0 where
  pub entries : List LogEntry
  pub adds : Adds entries before after
  pub goes : (T : Setting) (log : List LogEntry) → GoesOn T old log C → GoesOn T new (log ++ entries) D

pub none_gone : (core : CoreState) (C : CrewSeen) (log : Option (List LogEntry)) → Gone core core C C log log
none_gone core C log = record { entries = []; adds = adds_none log; goes = λ T l u. subst (λ (k : List LogEntry). GoesOn T core k C) (sym (append_nil l)) u }

pub gone_on : (old mid new : CoreState) (C D E : CrewSeen) (first second third : Option (List LogEntry)) (more : List LogEntry) → Gone old mid C D first second → Adds more second third
    → ((T : Setting) (log : List LogEntry) → GoesOn T mid log D → GoesOn T new (log ++ more) E) → Gone old new C E first third
gone_on old mid new C D E first second third more one adds goes = record {
  entries = one.entries ++ more;
  adds = adds_more one.entries more first second third one.adds adds;
  goes = λ T log u. subst (λ (k : List LogEntry). GoesOn T new k E) (append_assoc log one.entries more) (goes T (log ++ one.entries) (one.goes T log u));
}

pub gone_to_end : (some all : Type 0) (old mid new : CoreState) (C D E : CrewSeen) (first second third : Option (List LogEntry)) (more : List LogEntry) (end : Outcome) → (some → all) → Gone old mid C D first second → Adds more second third
    → TurnsAs (Err end) more some mid D new E → (entries : List LogEntry) × Adds entries first third × TurnsAs (Err end) entries all old C new E
gone_to_end some all old mid new C D E first second third more end rises one adds ends = (
  one.entries ++ more,
  adds_more one.entries more first second third one.adds adds,
  (λ T log u. subst (λ (k : List LogEntry). IsStopping all T new k E end) (append_assoc log one.entries more) (stopping_by some all T new ((log ++ one.entries) ++ more) E end rises (ends T (log ++ one.entries) (one.goes T log u)))),
)
