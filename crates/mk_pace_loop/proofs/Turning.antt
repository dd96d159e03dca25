-- From the calls of a turn to what the turn comes to.
use Rattle.std.proofs.Common.{◌≡◌, inl, inr, ℕ, ◌<◌, Bool, true, false, List, [], ◌∷◌, ◌++◌, Option, Some, None, option_map, unwrap_or, Result, Ok, Err, refl, sym, ap, ◌∙◌, subst, append_assoc, if◌then◌else◌}
use Rattle.mk_base.specs.declared.LinkNo.{LinkNo}
use Rattle.mk_base.specs.declared.SimNo.{SimNo}
use Rattle.mk_base.specs.Lists.{IsIn}
use Rattle.mk_base.proofs.Lists.{append_nil, none_some, some_same}
use Rattle.mk_plan.specs.declared.Entry.{Entry}
use Rattle.mk_plan.specs.declared.Item.{Item}
use Rattle.mk_plan.specs.declared.Item.TheVariants.{Step, GetData, Answer, Refuse}
use Rattle.mk_plan.specs.declared.Message.{Message}
use Rattle.mk_plan.specs.declared.Plan.{Plan}
use Rattle.mk_plan.specs.Journals.{Arrival}
use Rattle.mk_plan.specs.Plans.{sim_count}
use Rattle.mk_outside.specs.declared.fleet.LogEntry.{LogEntry}
use Rattle.mk_outside.specs.declared.fleet.LogEntry.TheVariants.{Heard, NotHeard, Said, NotSaid, Ended, Rest, Told, Nap}
use Rattle.mk_outside.specs.Logs.{Adds, last_read, last_that, later_of, told_by}
use Rattle.mk_outside.proofs.OnLogs.{adds_more, adds_none, last-append}
use Rattle.mk_local.specs.Simulators.{Simulator}
use Rattle.mk_sched.specs.Cores.{CoreState}
use Rattle.mk_run_laws.specs.Crews.{IsHeard}
use Rattle.mk_run_laws.specs.Handshake.{sim_link}
use Rattle.mk_run_laws.specs.Channels.{Channel}
use Rattle.mk_run_links.specs.Entries.{AreOfLinks, IsClockless, IsNotOfClock}
use Rattle.mk_run_links.specs.Places.{AreOpen, IsChannelLink}
use Rattle.mk_run_links.proofs.OnEntries.{no_clock, of_run}
use Rattle.mk_run_local.specs.Calls.{IsFitSuccess}
use Rattle.mk_run_crew.specs.declared.halt.Halt.{Halt}
use Rattle.mk_run_crew.specs.declared.halt.Halt.TheVariants as halt
use Rattle.mk_run_crew.specs.Calls.{HearsNothing, TriesAs}
use Rattle.mk_run_crew.specs.Seen.{CrewSeen, crew_of}
use Rattle.mk_run.specs.declared.outcome.Outcome.{Outcome}
use Rattle.mk_run.specs.declared.outcome.Outcome.TheVariants as outcome
use Rattle.mk_run.specs.Outcomes.{outcome_of}
use Rattle.mk_run.specs.inner.Turns.{AreLinksOpen, IsStill, Waits}
use Rattle.mk_run.specs.inner.Underway.{Setting}
use Rattle.mk_run.proofs.Shown.{ends_as}
use Rattle.mk_pace_held.specs.declared.held.Due.{Due}
use Rattle.mk_pace_held.specs.declared.held.First.{First}
use Rattle.mk_pace_held.specs.declared.held.Held.{Held}
use Rattle.mk_pace_held.specs.Firsts.{first_at}
use Rattle.mk_pace_laws.specs.declared.end.PaceEnd.{PaceEnd}
use Rattle.mk_pace_laws.specs.declared.end.PaceEnd.TheVariants as pace
use Rattle.mk_pace_laws.specs.Clocks.{is_told, last_told}
use Rattle.mk_pace_laws.specs.Moments.{Tempo, moment_at}
use Rattle.mk_pace_laws.specs.Naps.{IsEarly}
use Rattle.mk_pace_loop.specs.inner.PacedOut.{EndsOutcome, EndsPace}
use Rattle.mk_pace_loop.specs.inner.Pacing.{AreHeldItems, BeginsWithStep, IsPacing}
use Rattle.mk_pace_loop.specs.inner.Turns.{AsksAs, AttendsAs, GoesOn, HasJustTold, IsPast, IsStopping, NapsAs, PassesAs, RisesOn, SendsDueAs, TakesAs, TurnsAs}
use Rattle.mk_pace_loop.specs.inner.Waiting.{AreEarly, IsOnTempo, WaitingSeen, timing_of}
use Rattle.mk_pace_loop.proofs.Ending.{fleet_ends}
use Rattle.mk_pace_loop.proofs.Meeting.{met_in_range, met_low}
use Rattle.mk_pace_loop.proofs.Passing.{nap_here, reads, sleeps}
use Rattle.mk_pace_loop.proofs.Risen.{clockless_rises, nap_rises}
use Rattle.mk_pace_loop.proofs.Unheard.{unheard_ends, unheard_on}
use Rattle.mk_plan.specs.Messages.{is_message_in_range}

-- ---- what stays

pub on_tempo : (one two three : WaitingSeen) → IsOnTempo one two → IsOnTempo two three → IsOnTempo one three
on_tempo one two three a b = record { tempo = b.tempo ∙ a.tempo; strict = b.strict ∙ a.strict }

pub same_tempo : (W : WaitingSeen) → IsOnTempo W W
same_tempo W = record { tempo = refl; strict = refl }

pub still_on : (one two three : CrewSeen) → IsStill one two → IsStill two three → IsStill one three
still_on one two three a b = record { places = b.places ∙ a.places; kinds = λ rows known. b.kinds rows (a.kinds rows known) }

pub still_same : (C : CrewSeen) → IsStill C C
still_same C = record { places = refl; kinds = λ rows known. known }

-- ---- an end stays, whatever rises besides

ends_outcome : (some all : Type 0) (S : Setting) (P : Plan) (J : List Entry) (log : List LogEntry) (C : CrewSeen) → (some → all) → (e : Outcome) → EndsOutcome some S P J log (crew_of C) e → EndsOutcome all S P J log (crew_of C) e
ends_outcome some all S P J log C more = ends_as some all _ _ _ _ _ _ _ _ more

ends_pace : (some all : Type 0) (S : Setting) (core : CoreState) (log : List LogEntry) (C : CrewSeen) (W : WaitingSeen) → (some → all) → (e : PaceEnd) → EndsPace some S core.plan (timing_of W) core.entries log (crew_of C) e
    → EndsPace all S core.plan (timing_of W) core.entries log (crew_of C) e
ends_pace some all S core log C W more (pace.Outcome end) is = ends_outcome some all S core.plan core.entries log C more end is
ends_pace some all S core log C W more (pace.Late sim time late allowed) is = is

pub stopping_by : (some all : Type 0) (S : Setting) (core : CoreState) (log : List LogEntry) (C : CrewSeen) (W : WaitingSeen) (end : PaceEnd) → (some → all) → IsStopping some S core log C W end → IsStopping all S core log C W end
stopping_by some all S core log C W end more e = record {
  suits = e.suits;
  stands = e.stands;
  patient = e.patient;
  in_range = e.in_range;
  kinds = e.kinds;
  channels = e.channels;
  no_other = e.no_other;
  origin = e.origin;
  moments_are = e.moments_are;
  within = e.within;
  setup_rests = e.setup_rests;
  on_links = e.on_links;
  naps = e.naps;
  looks = e.looks;
  ends = ends_pace some all S core log C W more end e.ends;
  fault = e.fault;
  unfinished = e.unfinished;
}

-- ---- links are open

pub are_open : (S : Setting) (core : CoreState) (log : List LogEntry) (C : CrewSeen) (W : WaitingSeen) (open_links : List LinkNo) → GoesOn S core log C W → AreLinksOpen S open_links → AreOpen C.channels open_links
are_open S core log C W open_links u links i w there =
    let t = u.no_other i w there in
    let g = u.channels i t.0 t.1 in
    subst (λ (l : LinkNo). IsIn l open_links) (sym (ap (λ (v : Channel). v.link) (some_same (sym there ∙ g.there)) ∙ g.link)) (links i t.0 t.1)

-- ---- a message was heard

pub met_it : (S : Setting) (core : CoreState) (log entries : List LogEntry) (C D : CrewSeen) (W : WaitingSeen) (s : SimNo) (m : Message) → GoesOn S core log C W → Waits core → IsHeard entries s.0 m (crew_of C) (crew_of D) → AreOfLinks (IsChannelLink C.channels) entries → D.sims ≡ C.sims
    → ((k : Arrival) (more : List Arrival) → C.kept ≡ k ∷ more → IsFitSuccess m) → IsPast S core (log ++ entries) s m D W
met_it S core log entries C D W s m u waits h of_links sims fit = record {
  before = log;
  entries = entries;
  parts = refl;
  crew = crew_of C;
  pacing = subst (λ (l : List (Option Simulator)). IsPacing S core.plan core.entries log (crew_of C) l W) (sym sims) u;
  opened = waits.1;
  nobody = waits.0;
  heard = h;
  of_links = of_run S.started S.scenario C.channels entries (λ i l linked. let g = u.channels i l linked in (g.channel, g.there, g.link)) u.no_other of_links;
  fit = fit;
}

pub met_there : (S : Setting) (core : CoreState) (log : List LogEntry) (s : SimNo) (m : Message) (D : CrewSeen) (W : WaitingSeen) → IsPast S core log s m D W → s.0 < sim_count core.plan
met_there S core log s m D W h = met_low S W.tempo W.strict core.plan core.entries h.before h.entries h.crew (crew_of D) D.sims W.holds W.moments h.pacing s m h.nobody h.of_links h.fit h.heard

pub met_form : (S : Setting) (core : CoreState) (log : List LogEntry) (s : SimNo) (m : Message) (D : CrewSeen) (W : WaitingSeen) → IsPast S core log s m D W → is_message_in_range m ≡ true
met_form S core log s m D W h = met_in_range S W.tempo W.strict core.plan core.entries h.before h.entries h.crew (crew_of D) D.sims W.holds W.moments h.pacing s m h.nobody h.of_links h.fit h.heard

-- the core was given it
pub heard_attends : (risen : Type 0) (told : ℕ) (core new : CoreState) (entries : List LogEntry) (C D E : CrewSeen) (W V : WaitingSeen) (s : SimNo) (m : Message) (r : Result (Unit {0}) Outcome) → Waits core → IsHeard entries s.0 m (crew_of C) (crew_of D) → AreOfLinks (IsChannelLink C.channels) entries → D.sims ≡ C.sims
    → ((k : Arrival) (more : List Arrival) → C.kept ≡ k ∷ more → IsFitSuccess m) → TakesAs r s m core D W new E V → AttendsAs r told entries risen core C W new E V
heard_attends risen told core new entries C D E W V s m (Ok done) waits h of_links sims fit t = (t.0, λ S log u just. t.1 S (log ++ entries) (met_it S core log entries C D W s m u waits h of_links sims fit))
heard_attends risen told core new entries C D E W V s m (Err end) waits h of_links sims fit t = λ S log u just. stopping_by ⊥ risen S new (log ++ entries) E V (pace.Outcome end) (λ e. absurd e) (t S (log ++ entries) (met_it S core log entries C D W s m u waits h of_links sims fit))

-- nothing was
pub unheard_attends : (risen : Type 0) (told : ℕ) (core : CoreState) (entries : List LogEntry) (C D : CrewSeen) (W : WaitingSeen) (h : Halt) → Waits core → HearsNothing h entries C D → AreOfLinks (IsChannelLink C.channels) entries → D.sims ≡ C.sims → (h ≡ halt.Fleet → risen)
    → AttendsAs (Err (outcome_of h)) told entries risen core C W core D W
unheard_attends risen told core entries C D W h waits un of_links sims cause = λ S log u just. unheard_ends S core log entries C D W risen u waits sims (unheard_on S core log entries C D W risen u waits sims un.unheard of_links) h un cause

-- ---- a nap

-- no entry of a link tells a number
pub none_told : (entries : List LogEntry) → IsClockless entries → last_that is_told entries ≡ None
none_told [] all = refl
none_told (e ∷ entries) all = ap (λ (o : Option LogEntry). later_of (if is_told e then Some e else None) o) (none_told entries all.1) ∙ ap (λ (b : Bool). if b then Some e else None) (untold e all.0)
  where
    untold : (e : LogEntry) → IsNotOfClock e → is_told e ≡ false
    untold (Heard on bytes) of = refl
    untold (NotHeard on) of = refl
    untold (Said on bytes) of = refl
    untold (NotSaid on) of = refl
    untold (Ended on) of = refl
    untold Rest of = refl
    untold (Told moment) of = absurd of
    untold Nap of = absurd of

-- so the last look is that of this turn
told_last : (told : ℕ) (log entries : List LogEntry) → HasJustTold told log → IsClockless entries → last_told (log ++ entries) ≡ told
told_last told log entries just clockless = ap (λ (o : Option LogEntry). unwrap_or (option_map told_by o) 0)
    (last-append is_told log entries ∙ ap (later_of (last_that is_told log)) (none_told entries clockless) ∙ ap (last_that is_told) just.1 ∙ last-append is_told just.0 (Told told ∷ []))

-- what waits is early
early_items : (P : Plan) (T : Tempo) (J : List Entry) (s told : ℕ) (before : List Item) (held : List Held) (items : List Item) → AreHeldItems P T J s before held items → BeginsWithStep held → ((f : First) → first_at (record { 0 = s }) held ≡ Some f → told < f.due.moment) → IsEarly T told items
early_items P T J s told before [] [] are begins early = inl refl
early_items P T J s told before [] (i ∷ items) are begins early = absurd are
early_items P T J s told before (h ∷ held) [] are begins early = absurd are
early_items P T J s told before (h ∷ held) (Step x inputs advance ∷ items) are begins early =
    inr (x, inputs, advance, items, refl, early (record { sim = record { 0 = s }; place = h.place; due = record { at = x; moment = moment_at T x.time } }) (ap (option_map (λ (d : Due). record { sim = record { 0 = s }; place = h.place; due = d })) (are.0).due))
early_items P T J s told before (h ∷ held) (GetData wanted ∷ items) are begins early = absurd (none_some (sym (are.0).due ∙ begins.1))
early_items P T J s told before (h ∷ held) (Answer id content ∷ items) are begins early = absurd (none_some (sym (are.0).due ∙ begins.1))
early_items P T J s told before (h ∷ held) (Refuse id reason ∷ items) are begins early = absurd (none_some (sym (are.0).due ∙ begins.1))

module _ (risen : Type 0) (told : ℕ) (core : CoreState) (entries : List LogEntry) (C D : CrewSeen) (W : WaitingSeen) (waits : Waits core) (early : AreEarly told W.holds) (going : core.ended ≡ None) (tried : TriesAs (Ok None) entries C D) (sims : D.sims ≡ C.sims) where
  around : (S : Setting) (log : List LogEntry) → GoesOn S core log C W → GoesOn S core (log ++ entries) D W
  around S log u = unheard_on S core log entries C D W risen u waits sims tried.0 tried.1

  naps_on : (S : Setting) (log : List LogEntry) → GoesOn S core log C W → HasJustTold told log → GoesOn S core ((log ++ entries) ++ Nap ∷ []) D W
  naps_on S log u just = sleeps S W.tempo W.strict core.plan core.entries (log ++ entries) (crew_of D) D.sims W.holds W.moments q
      (nap_here S W.tempo W.strict core.plan core.entries (log ++ entries) (crew_of D) D.sims W.holds W.moments q (λ i w there. (tried.2 i w there).0) (λ i x ready. waits.0 (i, x, ready)) early_at)
      found
    where
      q : GoesOn S core (log ++ entries) D W
      q = around S log u

      early_at : (i : ℕ) (low : i < sim_count core.plan) → IsEarly W.tempo (last_told (log ++ entries)) (q.holding i low).waiting
      early_at i low =
          let t = q.holding i low in
          subst (λ (n : ℕ). IsEarly W.tempo n t.waiting) (sym (told_last told log entries just (no_clock (IsChannelLink C.channels) entries tried.1)))
          (early_items core.plan W.tempo core.entries i told (q.queued i) t.held t.waiting t.are (q.steps i t.held tt t.there) (λ f is. early i t.held f t.there is))

      found : (i : ℕ) (l : LinkNo) → sim_link S.started S.scenario i ≡ Some l → last_read l (log ++ entries) ≡ Some (NotHeard l)
      found i l linked = let g = q.channels i l linked in subst (λ (k : LinkNo). last_read k (log ++ entries) ≡ Some (NotHeard k)) g.link (g.in_step.parked (tried.2 i g.channel g.there).0).heard_all

  pub napped : (rose : Type 0) (more : List LogEntry) (r : Result (Unit {0}) Outcome) → (rose → risen) → NapsAs r more rose → AttendsAs r told (entries ++ more) risen core C W core D W
  napped rose more (Ok done) up nap = (going, λ S log u just. subst (λ (l : List LogEntry). GoesOn S core l D W) (append_assoc log entries (Nap ∷ []) ∙ ap (λ (n : List LogEntry). log ++ (entries ++ n)) (sym nap)) (naps_on S log u just))
  napped rose more (Err end) up nap = λ S log u just. subst (λ (e : Outcome). IsStopping risen S core (log ++ (entries ++ more)) D W (pace.Outcome e)) (sym nap.1)
      (subst (λ (l : List LogEntry). IsStopping risen S core (log ++ l) D W (pace.Outcome outcome.Fleet)) (sym (append_nil entries) ∙ ap (λ (n : List LogEntry). entries ++ n) (sym nap.0))
      (fleet_ends risen S core (log ++ entries) D W (around S log u) waits (up nap.2)))

-- the clock doesn't go back while the fleet sleeps
pub napped_rises : (r : Result (Unit {0}) Outcome) (more : List LogEntry) (rose : Type 0) (old new : Option (List LogEntry)) → NapsAs r more rose → Adds more old new → RisesOn old new
napped_rises (Ok done) more rose old new nap adds = nap_rises old new (subst (λ (l : List LogEntry). Adds l old new) nap adds)
napped_rises (Err end) more rose old new nap adds = clockless_rises [] old new tt (subst (λ (l : List LogEntry). Adds l old new) nap.0 adds)

-- ---- behind a reading

-- what was due was sent
pub passed : (some all : Type 0) (told : ℕ) (core new : CoreState) (entries : List LogEntry) (C D E : CrewSeen) (W V U : WaitingSeen) → (some → all) → SendsDueAs (Ok tt) told core C W D V → AttendsAs (Ok tt) told entries some core D V new E U → PassesAs (Ok tt) told entries all core C W new E U
passed some all told core new entries C D E W V U up sent t = (t.0, λ S log u just. t.1 S log (sent.1 S log u just) just)

pub passed_end : (some all : Type 0) (told : ℕ) (core new : CoreState) (entries : List LogEntry) (C D E : CrewSeen) (W V U : WaitingSeen) (end : Outcome) → (some → all) → SendsDueAs (Ok tt) told core C W D V → AttendsAs (Err end) told entries some core D V new E U
    → PassesAs (Err (pace.Outcome end)) told entries all core C W new E U
passed_end some all told core new entries C D E W V U end up sent t = λ S log u just. stopping_by some all S new (log ++ entries) E U (pace.Outcome end) up (t S log (sent.1 S log u just) just)

-- or the run ended there
pub unsent_end : (risen : Type 0) (told : ℕ) (core : CoreState) (C D : CrewSeen) (W V : WaitingSeen) (end : PaceEnd) → SendsDueAs (Err end) told core C W D V → PassesAs (Err end) told [] risen core C W core D V
unsent_end risen told core C D W V end sent = λ S log u just. subst (λ (l : List LogEntry). IsStopping risen S core l D V end) (sym (append_nil log)) (stopping_by ⊥ risen S core log D V end (λ e. absurd e) (sent S log u just))

-- ---- a turn

-- the clock was looked at
pub told_on : (S : Setting) (core : CoreState) (log : List LogEntry) (C : CrewSeen) (W : WaitingSeen) (told : ℕ) → GoesOn S core log C W → GoesOn S core (log ++ Told told ∷ []) C W
told_on S core log C W told u = reads S W.tempo W.strict core.plan core.entries log (crew_of C) C.sims W.holds W.moments u told

pub turned : (some all : Type 0) (told : ℕ) (old new : CoreState) (entries : List LogEntry) (C E : CrewSeen) (W U : WaitingSeen) (r : Result (Unit {0}) PaceEnd) → (some → all) → PassesAs r told entries some old C W new E U → TurnsAs r (Told told ∷ [] ++ entries) all old C W new E U
turned some all told old new entries C E W U (Ok done) up t = (t.0, λ S log u. subst (λ (l : List LogEntry). GoesOn S new l E U) (append_assoc log (Told told ∷ []) entries) (t.1 S (log ++ Told told ∷ []) (told_on S old log C W told u) (log, refl)))
turned some all told old new entries C E W U (Err end) up t = λ S log u. subst (λ (l : List LogEntry). IsStopping all S new l E U end) (append_assoc log (Told told ∷ []) entries)
    (stopping_by some all S new ((log ++ Told told ∷ []) ++ entries) E U end up (t S (log ++ Told told ∷ []) (told_on S old log C W told u) (log, refl)))

-- the clock failed
pub untold_end : (risen : Type 0) (core : CoreState) (C : CrewSeen) (W : WaitingSeen) → risen → Waits core → TurnsAs (Err (pace.Outcome outcome.Fleet)) [] risen core C W core C W
untold_end risen core C W rose waits = λ S log u. subst (λ (l : List LogEntry). IsStopping risen S core l C W (pace.Outcome outcome.Fleet)) (sym (append_nil log)) (fleet_ends risen S core log C W u waits rose)

-- and whoever was ready then was asked
pub asked_then : (risen : Type 0) (old mid new : CoreState) (entries : List LogEntry) (C D : CrewSeen) (W V U : WaitingSeen) → TurnsAs (Ok tt) entries risen old C W mid D V → AsksAs (Ok tt) mid V new U → TurnsAs (Ok tt) entries risen old C W new D U
asked_then risen old mid new entries C D W V U t asked = (asked.0, λ S log u. asked.2 S (log ++ entries) D (t.1 S log u))

-- or the run ended meanwhile
pub asked_end : (risen : Type 0) (old mid new : CoreState) (entries : List LogEntry) (C D : CrewSeen) (W V U : WaitingSeen) (end : Outcome) → TurnsAs (Ok tt) entries risen old C W mid D V → AsksAs (Err end) mid V new U → TurnsAs (Err (pace.Outcome end)) entries risen old C W new D U
asked_end risen old mid new entries C D W V U end t asked = λ S log u. stopping_by ⊥ risen S new (log ++ entries) D U (pace.Outcome end) (λ e. absurd e) (asked S (log ++ entries) D (t.1 S log u))

-- ---- turns one after another

-- by these entries the run has gone on
pub record Gone (old new : CoreState) (C D : CrewSeen) (W V : WaitingSeen) (before after : Option (List LogEntry)) : Type 0 where
  pub entries : List LogEntry
  pub adds : Adds entries before after
  pub goes : (S : Setting) (log : List LogEntry) → GoesOn S old log C W → GoesOn S new (log ++ entries) D V

-- whoever was ready at first was asked
pub begun : (old new : CoreState) (C : CrewSeen) (W V : WaitingSeen) (log : Option (List LogEntry)) → AsksAs (Ok tt) old W new V → Gone old new C C W V log log
begun old new C W V log asked = record { entries = []; adds = adds_none log; goes = λ S l u. subst (λ (k : List LogEntry). GoesOn S new k C V) (sym (append_nil l)) (asked.2 S l C u) }

-- or the run ended there
pub begun_end : (risen : Type 0) (old new : CoreState) (C : CrewSeen) (W V : WaitingSeen) (end : Outcome) → AsksAs (Err end) old W new V → TurnsAs (Err (pace.Outcome end)) [] risen old C W new C V
begun_end risen old new C W V end asked = λ S log u. subst (λ (l : List LogEntry). IsStopping risen S new l C V (pace.Outcome end)) (sym (append_nil log)) (stopping_by ⊥ risen S new log C V (pace.Outcome end) (λ e. absurd e) (asked S log C u))

pub gone_on : (old mid new : CoreState) (C D E : CrewSeen) (W V U : WaitingSeen) (first second third : Option (List LogEntry)) (more : List LogEntry) → Gone old mid C D W V first second → Adds more second third
    → ((S : Setting) (log : List LogEntry) → GoesOn S mid log D V → GoesOn S new (log ++ more) E U) → Gone old new C E W U first third
gone_on old mid new C D E W V U first second third more one adds goes = record {
  entries = one.entries ++ more;
  adds = adds_more one.entries more first second third one.adds adds;
  goes = λ S log u. subst (λ (k : List LogEntry). GoesOn S new k E U) (append_assoc log one.entries more) (goes S (log ++ one.entries) (one.goes S log u));
}

pub gone_to_end : (some all : Type 0) (old mid new : CoreState) (C D E : CrewSeen) (W V U : WaitingSeen) (first second third : Option (List LogEntry)) (more : List LogEntry) (end : PaceEnd) → (some → all) → Gone old mid C D W V first second → Adds more second third
    → TurnsAs (Err end) more some mid D V new E U → (entries : List LogEntry) × Adds entries first third × TurnsAs (Err end) entries all old C W new E U
gone_to_end some all old mid new C D E W V U first second third more end rises one adds ends = (
  one.entries ++ more,
  adds_more one.entries more first second third one.adds adds,
  (λ S log u. subst (λ (k : List LogEntry). IsStopping all S new k E U end) (append_assoc log one.entries more) (stopping_by some all S new ((log ++ one.entries) ++ more) E U end rises (ends S (log ++ one.entries) (one.goes S log u)))),
)
