-- What a run comes to, by each of its outcomes.
use Rattle.std.proofs.Common.{◌≡◌, ◌⊎◌, inl, inr, ℕ, ◌<◌, List, [], ◌∷◌, ◌++◌, length, Option, Some, None, refl, sym, ap, ◌∙◌, subst}
use Rattle.mk_base.specs.declared.LinkNo.{LinkNo}
use Rattle.mk_base.specs.declared.SimNo.{SimNo}
use Rattle.mk_base.specs.Lists.{IsIn}
use Rattle.mk_base.proofs.Lists.{some_same, none_some, append_nil, in_back}
use Rattle.mk_plan.specs.declared.Plan.{Plan}
use Rattle.mk_plan.specs.declared.Item.{Item}
use Rattle.mk_plan.specs.declared.Message.{Message}
use Rattle.mk_plan.specs.declared.Entry.{Entry}
use Rattle.mk_plan.specs.declared.Entry.TheVariants.{Sent, Got}
use Rattle.mk_plan.specs.Plans.{sim_count, first_id}
use Rattle.mk_plan.specs.Journals.{sent, got, view}
use Rattle.mk_plan.specs.Sequential.{id_after}
use Rattle.mk_message.specs.Written.{item_text}
use Rattle.mk_frame.specs.Frames.{IsTooLong, limit}
use Rattle.mk_outside.specs.declared.fleet.LogEntry.{LogEntry}
use Rattle.mk_outside.specs.declared.fleet.LogEntry.TheVariants.{Ended}
use Rattle.mk_outside.specs.Logs.{is_read}
use Rattle.mk_session.specs.Fronts.{BeginsGarbled}
use Rattle.mk_sched.specs.declared.faults.CoreFault.{CoreFault}
use Rattle.mk_sched.specs.declared.faults.CoreFault.TheVariants.{TooLong}
use Rattle.mk_sched.specs.Cores.{CoreState, Stands}
use Rattle.mk_sched.specs.Answers as sched
use Rattle.mk_sched.specs.Answers.{SomeReady, SomeOpen, IsOver, IsOutOfMemory, IsFaulty, IsUntaken, IsUnanswered, WasFaulty, fault_in}
use Rattle.mk_run_laws.specs.Hearing.{first_message}
use Rattle.mk_run_laws.specs.Handshake.{setup_count, setup_payloads, sim_link, is_within}
use Rattle.mk_run_laws.specs.Payloads.{item_payloads}
use Rattle.mk_run_laws.specs.Channels.{Channel, IsChannelAt, IsMoved}
use Rattle.mk_run_laws.specs.Crews.{CrewState, channel_at, IsMovedAt, IsHeard, IsUnheard}
use Rattle.mk_run_laws.specs.Running.{RestsEnd}
use Rattle.mk_run_laws.specs.inner.Running.{HasChannel, IsRunningWith}
use Rattle.mk_run_laws.proofs.Moving.{channel_moved}
use Rattle.mk_run_laws.proofs.Stepping.{over_ends, rests_at_end, got_sent, sent_got}
use Rattle.mk_run_laws.proofs.Taking.{unfinished_none, long_none, none_first, garbled_none}
use Rattle.mk_run_links.specs.declared.answers.LinkHalt.{LinkHalt}
use Rattle.mk_run_links.specs.declared.answers.LinkHalt.TheVariants as link_halt
use Rattle.mk_run_links.specs.Crews.{IsLengthOf}
use Rattle.mk_run_links.specs.Entries.{AreOn}
use Rattle.mk_run_links.specs.Halts.{ShowsHalt}
use Rattle.mk_run_links.specs.Places.{IsChannelLink}
use Rattle.mk_run_links.proofs.OnEntries.{on_run}
use Rattle.mk_run_crew.specs.declared.halt.Halt.{Halt}
use Rattle.mk_run_crew.specs.declared.halt.Halt.TheVariants as halt
use Rattle.mk_run_crew.specs.Seen.{CrewSeen, crew_of}
use Rattle.mk_run_crew.specs.Calls.{ShowsUnsent, halt_of}
use Rattle.mk_run.specs.declared.outcome.Outcome.{Outcome}
use Rattle.mk_run.specs.declared.outcome.Outcome.TheVariants as outcome
use Rattle.mk_onlooker.specs.Showings.{AreInRange}
use Rattle.mk_run.specs.Ends.{QueuedAll, IsAwaiting, IsBrokenOff, IsLongItem, fault_named}
use Rattle.mk_sched.specs.inner.Patient.{IsPatient}
use Rattle.mk_run.specs.inner.Underway.{Setting, reply_in, Suits, HasNoOther, IsLogRight, IsUnderway, HasHeard, IsLastChannel, HasGiven, EndsBy, HasEnded}
use Rattle.mk_run.specs.Outcomes.{outcome_of}
use Rattle.mk_run.specs.inner.Sendings.{IsUnsent}
use Rattle.mk_run.proofs.Going.{log_right_on}
use Rattle.mk_run.proofs.Hearing.{heard_fits, heard_left, heard_running, heard_no_other, heard_log_right}
use Rattle.mk_run.proofs.Linked.{no_other_moved}
use Rattle.mk_sched.proofs.Pushed.{fault_after_sent, patient_sent, patient_got}
use Rattle.mk_run.proofs.Pushed.{kinds_sent, range_sent, range_got, sent_front, got_front, rests_longer}
use Rattle.mk_run.proofs.ChannelsStopped.{begins_itself}
use Rattle.mk_run_crew.proofs.Halting.{last_in}

pub queued_itself : (end : Outcome) (items : List Item) → QueuedAll end items items
queued_itself outcome.Done items = refl
queued_itself (outcome.Setup f) items = refl
queued_itself (outcome.Core f) items = refl
queued_itself outcome.Fleet items = refl
queued_itself (outcome.Gone i) items = refl
queued_itself (outcome.Garbled i n) items = refl
queued_itself (outcome.LongFrame i n) items = refl
queued_itself (outcome.LongItem i n) items = tt
queued_itself outcome.Mem items = tt

-- a halt of the crew names no fault of a journal
pub none_named : (h : Halt) → fault_named (outcome_of h) ≡ None
none_named (halt.Setup f) = refl
none_named halt.Fleet = refl
none_named (halt.Gone i) = refl
none_named (halt.Garbled i n) = refl
none_named (halt.LongFrame i n) = refl
none_named (halt.LongItem i n) = refl
none_named halt.Mem = refl

-- nor does the limit of entries
pub limit_unnamed : (f : CoreFault) (n : ℕ) → f ≡ TooLong n → None ≡ fault_named (outcome.Core f)
limit_unnamed f n is = sym (ap fault_in is)

module _ (T : Setting) where
  -- channels in step with the journal
  channels_in_step : (end : Outcome) (J : List Entry) (log : List LogEntry) (C : CrewState) → ((i : ℕ) (l : LinkNo) → sim_link T.started T.scenario i ≡ Some l → HasChannel T.scenario T.replies log i l (got J i) (sent J i) C)
      → (i : ℕ) (l : LinkNo) → sim_link T.started T.scenario i ≡ Some l → IsLastChannel T J log C end i l
  channels_in_step end J log C channels i l linked = record {
    messages = got J i;
    items = sent J i;
    channel = channels i l linked;
    given = begins_itself (got J i);
    queued = begins_itself (sent J i);
    queued_all = queued_itself end (sent J i);
  }

  -- the run ends where it is
  pub ends_here : (risen : Type 0) (P : Plan) (J : List Entry) (log : List LogEntry) (C : CrewState) (sims : _) (end : Outcome) → IsUnderway T P J log C sims → None ≡ fault_named end → (IsBrokenOff end → IsAwaiting P J) → EndsBy risen T P J log C end → HasEnded risen T P J log C end
  ends_here risen P J log C sims end u unnamed unfinished ends = record {
    suits = u.suits;
    stands = u.stands;
    patient = u.patient;
    in_range = u.in_range;
    kinds = u.running.kinds;
    channels = channels_in_step end J log C u.running.channels;
    no_other = u.no_other;
    rests = over_ends T.started T.scenario T.replies (reply_in T) P J log u.running.rests;
    log_right = u.log_right;
    ends = ends;
    fault = u.no_fault ∙ unnamed;
    unfinished = unfinished;
  }

  -- nothing is left to do
  pub done_ends : (risen : Type 0) (old new : CoreState) (log : List LogEntry) (C : CrewState) (sims : _) → IsUnderway T old.plan old.entries log C sims → IsOver old new → HasEnded risen T new.plan new.entries log C outcome.Done
  done_ends risen old new log C sims u o = subst (λ (c : CoreState). HasEnded risen T c.plan c.entries log C outcome.Done) (sym o.same) (ends_here risen old.plan old.entries log C sims outcome.Done u refl (λ broken. absurd broken) o.done)

  -- there is no room for a Step
  pub full_ends : (risen : Type 0) (old new : CoreState) (f : CoreFault) (log : List LogEntry) (C : CrewState) (sims : _) → old.ended ≡ None → IsUnderway T old.plan old.entries log C sims → WasFaulty old f new ⊎ sched.IsFull old f new
      → HasEnded risen T new.plan new.entries log C (outcome.Core f)
  full_ends risen old new f log C sims going u (inl was) = absurd (none_some (sym going ∙ was.0))
  full_ends risen old new f log C sims going u (inr full) = subst (λ (c : CoreState). HasEnded risen T c.plan c.entries log C (outcome.Core f)) (sym full.ended)
      (ends_here risen old.plan old.entries log C sims (outcome.Core f) u (limit_unnamed f old.plan.entries full.named) (λ broken. absurd broken) (inr (record { named = full.named; full = full.full; no_fault = u.no_fault; more = inr (inl full.ready) })))

  -- the core wants memory for what is next
  pub mem_ends : (risen : Type 0) (old new : CoreState) (log : List LogEntry) (C : CrewState) (sims : _) → IsUnderway T old.plan old.entries log C sims → IsOutOfMemory old new → HasEnded risen T new.plan new.entries log C outcome.Mem
  mem_ends risen old new log C sims u o = subst (λ (c : CoreState). HasEnded risen T c.plan c.entries log C outcome.Mem) (sym o.ended) (ends_here risen old.plan old.entries log C sims outcome.Mem u refl (λ broken. absurd broken) tt)

  -- ---- an item wasn't sent

  module _ (risen : Type 0) (awaits : ℕ → List Message) (P : Plan) (K : List Entry) (log : List LogEntry) (C : CrewSeen) (s : SimNo) (item : Item) (suits : Suits T P) (low : s.0 < sim_count P) (stands : Stands P (K ++ Sent s item ∷ [])) (patient : IsPatient P K) (fits : AreInRange K) (fine : (view P K).fault ≡ None)
      (run : IsRunningWith awaits T.started T.scenario T.replies (reply_in T) P K log (crew_of C)) (no_other : HasNoOther T (crew_of C)) (right : IsLogRight T log) where
    long_item : (n : ℕ) → IsLengthOf n item s.0 C.channels → limit < n → IsLongItem T.started T.scenario P (K ++ Sent s item ∷ []) s.0 n
    long_item n size beyond =
        let t = no_other s.0 size.0 size.1 in
        let g = run.channels s.0 t.0 t.1 in
        let same : g.channel ≡ size.0 = some_same (sym g.there ∙ size.1) in
        let next : size.0.next ≡ id_after (first_id P s.0) (sent K s.0) = ap (λ (w : Channel). w.next) (sym same) ∙ g.in_step.next_id ∙ ap (λ (k : ℕ). id_after k (sent K s.0)) (sym (suits.first s.0 low)) in
        record {
          before = K;
          sim = s;
          item = item;
          is = refl;
          to = refl;
          link = t.0;
          linked = t.1;
          bytes = ap (λ (k : ℕ). length (item_text k item)) (sym next) ∙ sym size.2;
          beyond = beyond;
        }

    by_halt : (h : Halt) → ShowsUnsent h s.0 item C
        → ((i : ℕ) → QueuedAll (outcome_of h) (sent (K ++ Sent s item ∷ []) i) (sent K i)) × (IsBrokenOff (outcome_of h) → IsAwaiting P (K ++ Sent s item ∷ [])) × EndsBy risen T P (K ++ Sent s item ∷ []) log (crew_of C) (outcome_of h)
    by_halt (halt.Setup fault) shown = absurd shown
    by_halt halt.Fleet shown = absurd shown
    by_halt (halt.Gone sim) shown = absurd shown
    by_halt (halt.Garbled sim test) shown = absurd shown
    by_halt (halt.LongFrame sim n) shown = absurd shown
    by_halt (halt.LongItem sim n) shown = ((λ i. tt), (λ broken. absurd broken), subst (λ (i : ℕ). IsLongItem T.started T.scenario P (K ++ Sent s item ∷ []) i n) (sym shown.0) (long_item n shown.2 shown.3))
    by_halt halt.Mem shown = ((λ i. tt), (λ broken. absurd broken), tt)

    pub unsent_ends : (end : Outcome) → IsUnsent end s.0 item C → HasEnded risen T P (K ++ Sent s item ∷ []) log (crew_of C) end
    unsent_ends end why = subst (HasEnded risen T P (K ++ Sent s item ∷ []) log (crew_of C)) (sym why.1) (record {
      suits = suits;
      stands = stands;
      patient = patient_sent P K s item patient;
      in_range = range_sent K s item fits;
      kinds = kinds_sent (reply_in T) (is_within T.scenario) P K s item run.kinds;
      channels = λ i l linked. record {
        messages = got K i;
        items = sent K i;
        channel = run.channels i l linked;
        given = ([], sym (got_sent K s item i) ∙ sym (append_nil (got (K ++ Sent s item ∷ []) i)));
        queued = sent_front K (Sent s item) i;
        queued_all = (by_halt why.0 why.2).0 i;
      };
      no_other = no_other;
      rests = rests_longer T.started T.scenario T.replies P K (Sent s item) log run.rests;
      log_right = right;
      ends = (by_halt why.0 why.2).2;
      fault = fault_after_sent P K s item fine ∙ sym (none_named why.0);
      unfinished = (by_halt why.0 why.2).1;
    })

  -- ---- a message wasn't taken, or made a fault

  module _ (risen : Type 0) (core new : CoreState) (log : List LogEntry) (s : SimNo) (m : Message) (D : CrewState) (sims : _) (h : HasHeard T core.plan core.entries log s.0 m D sims) where
    u : IsUnderway T core.plan core.entries h.before h.crew sims
    u = h.underway

    rests_before : RestsEnd T.started T.scenario T.replies core.plan core.entries log
    rests_before = subst (RestsEnd T.started T.scenario T.replies core.plan core.entries) (sym h.parts) (go h.heard)
      where
        go : IsHeard h.entries s.0 m h.crew D → RestsEnd T.started T.scenario T.replies core.plan core.entries (h.before ++ h.entries)
        go (IsHeard.kept is channels none) = subst (RestsEnd T.started T.scenario T.replies core.plan core.entries) (sym (append_nil h.before) ∙ ap (λ (e : List LogEntry). h.before ++ e) (sym none))
            (over_ends T.started T.scenario T.replies (reply_in T) core.plan core.entries h.before u.running.rests)
        go (IsHeard.on_link none after w there moved parked) = rests_at_end T.started T.scenario T.replies (reply_in T) core.plan core.entries h.before h.entries h.crew u.running (λ i x ready. h.nobody (i, x, ready)) none parked

    -- the core hasn't taken it
    pub untaken_ends : (end : Outcome) → None ≡ fault_named end → (IsBrokenOff end → IsAwaiting core.plan core.entries) → EndsBy risen T core.plan core.entries log D end → HasEnded risen T core.plan core.entries log D end
    untaken_ends end unnamed unfinished ends = record {
      suits = u.suits;
      stands = u.stands;
      patient = u.patient;
      in_range = u.in_range;
      kinds = u.running.kinds;
      channels = λ i l linked. record {
        messages = got (core.entries ++ Got s m ∷ []) i;
        items = sent (core.entries ++ Got s m ∷ []) i;
        channel = (heard_running T core.plan core.entries log s m D sims h).channels i l linked;
        given = got_front core.entries (Got s m) i;
        queued = ([], sym (sent_got core.entries s m i) ∙ sym (append_nil (sent (core.entries ++ Got s m ∷ []) i)));
        queued_all = subst (QueuedAll end (sent core.entries i)) (sym (sent_got core.entries s m i)) (queued_itself end (sent core.entries i));
      };
      no_other = heard_no_other T core.plan core.entries log s m D sims h;
      rests = rests_before;
      log_right = heard_log_right T core.plan core.entries log s m D sims h;
      ends = ends;
      fault = u.no_fault ∙ unnamed;
      unfinished = unfinished;
    }

    -- it is the journal's last entry
    pub faulty_ends : (end : Outcome) → Stands core.plan (core.entries ++ Got s m ∷ []) → (view core.plan (core.entries ++ Got s m ∷ [])).fault ≡ fault_named end → (IsBrokenOff end → IsAwaiting core.plan (core.entries ++ Got s m ∷ [])) → EndsBy risen T core.plan (core.entries ++ Got s m ∷ []) log D end → HasEnded risen T core.plan (core.entries ++ Got s m ∷ []) log D end
    faulty_ends end stands fault unfinished ends = record {
      suits = u.suits;
      stands = stands;
      patient = patient_got core.plan core.entries s m u.patient h.nobody;
      in_range = range_got core.entries s m u.in_range (heard_fits T core.plan core.entries log s m D sims h);
      kinds = (heard_running T core.plan core.entries log s m D sims h).kinds;
      channels = channels_in_step end (core.entries ++ Got s m ∷ []) log D (heard_running T core.plan core.entries log s m D sims h).channels;
      no_other = heard_no_other T core.plan core.entries log s m D sims h;
      rests = over_ends T.started T.scenario T.replies (reply_in T) core.plan (core.entries ++ Got s m ∷ []) log (heard_running T core.plan core.entries log s m D sims h).rests;
      log_right = heard_log_right T core.plan core.entries log s m D sims h;
      ends = ends;
      fault = fault;
      unfinished = unfinished;
    }

    pub fault_ends : (f : CoreFault) → core.ended ≡ None → Stands new.plan new.entries → WasFaulty core f new ⊎ (IsUntaken core f new ⊎ (IsFaulty core s m f new ⊎ IsUnanswered core s m f new)) → HasEnded risen T new.plan new.entries log D (outcome.Core f)
    fault_ends f going stands (inl was) = absurd (none_some (sym going ∙ was.0))
    fault_ends f going stands (inr (inl un)) = subst (λ (c : CoreState). HasEnded risen T c.plan c.entries log D (outcome.Core f)) (sym un.ended) (untaken_ends (outcome.Core f) (limit_unnamed f core.plan.entries un.named) (λ broken. absurd broken)
        (inr (record { named = un.named; full = un.full; no_fault = u.no_fault; more = inr (inr (heard_left T core.plan core.entries log s m D sims h, (h.opened, h.nobody))) })))
    fault_ends f going stands (inr (inr (inl bad))) = subst (λ (c : CoreState). HasEnded risen T c.plan c.entries log D (outcome.Core f)) (sym bad.ended)
        (faulty_ends (outcome.Core f) (subst (λ (c : CoreState). Stands c.plan c.entries) bad.ended stands) bad.made (λ broken. absurd broken)
        (inl (record { before = core.entries; sim = s; message = m; is = refl; right_before = u.no_fault; named = bad.named; fault = bad.made })))
    fault_ends f going stands (inr (inr (inr un))) = subst (λ (c : CoreState). HasEnded risen T c.plan c.entries log D (outcome.Core f)) (sym un.ended)
        (faulty_ends (outcome.Core f) (subst (λ (c : CoreState). Stands c.plan c.entries) un.ended stands) (un.no_fault ∙ limit_unnamed f core.plan.entries un.named) (λ broken. absurd broken) (inr (record { named = un.named; full = un.full; no_fault = un.no_fault; more = inl un.owed })))

    pub untaken_for_memory : IsOutOfMemory core new → HasEnded risen T new.plan new.entries log D outcome.Mem
    untaken_for_memory o = subst (λ (c : CoreState). HasEnded risen T c.plan c.entries log D outcome.Mem) (sym o.ended) (untaken_ends outcome.Mem refl (λ broken. absurd broken) tt)

  -- ---- nothing was heard

  module _ (risen : Type 0) (P : Plan) (J : List Entry) (log entries : List LogEntry) (C D : CrewSeen) (u : IsUnderway T P J log (crew_of C) C.sims) (nobody : SomeReady P J → ⊥) (opened : SomeOpen P J) (un : IsUnheard entries (crew_of C) (crew_of D)) where
    still_there : (o p : Option Channel) (w : Channel) → o ≡ Some w → IsMovedAt entries [] o p → (v : Channel) × (p ≡ Some v) × IsMoved entries [] w v
    still_there None p w e moved = absurd (none_some e)
    still_there (Some x) None w e moved = absurd moved
    still_there (Some x) (Some v) w e moved = (v, refl, subst (λ (y : Channel). IsMoved entries [] y v) (some_same e) moved)

    channel_now : (i : ℕ) (l : LinkNo) → sim_link T.started T.scenario i ≡ Some l → HasChannel T.scenario T.replies (log ++ entries) i l (got J i) (sent J i) (crew_of D)
    channel_now i l linked =
        let g = u.running.channels i l linked in
        let t = still_there (channel_at (crew_of C) i) (channel_at (crew_of D) i) g.channel g.there (un.moved i) in
        record {
          channel = t.0;
          there = t.1;
          link = t.2.link ∙ g.link;
          in_step = subst (λ (ms : List Message). IsChannelAt (log ++ entries) ms (setup_payloads T.scenario i ++ item_payloads (setup_count T.scenario i) (sent J i)) (id_after (setup_count T.scenario i) (sent J i)) t.0) (append_nil (T.replies i ++ got J i))
              (channel_moved log entries (T.replies i ++ got J i) [] (setup_payloads T.scenario i ++ item_payloads (setup_count T.scenario i) (sent J i)) (id_after (setup_count T.scenario i) (sent J i)) g.channel t.0 g.in_step t.2);
        }

    no_other_now : HasNoOther T (crew_of D)
    no_other_now = no_other_moved T entries (λ i. []) (crew_of C) (crew_of D) un.moved u.no_other

    given_now : (i : ℕ) (w : Channel) → channel_at (crew_of D) i ≡ Some w → first_message w.held ≡ None → (l : LinkNo) × (g : HasGiven T J (log ++ entries) (crew_of D) i l) × (g.channel.channel ≡ w)
    given_now i w there none =
        let t = no_other_now i w there in
        let g = channel_now i t.0 t.1 in
        let same : g.channel ≡ w = some_same (sym g.there ∙ there) in
        (t.0, record { linked = t.1; channel = g; none_held = ap (λ (v : Channel). first_message v.held) same ∙ none }, same)

    by_link : (why : LinkHalt) → (why ≡ link_halt.Fleet → risen) → ShowsHalt why entries D.channels → EndsBy risen T P J (log ++ entries) (crew_of D) (outcome_of (halt_of why))
    by_link link_halt.Fleet cause shown = cause refl
    by_link (link_halt.Gone sim) cause shown =
        let w = shown.0 in
        let t = given_now sim.0 w shown.1 (none_first w.held (unfinished_none w.held shown.2.0)) in
        let l_is : w.link ≡ t.0 = ap (λ (v : Channel). v.link) (sym t.2) ∙ t.1.channel.link in
        (t.0, t.1, in_back (Ended t.0) log entries (subst (λ (l : LinkNo). IsIn (Ended l) entries) l_is (last_in (is_read w.link) entries (Ended w.link) shown.2.1)))
    by_link (link_halt.Garbled sim test) cause shown =
        let w = shown.0 in
        let b = shown.2 in
        let t = given_now sim.0 w shown.1 (garbled_none w.held b.0 b.1 test b.3 b.2) in
        (t.0, t.1, subst (λ (v : Channel). BeginsGarbled v.held test) (sym t.2) b)
    by_link (link_halt.LongFrame sim n) cause shown =
        let w = shown.0 in
        let t = given_now sim.0 w shown.1 (none_first w.held (long_none w.held n shown.2)) in
        (t.0, t.1, subst (λ (v : Channel). IsTooLong n v.held) (sym t.2) shown.2)
    by_link link_halt.Mem cause shown = tt

    pub unheard_ends : (why : LinkHalt) → (why ≡ link_halt.Fleet → risen) → ShowsHalt why entries D.channels → AreOn (IsChannelLink C.channels) entries → HasEnded risen T P J (log ++ entries) (crew_of D) (outcome_of (halt_of why))
    unheard_ends why cause shown on_links = record {
      suits = u.suits;
      stands = u.stands;
      patient = u.patient;
      in_range = u.in_range;
      kinds = u.running.kinds;
      channels = channels_in_step (outcome_of (halt_of why)) J (log ++ entries) (crew_of D) channel_now;
      no_other = no_other_now;
      rests = rests_at_end T.started T.scenario T.replies (reply_in T) P J log entries (crew_of C) u.running (λ i x ready. nobody (i, x, ready)) un.none_kept un.parked;
      log_right = log_right_on T P J log entries (crew_of C) u.suits u.running u.log_right (on_run T.started T.scenario C.channels entries (λ i l linked. let h = u.running.channels i l linked in (h.channel, h.there, h.link)) u.no_other on_links);
      ends = by_link why cause shown;
      fault = u.no_fault ∙ sym (none_named (halt_of why));
      unfinished = λ broken. (opened, nobody);
    }
