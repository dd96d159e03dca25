-- A handshake that ends early: what is on the channels then, and what shows why.
use Rattle.std.proofs.Common.{◌≡◌, ℕ, suc, ◌==◌, Bool, true, false, List, [], ◌∷◌, ◌++◌, length, take, drop, filter_map, Some, None, slice_get, refl, sym, ap, ◌∙◌, subst, ◌⊎◌, inl, inr, append_assoc, true≢false, if◌then◌else◌}
use Rattle.std.specs.List.{cons_option}
use Rattle.mk_base.specs.declared.LinkNo.{LinkNo}
use Rattle.mk_base.specs.Lists.{IsIn, BeginsWith}
use Rattle.mk_base.proofs.Lists.{none_some, some_same, append_nil, in_back}
use Rattle.mk_frame.specs.Frames.{IsTooLong, frames_of}
use Rattle.mk_message.specs.Written.{call_text}
use Rattle.mk_outside.specs.declared.fleet.LogEntry.{LogEntry}
use Rattle.mk_outside.specs.declared.fleet.LogEntry.TheVariants.{Rest, Ended}
use Rattle.mk_outside.specs.Logs.{heard_on, said_on, last_that, later_of, is_read}
use Rattle.mk_plan.specs.declared.Message.{Message}
use Rattle.mk_plan.specs.Sequential.{Messages}
use Rattle.mk_scenario.specs.declared.parts.Scenario.{Scenario}
use Rattle.mk_run_crew.specs.Attempts.{attempt}
use Rattle.mk_local.specs.declared.turn.Turn.{Turn}
use Rattle.mk_session.specs.Fronts.{BeginsGarbled}
use Rattle.mk_run_laws.specs.Channels.{Channel, IsChannelAt, queued}
use Rattle.mk_run_laws.specs.Crews.{AreMoved, AreParkedAtRests, given_by, kept_of}
use Rattle.mk_run_laws.specs.Handshake.{Request, setup_requests, call_to, call_payloads, sim_link}
use Rattle.mk_run_laws.specs.Hearing.{messages_heard, rest_heard, first_message}
use Rattle.mk_run_laws.specs.Rests.{AllSetUp, IsWellInSetup}
use Rattle.mk_run_laws.specs.inner.Running.{IsBetween, IsSettingUp}
use Rattle.mk_run_laws.proofs.Moving.{channel_moved, moved_there, moved_back}
use Rattle.mk_run_laws.proofs.SettingUp.{well_in_setup, not_set_up}
use Rattle.mk_run_laws.proofs.Stepping.{first_or_second}
use Rattle.mk_run_laws.proofs.Taking.{taken_rest, none_heard, garbled_none, long_none, none_first}
use Rattle.mk_setup.specs.declared.fault.SetupFault.{SetupFault}
use Rattle.mk_setup.specs.declared.fault.SetupFault.TheVariants as fault
use Rattle.mk_setup.specs.Handshakes.{IsFaultyAfter}
use Rattle.mk_setup.specs.Requests.{id_before}
use Rattle.mk_run_links.specs.declared.answers.LinkHalt.{LinkHalt}
use Rattle.mk_run_links.specs.declared.answers.LinkHalt.TheVariants as link_halt
use Rattle.mk_run_links.specs.Halts.{ShowsHalt}
use Rattle.mk_run_links.specs.Places.{Channels, at, crew}
use Rattle.mk_run_crew.specs.declared.halt.Halt.{Halt}
use Rattle.mk_run_crew.specs.declared.halt.Halt.TheVariants as halt
use Rattle.mk_run_crew.specs.Answers.{answers_to}
use Rattle.mk_run_crew.specs.inner.Asking.{AreAt, AsksNot, AsksInVain, AsksWithin, AsksOnLink, IsAnswered, IsHalting, IsLongCall, setup_halt}
use Rattle.mk_run_crew.specs.Calls.{halt_of}
use Rattle.mk_run_crew.specs.Halted.{IsAskedUpTo, IsFoundAtOnce, RestRight, ShowsCause, count_to}
use Rattle.mk_run_crew.specs.Seen.{CrewSeen, is_here}
use Rattle.mk_run_crew.proofs.ButOne.{all_answered, channel_heard, heard_so_far, one_unanswered}
use Rattle.mk_run_crew.proofs.Going.{asked_on, heard_moved, heard_there, set_up_so, within_more, within_so}
use Rattle.mk_run_crew.proofs.Requests.{answers_pushed, count_pushed, cut_at, kinds_pushed}
use Rattle.mk_run_crew.proofs.Simulators.{linked_away}
use Rattle.mk_run_links.proofs.Standing.{set_back}

-- what is held is behind them, where no message is held
pub channel_rest : (log : List LogEntry) (ms : List Message) (payloads : List (List ℕ)) (next : ℕ) (w : Channel) (l : LinkNo) → w.link ≡ l → IsChannelAt log ms payloads next w → first_message w.held ≡ None → rest_heard (heard_on l log) ≡ w.held
channel_rest log ms payloads next w l same at none = ap (λ (k : LinkNo). rest_heard (heard_on k log)) (sym same) ∙ taken_rest (heard_on w.link log) ms w.held at.heard ∙ (none_heard w.held none).1

here_is : (b : Bool) (x e : LogEntry) → (if b then Some x else None) ≡ Some e → e ≡ x
here_is true x e q = sym (some_same q)
here_is false x e q = absurd (none_some q)

pub last_in : (test : LogEntry → Bool) (xs : List LogEntry) (e : LogEntry) → last_that test xs ≡ Some e → IsIn e xs
last_in test [] e is = absurd (none_some is)
last_in test (x ∷ xs) e is = elim (last_that test xs) as (λ o. last_that test xs ≡ o → later_of (if test x then Some x else None) o ≡ Some e → IsIn e (x ∷ xs)) [
  | None ↦ λ q r. inl (here_is (test x) x e r)
  | Some y ↦ λ q r. inr (last_in test xs e (q ∙ r))
] refl is

module _ (started : ℕ) (S : Scenario) (ranks : List ℕ) (rows : List Turn) where
  -- ---- between two requests

  channels_at : (replies : Messages) (log : List LogEntry) (L : Channels) (done later : List Request) → IsBetween started S replies log (crew L) done later → AreAt started S log done L
  channels_at replies log L done later b i l e = let t = b.channels i l e in (replies i, t.0, t.1, t.2, t.3)

  pub between_halts : (log : List LogEntry) (risen : Type 0) (h : Halt) (answers : List Message) (C : CrewSeen) → IsAnswered started S rows log answers C
      → ShowsCause (attempt started S ranks rows log) risen (take (length answers) (setup_requests S)) (drop (length answers) (setup_requests S)) h → IsHalting (attempt started S ranks rows log) risen h C
  between_halts log risen h answers C a cause = record {
    queued = take (length answers) (setup_requests S);
    later = drop (length answers) (setup_requests S);
    parts = (a.between).parts;
    channels = channels_at a.replies log C.channels (take (length answers) (setup_requests S)) (drop (length answers) (setup_requests S)) a.between;
    rests = (a.between).rests;
    cause = cause;
    answered = all_answered started S ranks rows log answers C a;
    back = a.back;
    on_links = a.on_links;
  }

  -- a fault is a cause, unless memory was wanting
  pub fault_causes : (log : List LogEntry) (risen : Type 0) (queued later : List Request) (e : SetupFault) → ((e ≡ fault.Mem → ⊥) → IsFoundAtOnce (attempt started S ranks rows log) queued e) → ShowsCause (attempt started S ranks rows log) risen queued later (setup_halt e)
  fault_causes log risen queued later (fault.Meta sim f) shown = shown (λ q. cc)
  fault_causes log risen queued later (fault.Create sim f) shown = shown (λ q. cc)
  fault_causes log risen queued later (fault.Connect f) shown = shown (λ q. cc)
  fault_causes log risen queued later (fault.Unasked sim) shown = shown (λ q. cc)
  fault_causes log risen queued later (fault.Failed sim text) shown = shown (λ q. cc)
  fault_causes log risen queued later fault.Mem shown = tt

  -- no later request was said than were queued
  asked_at : (log : List LogEntry) (k : ℕ) (L : Channels) → AreAt started S log (take k (setup_requests S)) L → IsAskedUpTo started S log k
  asked_at log k L at_log i l e =
      let t = at_log i l e in
      let frames = frames_of (call_payloads 0 (filter_map (call_to i) (take k (setup_requests S)))) in
      ((t.1).unsent, subst (λ (x : LinkNo). frames ≡ said_on x log ++ (t.1).unsent) t.3 (sym (t.4).said))

  -- the next request can't be made
  pub next_halts : (log : List LogEntry) (risen : Type 0) (answers : List Message) (C : CrewSeen) (e : SetupFault) → IsAnswered started S rows log answers C → ((e ≡ fault.Mem → ⊥) → IsFaultyAfter S ranks answers None e) → IsHalting (attempt started S ranks rows log) risen (setup_halt e) C
  next_halts log risen answers C e a faulty = between_halts log risen (setup_halt e) answers C a
      (fault_causes log risen (take (length answers) (setup_requests S)) (drop (length answers) (setup_requests S)) e (λ some. (
        record {
          answers = answers;
          last = None;
          faulty = faulty some;
          before = log;
          after = [];
          parts = sym (append_nil log);
          heard = heard_so_far started S ranks rows log answers C a;
          asked = asked_at log (length answers) C.channels (channels_at a.replies log C.channels (take (length answers) (setup_requests S)) (drop (length answers) (setup_requests S)) a.between);
        },
        refl,
      )))

  -- the next request isn't made
  pub unasked_halts : (log entries : List LogEntry) (risen : Type 0) (h : Halt) (answers : List Message) (C D : CrewSeen) (r : Request) (id : ℕ) → IsAnswered started S rows log answers C → slice_get (setup_requests S) (length answers) ≡ Some r
      → id ≡ id_before S (length answers) r.sim → (is_here C r.sim ≡ false → (l : LinkNo) × (sim_link started S r.sim ≡ Some l)) → AsksNot h r.sim r.call id entries C D → IsHalting (attempt started S ranks rows (log ++ entries)) risen h D
  unasked_halts log entries risen h answers C D r id a asked numbered linked n =
      subst (λ (x : List LogEntry). IsHalting (attempt started S ranks rows x) risen h D) (sym (ap (λ (x : List LogEntry). log ++ x) n.quiet ∙ append_nil log))
      (subst (λ (X : CrewSeen). IsHalting (attempt started S ranks rows log) risen h X) (sym n.same) (between_halts log risen h answers C a (cause n.cause)))
    where
      cause : (h ≡ halt.Mem) ⊎ ((is_here C r.sim ≡ false) × IsLongCall h r.sim r.call id) → ShowsCause (attempt started S ranks rows log) risen (take (length answers) (setup_requests S)) (drop (length answers) (setup_requests S)) h
      cause (inl e) = subst (ShowsCause (attempt started S ranks rows log) risen (take (length answers) (setup_requests S)) (drop (length answers) (setup_requests S))) (sym e) tt
      cause (inr t) = subst (ShowsCause (attempt started S ranks rows log) risen (take (length answers) (setup_requests S)) (drop (length answers) (setup_requests S))) (sym (t.1).is) (record {
        now = r;
        more = drop (suc (length answers)) (setup_requests S);
        first = (cut_at (length answers) r (setup_requests S) asked).1;
        sim = sym (t.1).same_sim;
        link = (linked t.0).0;
        linked = ap (sim_link started S) (t.1).same_sim ∙ (linked t.0).1;
        bytes = (t.1).length_is ∙ ap (λ (n : ℕ). length (call_text n r.call)) (numbered ∙ ap (id_before S (length answers)) (sym (t.1).same_sim));
        beyond = (t.1).beyond;
      })

  -- ---- behind a request on a link

  -- after a call that gave these messages
  pub moved_at : (replies : Messages) (log entries : List LogEntry) (given : ℕ → List Message) (M N : Channels) (done : List Request) (now : Request) (later : List Request) → IsSettingUp started S replies log (crew M) done now later → AreMoved entries given (crew M) (crew N)
      → (i : ℕ) (l : LinkNo) → sim_link started S i ≡ Some l
      → (w : Channel) × (at N i ≡ Some w) × (w.link ≡ l) × IsChannelAt (log ++ entries) (replies i ++ given i) (call_payloads 0 (filter_map (call_to i) (done ++ now ∷ []))) (count_to i (done ++ now ∷ [])) w
  moved_at replies log entries given M N done now later up moved i l e =
      let t = up.channels i l e in
      let v = moved_there entries (given i) (at M i) (at N i) t.0 t.1 (moved i) in
      (v.0, v.1, v.2.link ∙ t.2, channel_moved log entries (replies i) (given i) (call_payloads 0 (filter_map (call_to i) (done ++ now ∷ []))) (count_to i (done ++ now ∷ [])) t.0 v.0 t.3 v.2)

  rests_on : (replies : Messages) (log entries : List LogEntry) (M : Channels) (done : List Request) (now : Request) (later : List Request) → IsSettingUp started S replies log (crew M) done now later → RestRight started S log → AreParkedAtRests entries (crew M) → RestRight started S (log ++ entries)
  rests_on replies log entries M done now later up rests parked before after is = elim (first_or_second log entries before after Rest is) [
    | inl t ↦ rests before t.0 t.1
    | inr t ↦ subst (λ (b : List LogEntry). IsWellInSetup started S b × (AllSetUp started S b → ⊥)) (sym t.1)
        (well_in_setup started S replies log entries (crew M) done now later up parked t.0 after t.2, not_set_up started S replies log entries (crew M) done now later up parked t.0 after t.2)
  ]

  -- what the links show is the cause
  link_causes : (log entries : List LogEntry) (risen : Type 0) (queued later : List Request) (N : Channels) (why : LinkHalt) → ShowsHalt why entries N → AreAt started S (log ++ entries) queued N → ((i : ℕ) (w : Channel) → at N i ≡ Some w → (l : LinkNo) × (sim_link started S i ≡ Some l))
      → (why ≡ link_halt.Fleet → risen) → ShowsCause (attempt started S ranks rows (log ++ entries)) risen queued later (halt_of why)
  link_causes log entries risen queued later N link_halt.Fleet shown at_log back rose = rose refl
  link_causes log entries risen queued later N (link_halt.Gone sim) shown at_log back rose =
      let b = back sim.0 shown.0 shown.1 in
      let t = at_log sim.0 b.0 b.1 in
      let same : shown.0 ≡ t.1 = some_same (sym shown.1 ∙ t.2) in
      let link : (shown.0).link ≡ b.0 = ap (λ (x : Channel). x.link) same ∙ t.3 in
      (b.0, b.1, subst (λ (k : LinkNo). IsIn (Ended k) (log ++ entries)) link (in_back (Ended (shown.0).link) log entries (last_in (is_read (shown.0).link) entries (Ended (shown.0).link) (shown.2).1)))
  link_causes log entries risen queued later N (link_halt.Garbled sim test) shown at_log back rose =
      let b = back sim.0 shown.0 shown.1 in
      let t = at_log sim.0 b.0 b.1 in
      let same : shown.0 ≡ t.1 = some_same (sym shown.1 ∙ t.2) in
      let begins : BeginsGarbled (t.1).held test = subst (λ (x : Channel). BeginsGarbled x.held test) same shown.2 in
      let none : first_message (t.1).held ≡ None = garbled_none (t.1).held begins.0 begins.1 test begins.3 begins.2 in
      (b.0, b.1, subst (λ (x : List ℕ). BeginsGarbled x test) (sym (channel_rest (log ++ entries) t.0 _ _ t.1 b.0 t.3 t.4 none)) begins)
  link_causes log entries risen queued later N (link_halt.LongFrame sim n) shown at_log back rose =
      let b = back sim.0 shown.0 shown.1 in
      let t = at_log sim.0 b.0 b.1 in
      let same : shown.0 ≡ t.1 = some_same (sym shown.1 ∙ t.2) in
      let long : IsTooLong n (t.1).held = subst (λ (x : Channel). IsTooLong n x.held) same shown.2 in
      let none : first_message (t.1).held ≡ None = none_first (t.1).held (long_none (t.1).held n long) in
      (b.0, b.1, subst (λ (x : List ℕ). IsTooLong n x) (sym (channel_rest (log ++ entries) t.0 _ _ t.1 b.0 t.3 t.4 none)) long)
  link_causes log entries risen queued later N link_halt.Mem shown at_log back rose = tt

  -- the request was queued, and nothing was heard
  pub unheard_halts : (log entries : List LogEntry) (risen : Type 0) (h : Halt) (answers : List Message) (C D : CrewSeen) (r : Request) (id : ℕ) (l : LinkNo) → IsAnswered started S rows log answers C → slice_get (setup_requests S) (length answers) ≡ Some r
      → id ≡ id_before S (length answers) r.sim → sim_link started S r.sim ≡ Some l → (h ≡ halt.Fleet → risen) → AsksInVain h r.sim r.call id entries C D → IsHalting (attempt started S ranks rows (log ++ entries)) risen h D
  unheard_halts log entries risen h answers C D r id l a asked numbered linked rose v = record {
    queued = done ++ r ∷ [];
    later = later;
    parts = up.parts ∙ sym (append_assoc done (r ∷ []) later);
    channels = at_log;
    rests = rests_on a.replies log entries v.mid done r later up (a.between).rests (v.unheard).parked;
    cause = subst (ShowsCause (attempt started S ranks rows (log ++ entries)) risen (done ++ r ∷ []) later) (sym v.is)
        (link_causes log entries risen (done ++ r ∷ []) later D.channels v.why v.shown at_log back (λ q. rose (v.is ∙ ap halt_of q)));
    answered = one_unanswered started S ranks rows log entries answers C r a;
    back = back;
    on_links = asked_on started S rows log entries a.replies (take (length answers) (setup_requests S)) (drop (length answers) (setup_requests S)) C v.mid r.sim v.channel _ a.on_links a.between a.back v.set refl v.on_links;
  }
    where
      done : List Request
      done = take (length answers) (setup_requests S)

      later : List Request
      later = drop (suc (length answers)) (setup_requests S)

      up : IsSettingUp started S a.replies log (crew v.mid) done r later
      up = set_up_so started S rows a.replies log answers C.channels v.mid r id l v.channel a.between asked numbered linked v.set v.framed

      at_log : AreAt started S (log ++ entries) (done ++ r ∷ []) D.channels
      at_log i k e = let t = moved_at a.replies log entries (λ i. []) v.mid D.channels done r later up (v.unheard).moved i k e in (a.replies i ++ [], t.0, t.1, t.2, t.3)

      back : (i : ℕ) (w : Channel) → at D.channels i ≡ Some w → (k : LinkNo) × (sim_link started S i ≡ Some k)
      back i w e = let b = moved_back entries [] (at v.mid i) (at D.channels i) w e ((v.unheard).moved i) in let c = set_back r.sim v.channel _ C.channels v.mid v.set refl i b.0 b.1 in a.back i c.0 c.1

  -- ---- a message that isn't taken

  last_given : (from : ℕ) (m : Message) (i : ℕ) → given_by from m i ≡ kept_of i (record { sim = from; message = m } ∷ [])
  last_given from m i = elim (from == i) as (λ b. (if b then m ∷ [] else []) ≡ cons_option (if b then Some m else None) []) [ true ↦ refl | false ↦ refl ]

  -- it came of a link
  pub refused_on_link : (log entries : List LogEntry) (risen : Type 0) (answers : List Message) (C D : CrewSeen) (r : Request) (id from : ℕ) (l : LinkNo) (m : Message) (e : SetupFault) → IsAnswered started S rows log answers C → slice_get (setup_requests S) (length answers) ≡ Some r
      → id ≡ id_before S (length answers) r.sim → sim_link started S r.sim ≡ Some l → AsksOnLink r.sim r.call id from m entries C D → ((e ≡ fault.Mem → ⊥) → IsFaultyAfter S ranks answers (Some (record { sim = from; message = m })) e)
      → IsHalting (attempt started S ranks rows (log ++ entries)) risen (setup_halt e) D
  refused_on_link log entries risen answers C D r id from l m e a asked numbered linked v faulty = record {
    queued = done ++ r ∷ [];
    later = later;
    parts = up.parts ∙ sym (append_assoc done (r ∷ []) later);
    channels = λ i k q. let t = channel i k q in (a.replies i ++ given_by from m i, t.0, t.1, t.2, t.3);
    rests = rests_on a.replies log entries v.mid done r later up (a.between).rests moved.1;
    cause = fault_causes (log ++ entries) risen (done ++ r ∷ []) later e (λ some. (
      record {
        answers = answers;
        last = Some (record { sim = from; message = m });
        faulty = faulty some;
        before = log ++ entries;
        after = [];
        parts = sym (append_nil (log ++ entries));
        heard = record {
          links = λ i k q. let t = channel i k q in subst (BeginsWith (messages_heard (heard_on k (log ++ entries))))
              (ap (λ (ms : List Message). ms ++ given_by from m i) (a.told i k q) ∙ ap (λ (ms : List Message). answers_to i (setup_requests S) answers ++ ms) (last_given from m i))
              (channel_heard (log ++ entries) (a.replies i ++ given_by from m i) _ _ t.0 k t.2 t.3);
          kinds = kinds_pushed rows S answers r m a.kinds asked (λ w. absurd (true≢false (sym w ∙ (linked_away rows started S r.sim l linked).1)));
          came = record {
            request = r;
            awaiting = asked;
            within = λ w. absurd (true≢false (sym w ∙ (linked_away rows started S r.sim l linked).1));
            on_link = λ apart. let w = heard_there started S rows entries from m v.mid D.channels v.heard in let c = set_back r.sim v.channel _ C.channels v.mid v.set refl from w.0 w.1 in a.back from c.0 c.1;
          };
        };
        asked = asked_at (log ++ entries) (suc (length answers)) D.channels
            (subst (λ (rs : List Request). AreAt started S (log ++ entries) rs D.channels) (sym (cut_at (length answers) r (setup_requests S) asked).0)
            (λ i k q. let t = channel i k q in (a.replies i ++ given_by from m i, t.0, t.1, t.2, t.3)));
      },
      sym (cut_at (length answers) r (setup_requests S) asked).0,
    ));
    answered = one_unanswered started S ranks rows log entries answers C r a;
    back = back;
    on_links = asked_on started S rows log entries a.replies (take (length answers) (setup_requests S)) (drop (length answers) (setup_requests S)) C v.mid r.sim v.channel _ a.on_links a.between a.back v.set refl v.on_links;
  }
    where
      done : List Request
      done = take (length answers) (setup_requests S)

      later : List Request
      later = drop (suc (length answers)) (setup_requests S)

      up : IsSettingUp started S a.replies log (crew v.mid) done r later
      up = set_up_so started S rows a.replies log answers C.channels v.mid r id l v.channel a.between asked numbered linked v.set v.framed

      moved : AreMoved entries (given_by from m) (crew v.mid) (crew D.channels) × AreParkedAtRests entries (crew v.mid)
      moved = heard_moved started S rows entries from m v.mid D.channels v.heard

      channel : (i : ℕ) (k : LinkNo) → sim_link started S i ≡ Some k
          → (w : Channel) × (at D.channels i ≡ Some w) × (w.link ≡ k) × IsChannelAt (log ++ entries) (a.replies i ++ given_by from m i) (call_payloads 0 (filter_map (call_to i) (done ++ r ∷ []))) (count_to i (done ++ r ∷ [])) w
      channel = moved_at a.replies log entries (given_by from m) v.mid D.channels done r later up moved.0

      back : (i : ℕ) (w : Channel) → at D.channels i ≡ Some w → (k : LinkNo) × (sim_link started S i ≡ Some k)
      back i w q = let b = moved_back entries (given_by from m i) (at v.mid i) (at D.channels i) w q (moved.0 i) in let c = set_back r.sim v.channel _ C.channels v.mid v.set refl i b.0 b.1 in a.back i c.0 c.1

  -- it came of a simulator within the program
  pub refused_within : (log entries : List LogEntry) (risen : Type 0) (answers : List Message) (C D : CrewSeen) (r : Request) (id from : ℕ) (m : Message) (e : SetupFault) → IsAnswered started S rows log answers C → slice_get (setup_requests S) (length answers) ≡ Some r
      → id ≡ id_before S (length answers) r.sim → AsksWithin r.sim r.call id from m entries C D → D.places ≡ C.places → ((e ≡ fault.Mem → ⊥) → IsFaultyAfter S ranks answers (Some (record { sim = from; message = m })) e)
      → IsHalting (attempt started S ranks rows (log ++ entries)) risen (setup_halt e) D
  refused_within log entries risen answers C D r id from m e a asked numbered v same_places faulty = between_halts (log ++ entries) risen (setup_halt e) (answers ++ m ∷ []) D b
      (fault_causes (log ++ entries) risen (take (length (answers ++ m ∷ [])) (setup_requests S)) (drop (length (answers ++ m ∷ [])) (setup_requests S)) e
      (λ some. (
        record {
          answers = answers;
          last = Some (record { sim = from; message = m });
          faulty = faulty some;
          before = log ++ entries;
          after = [];
          parts = sym (append_nil (log ++ entries));
          heard = record {
            links = links;
            kinds = b.kinds;
            came = record { request = r; awaiting = asked; within = λ w. v.same_sim; on_link = λ apart. absurd (true≢false (sym (within_so started S rows (length answers) r.sim (v.called).sim (sym (a.sims r.sim) ∙ (v.called).there)) ∙ apart)) };
          };
          asked = subst (IsAskedUpTo started S (log ++ entries)) (count_pushed answers m)
              (asked_at (log ++ entries) (length (answers ++ m ∷ [])) D.channels
              (channels_at b.replies (log ++ entries) D.channels (take (length (answers ++ m ∷ [])) (setup_requests S)) (drop (length (answers ++ m ∷ [])) (setup_requests S)) b.between));
        },
        ap (λ (k : ℕ). take k (setup_requests S)) (count_pushed answers m),
      )))
    where
      b : IsAnswered started S rows (log ++ entries) (answers ++ m ∷ []) D
      b = within_more started S rows log entries answers C D r id from m a asked numbered v same_places

      links : (i : ℕ) (l : LinkNo) → sim_link started S i ≡ Some l → BeginsWith (messages_heard (heard_on l (log ++ entries))) (answers_to i (setup_requests S) answers ++ kept_of i (record { sim = from; message = m } ∷ []))
      links i l q =
          let t = (b.between).channels i l q in
          subst (BeginsWith (messages_heard (heard_on l (log ++ entries))))
          (b.told i l q ∙ answers_pushed i (setup_requests S) answers r m asked
          ∙ ap (λ (s : ℕ). answers_to i (setup_requests S) answers ++ given_by s m i) (sym v.same_sim) ∙ ap (λ (ms : List Message). answers_to i (setup_requests S) answers ++ ms) (last_given from m i))
          (channel_heard (log ++ entries) (b.replies i) _ _ t.0 l t.2 t.3)
