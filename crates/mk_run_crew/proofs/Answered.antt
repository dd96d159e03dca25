-- Where each request of a handshake is answered, nothing goes wrong that it can show.
use Rattle.std.proofs.Common.{◌≡◌, ℕ, zero, suc, ◌+◌, ◌<◌, ◌≤◌, ◌⊎◌, ◌==◌, not, Bool, true, false, List, [], ◌∷◌, ◌++◌, length, take, drop, fold, Option, Some, None, Result, Ok, Err, slice_get, refl, sym, ap, ◌∙◌, subst, inl, inr, append_assoc, length-append, arith, if◌then◌else◌}
use Rattle.std.specs.Prelude.{filter, filter_map, option_and_then, option_map, option_to_list, unwrap_or}
use Rattle.std.specs.List.{cons_option, enumerate_from}
use Rattle.std.proofs.lemmas.Bool.{eq-eqb}
use Rattle.std.proofs.lemmas.List.Sums.{fold-append}
use Rattle.std.proofs.lemmas.Option.{slice_get_past}
use Rattle.mk_base.specs.declared.LinkNo.{LinkNo}
use Rattle.mk_base.specs.Lists.{BeginsWith, IsIn}
use Rattle.mk_base.specs.Verdicts.{passed}
use Rattle.mk_base.proofs.Lists.{none_some, some_same, append_nil, below_get, filter_map_append, get_is, in_each}
use Rattle.mk_frame.specs.Frames.{IsTooLong, frame_of, frames_of, limit}
use Rattle.mk_frame.proofs.OnFrames.{length-frame_of}
use Rattle.mk_message.specs.Written.{call_text}
use Rattle.mk_outside.specs.declared.fleet.LogEntry.{LogEntry}
use Rattle.mk_outside.specs.Logs.{heard_on, said_on}
use Rattle.mk_plan.specs.declared.Call.{Call}
use Rattle.mk_plan.specs.declared.Message.{Message}
use Rattle.mk_plan.specs.declared.Plan.{Plan}
use Rattle.mk_plan.specs.Journals.{Arrival}
use Rattle.mk_scenario.specs.declared.parts.SimPart.{SimPart}
use Rattle.mk_scenario.specs.declared.parts.Scenario.{Scenario}
use Rattle.mk_scenario.specs.Wellformed.{IsWellformed, IsWellformedGroup}
use Rattle.mk_session.specs.Fronts.{BeginsGarbled}
use Rattle.mk_local.specs.declared.turn.Turn.{Turn}
use Rattle.mk_local.specs.Calls.{call_reply}
use Rattle.mk_local.specs.Simulators.{Simulator}
use Rattle.mk_run_laws.specs.Crews.{kept_of}
use Rattle.mk_run_laws.specs.Handshake.{Request, call_payloads, call_to, calls_to, has_link, is_local, is_within, setup_count, setup_payloads, setup_requests, sim_link}
use Rattle.mk_run_laws.specs.Hearing.{messages_heard, rest_heard}
use Rattle.mk_run_laws.specs.Payloads.{IsFramed}
use Rattle.mk_run_laws.proofs.Clauses.{first_requests}
use Rattle.mk_setup.specs.declared.fault.SetupFault.{SetupFault}
use Rattle.mk_setup.specs.Asking.{after_asking, asked_unless, fault_before, lasting, plan_of, refusal, test_before}
use Rattle.mk_setup.specs.Handshakes.{IsFaultyAfter, IsReached, IsRefusedAfter, IsStuckAfter, after_answer, answering, begun, next_sim, reached}
use Rattle.mk_setup.specs.Laws.{IsOfReplies, RepliesMake}
use Rattle.mk_setup.specs.Replies.{after_reply}
use Rattle.mk_setup.specs.Requests.{id_before, request_of}
use Rattle.mk_setup.specs.Seen.{SetupState}
use Rattle.mk_run_crew.specs.Answered.{IsAnswered}
use Rattle.mk_run_crew.specs.Answers.{AreHeard, ComesAt, IsKindAnswer, answers_to}
use Rattle.mk_run_crew.specs.Attempts.{Attempt}
use Rattle.mk_run_crew.specs.Completing.{IsFaultlessHandshake}
use Rattle.mk_run_crew.specs.Halted.{IsAskedUpTo, IsLongRequest, made_by}
use Rattle.mk_run_crew.proofs.HeardMore.{heard_later}
use Rattle.mk_run_crew.proofs.Requests.{both_parts, cut_at, get_pushed, of_each_request}
use Rattle.mk_base.proofs.Items.{front_get, get_last}
use Rattle.mk_base.proofs.Counts.{not_same, same_or_not}
use Rattle.mk_outside.proofs.OnLogs.{heard-append}

-- ---- lists

-- items that stand at the same places of another list are its first ones
first_items : {X : Type 0} (xs ys : List X) → ((k : ℕ) (x : X) → slice_get xs k ≡ Some x → slice_get ys k ≡ Some x) → BeginsWith ys xs
first_items [] ys same = (ys, refl)
first_items (x ∷ xs) [] same = absurd (none_some (same zero x refl))
first_items {X} (x ∷ xs) (y ∷ ys) same = let t = first_items xs ys (λ k z e. same (suc k) z e) in (t.0, λ i. some_same (same zero x refl) i ∷ t.1 i)

-- ---- each request goes to a simulator of the scenario

enumerated_low : {X : Type 0} (n : ℕ) (p : ℕ × X) (xs : List X) → IsIn p (enumerate_from n xs) → p.0 < n + length xs
enumerated_low n p [] h = absurd h
enumerated_low {X} n p (x ∷ xs) (inl e) = let q : p.0 ≡ n = ap (λ (r : ℕ × X). r.0) e in omega (arith, q)
enumerated_low n p (x ∷ xs) (inr h) = let t = enumerated_low (n + 1) p xs h in omega (arith, t)

pub low_request : (S : Scenario) → IsWellformed S → (k : ℕ) (r : Request) → slice_get (setup_requests S) k ≡ Some r → r.sim < length S.sims
low_request S good = of_each_request (λ r. r.sim < length S.sims) S numbered (λ g there. (in_each (IsWellformedGroup (length S.sims)) g S.groups good.groups there).sim) numbered
  where
    numbered : (p : ℕ × SimPart) → IsIn p (enumerate_from 0 S.sims) → p.0 < length S.sims
    numbered p h = let t = enumerated_low 0 p S.sims h in omega (arith, t)

-- ---- a kind has one answer to a request

pub one_answer : (rows : List Turn) (S : Scenario) (k : ℕ) (r : Request) (m n : Message) → IsKindAnswer rows S k r m → IsKindAnswer rows S k r n → m ≡ n
one_answer rows S k r m n a b =
    let same : a.sim ≡ b.sim = some_same (sym a.before ∙ b.before) in
    some_same (sym a.reply ∙ ap (λ (L : Simulator). call_reply L (id_before S k r.sim) r.call) same ∙ b.reply)

-- ---- a fault lasts

unlike : (U : SetupState) (e : SetupFault) → Ok U ≡ Err e → ⊥
unlike U e q = cc

still_faulty : (e : SetupFault) (more : List Message) → fold answering (Err e) more ≡ Err e
still_faulty e [] = refl
still_faulty e (m ∷ more) = still_faulty e more

module _ (S : Scenario) (ranks : List ℕ) (given : List Message) where
  -- where all answers lead on, the first ones make no fault
  first_right : (more : List Message) (V : SetupState) (e : SetupFault) → reached S ranks (given ++ more) ≡ Ok V → reached S ranks given ≡ Err e → ⊥
  first_right more V e all faulty =
      unlike V e (sym all ∙ fold-append answering (Ok (begun S ranks)) given more ∙ ap (λ (v : Result SetupState SetupFault). fold answering v more) faulty ∙ still_faulty e more)

  -- the next request can't be made, whatever its answer
  stuck_with : (m : Message) (e : SetupFault) → IsStuckAfter S ranks given e → reached S ranks (given ++ m ∷ []) ≡ Err e
  stuck_with m e s =
      fold-append answering (Ok (begun S ranks)) given (m ∷ []) ∙ ap (λ (v : Result SetupState SetupFault). passed (passed v after_asking) (after_answer m)) s.reached ∙ ap (λ (v : Result SetupState SetupFault). passed v (after_answer m)) s.why

  -- the next answer isn't taken
  refused_with : (a : Arrival) (e : SetupFault) (s : IsRefusedAfter S ranks given a e) → next_sim s.state ≡ a.sim → reached S ranks (given ++ a.message ∷ []) ≡ Err e
  refused_with a e s own =
      fold-append answering (Ok (begun S ranks)) given (a.message ∷ []) ∙ ap (λ (v : Result SetupState SetupFault). passed v (after_answer a.message)) s.asked
      ∙ ap (λ (n : ℕ). after_reply s.state (record { sim = n; message = a.message })) own ∙ s.why

-- a plan can be made, so the last request was
never_stuck : (U : SetupState) (P : Plan) (e : SetupFault) → U.fault ≡ None → request_of U ≡ None → plan_of U ≡ Ok P → after_asking U ≡ Err e → ⊥
never_stuck U P e going last plan why =
    let fine : test_before U (request_of U) ≡ None = ap (test_before U) last ∙ ap refusal plan in
    let none : fault_before U ≡ None = (λ i. lasting (going i) (fine i)) in
    unlike (record U { asked = true }) e (sym (ap (asked_unless U) none) ∙ why)

-- ---- answers at their places

-- the answer to request number k stands behind those to the earlier requests to its simulator
at_place : (requests : List Request) (answers : List Message) (k : ℕ) (r : Request) (m : Message) → slice_get requests k ≡ Some r → slice_get answers k ≡ Some m
    → slice_get (answers_to r.sim requests answers) (length (filter_map (call_to r.sim) (take k requests))) ≡ Some m
at_place [] answers k r m asked got = absurd (none_some asked)
at_place (q ∷ requests) [] k r m asked got = absurd (none_some got)
at_place (q ∷ requests) (a ∷ answers) zero r m asked got = subst (λ (x : Request). slice_get (answers_to x.sim (q ∷ requests) (a ∷ answers)) 0 ≡ Some m) (some_same asked)
    (ap (λ (b : Bool). slice_get (if b then a ∷ answers_to q.sim requests answers else answers_to q.sim requests answers) 0) (eq-eqb q.sim q.sim refl) ∙ got)
at_place (q ∷ requests) (a ∷ answers) (suc k) r m asked got =
    elim (q.sim == r.sim) as (λ b. slice_get (if b then a ∷ answers_to r.sim requests answers else answers_to r.sim requests answers) (length (cons_option (if b then Some q.call else None) (filter_map (call_to r.sim) (take k requests)))) ≡ Some m) [
      | true ↦ at_place requests answers k r m asked got
      | false ↦ at_place requests answers k r m asked got
    ]

-- so many answers go to i
answers_count : (i : ℕ) (requests : List Request) (answers : List Message) → length answers ≤ length requests → length (answers_to i requests answers) ≡ length (filter_map (call_to i) (take (length answers) requests))
answers_count i [] [] few = refl
answers_count i [] (a ∷ answers) few = absurd (omega (arith, few))
answers_count i (q ∷ requests) [] few = refl
answers_count i (q ∷ requests) (a ∷ answers) few =
    elim (q.sim == i) as (λ b. length (if b then a ∷ answers_to i requests answers else answers_to i requests answers) ≡ length (cons_option (if b then Some q.call else None) (filter_map (call_to i) (take (length answers) requests)))) [
      | true ↦ ap suc (answers_count i requests answers (omega (arith, few)))
      | false ↦ answers_count i requests answers (omega (arith, few))
    ]

in_beginning : {X : Type 0} (whole part : List X) (k : ℕ) (x : X) → BeginsWith whole part → slice_get part k ≡ Some x → slice_get whole k ≡ Some x
in_beginning whole part k x t there = ap (λ l. slice_get l k) t.1 ∙ front_get part t.0 k x there

-- a simulator of the scenario runs within the program or has a link
linked_or_within : (started : ℕ) (S : Scenario) (i : ℕ) → i < length S.sims → (is_within S i ≡ true) ⊎ ((l : LinkNo) × (sim_link started S i ≡ Some l))
linked_or_within started S i low = let s = below_get S.sims i low in by_begin s.0 s.1 (is_local (s.0).begin) refl
  where
    by_begin : (s : SimPart) → slice_get S.sims i ≡ Some s → (b : Bool) → is_local s.begin ≡ b → (is_within S i ≡ true) ⊎ ((l : LinkNo) × (sim_link started S i ≡ Some l))
    by_begin s there true is = inl (ap (λ (o : Option SimPart). unwrap_or (option_map (λ (p : SimPart). is_local p.begin) o) false) there ∙ is)
    by_begin s there false is = inr (
      record { 0 = started + length (filter has_link (take i S.sims)) },
      ap (λ (o : Option SimPart). option_and_then (λ (p : SimPart). if has_link p then Some (let l : LinkNo = record { 0 = started + length (filter has_link (take i S.sims)) } in l) else None) o) there
          ∙ ap (λ (b : Bool). if not b then Some (let l : LinkNo = record { 0 = started + length (filter has_link (take i S.sims)) } in l) else None) is,
    )

-- each call's text is a payload
in_payloads : (id : ℕ) (before : List Call) (call : Call) (later : List Call) → IsIn (call_text (id + length before) call) (call_payloads id (before ++ call ∷ later))
in_payloads id [] call later = inl (ap (λ (n : ℕ). call_text n call) (omega arith))
in_payloads id (c ∷ before) call later = inr (subst (λ (n : ℕ). IsIn (call_text n call) (call_payloads (id + 1) (before ++ call ∷ later))) (omega arith) (in_payloads (id + 1) before call later))

-- no frame stands in no bytes
nothing_left : (held : List ℕ) (n : ℕ) → held ≡ [] → BeginsGarbled held n ⊎ IsTooLong n held → ⊥
nothing_left held n none (inl garbled) =
    let size = length-frame_of garbled.0 in
    let whole = ap length (sym none ∙ garbled.3.1) ∙ length-append (frame_of garbled.0) garbled.1 in
    absurd (omega (arith, size, whole))
nothing_left held n none (inr long) = let four = long.0 in let size = ap length none in absurd (omega (arith, four, size))

-- ---- nothing goes wrong

module _ (A : Attempt) (w : IsAnswered A) (laws : RepliesMake) (good : IsWellformed A.scenario) where
  abbrev requests : List Request
  requests = setup_requests A.scenario

  -- an answer that is known at its place
  abbrev IsKnown : List Message → Type 0
  IsKnown given = (k : ℕ) (m : Message) → slice_get given k ≡ Some m → slice_get w.answers k ≡ Some m

  -- each request has an answer
  answered : (k : ℕ) (r : Request) → slice_get (setup_requests A.scenario) k ≡ Some r → (m : Message) × (slice_get w.answers k ≡ Some m)
  answered k r asked = below_get w.answers k (subst (λ (n : ℕ). k < n) (sym (w.made).all) (get_is (setup_requests A.scenario) k r asked).0)

  -- what a kind answers to this request is the answer at its place
  of_kind : (k : ℕ) (r : Request) (m : Message) → slice_get (setup_requests A.scenario) k ≡ Some r → is_within A.scenario r.sim ≡ true → IsKindAnswer A.rows A.scenario k r m → slice_get w.answers k ≡ Some m
  of_kind k r m asked within kind = let t = answered k r asked in t.1 ∙ ap Some (one_answer A.rows A.scenario k r t.0 m (w.kinds k r t.0 asked t.1 within) kind)

  -- what was heard on a link at this place is the answer to the request
  of_link : (k : ℕ) (r : Request) (m : Message) (l : LinkNo) (before after : List LogEntry) → A.log ≡ before ++ after → slice_get (setup_requests A.scenario) k ≡ Some r → sim_link A.started A.scenario r.sim ≡ Some l
      → slice_get (messages_heard (heard_on l before)) (length (filter_map (call_to r.sim) (take k (setup_requests A.scenario)))) ≡ Some m → slice_get w.answers k ≡ Some m
  of_link k r m l before after parts asked linked heard =
      let t = answered k r asked in
      let p : ℕ = length (filter_map (call_to r.sim) (take k (setup_requests A.scenario))) in
      let later : BeginsWith (messages_heard (heard_on l A.log)) (messages_heard (heard_on l before)) =
      subst (λ (bytes : List ℕ). BeginsWith (messages_heard bytes) (messages_heard (heard_on l before))) (sym (ap (heard_on l) parts ∙ heard-append l before after)) (heard_later (heard_on l before) (heard_on l after)) in
      let ours = in_beginning (messages_heard (heard_on l A.log)) (answers_to r.sim (setup_requests A.scenario) w.answers) p t.0 (w.links r.sim l linked).heard (at_place (setup_requests A.scenario) w.answers k r t.0 asked t.1) in
      let theirs = in_beginning (messages_heard (heard_on l A.log)) (messages_heard (heard_on l before)) p m later heard in
      t.1 ∙ sym ours ∙ theirs

  -- answers that were heard, or are kinds', are the answers at their places
  heard_known : (given : List Message) (last : Option Arrival) (before after : List LogEntry) → A.log ≡ before ++ after → AreHeard A.started A.scenario A.rows before given last
      → ((k : ℕ) (m : Message) → slice_get given k ≡ Some m → (r : Request) × (slice_get (setup_requests A.scenario) k ≡ Some r)) → IsKnown given
  heard_known given last before after parts heard asked k m got =
      let r = asked k m got in
      elim (linked_or_within A.started A.scenario (r.0).sim (low_request A.scenario good k r.0 r.1)) [
        | inl within ↦ of_kind k r.0 m r.1 within (heard.kinds k r.0 m r.1 (front_get given _ k m got) within)
        | inr t ↦ of_link k r.0 m t.0 before after parts r.1 t.1
            (in_beginning (messages_heard (heard_on t.0 before)) (answers_to (r.0).sim (setup_requests A.scenario) given ++ kept_of (r.0).sim (option_to_list last)) _ m (heard.links (r.0).sim t.0 t.1) (front_get (answers_to (r.0).sim (setup_requests A.scenario) given) (kept_of (r.0).sim (option_to_list last)) (length (filter_map (call_to (r.0).sim) (take k (setup_requests A.scenario)))) m
            (at_place (setup_requests A.scenario) given k r.0 m r.1 got)))
      ]

  -- the replies that lead to a state have requests
  requested : (given : List Message) (U : SetupState) → IsReached A.scenario A.ranks given U → (k : ℕ) (m : Message) → slice_get given k ≡ Some m → (r : Request) × (slice_get (setup_requests A.scenario) k ≡ Some r)
  requested given U at k m got = let t = laws.replies A.scenario A.ranks given U at k m got in (t.request, t.asked)

  not_stuck : (given : List Message) (e : SetupFault) → IsKnown given → IsStuckAfter A.scenario A.ranks given e → ⊥
  not_stuck given e known s = let t = first_items given w.answers known in go t.0 t.1
    where
      known_of : IsOfReplies A.scenario A.ranks given s.state
      known_of = laws.stands A.scenario A.ranks given s.state (inl s.reached)

      same_state : {U V : SetupState} → (let r : Result SetupState SetupFault = Ok U in r) ≡ Ok V → U ≡ V
      same_state q = cc

      go : (more : List Message) → w.answers ≡ given ++ more → ⊥
      go (m ∷ more) is =
          first_right A.scenario A.ranks (given ++ m ∷ []) more (w.made).state e (ap (reached A.scenario A.ranks) (append_assoc given (m ∷ []) more ∙ sym is) ∙ (w.made).reached) (stuck_with A.scenario A.ranks given m e s)
      go [] is =
          let whole : w.answers ≡ given = is ∙ append_nil given in
          let state : (w.made).state ≡ s.state = same_state (sym (w.made).reached ∙ ap (reached A.scenario A.ranks) whole ∙ s.reached) in
          let count : (s.state).answered ≡ length (setup_requests A.scenario) = known_of.count ∙ ap length (sym whole) ∙ (w.made).all in
          let last : request_of s.state ≡ None = ap (λ (X : Scenario). slice_get (setup_requests X) (s.state).answered) known_of.scenario ∙ slice_get_past (setup_requests A.scenario) (s.state).answered (omega (arith, count)) in
          never_stuck s.state w.plan e known_of.going last (ap plan_of (sym state) ∙ (w.made).plan) s.why

  -- ---- the message that came last

  module _ (given : List Message) (a : Arrival) (before after : List LogEntry) (parts : A.log ≡ before ++ after) (heard : AreHeard A.started A.scenario A.rows before given (Some a)) (came : ComesAt A.started A.scenario (length given) a) where
    low : length given < length (setup_requests A.scenario)
    low = (get_is (setup_requests A.scenario) (length given) came.request came.awaiting).0

    -- on the link of its simulator it was heard behind that one's answers
    heard_last : (i : ℕ) (l : LinkNo) → sim_link A.started A.scenario i ≡ Some l → a.sim ≡ i → BeginsWith (messages_heard (heard_on l before)) (answers_to i (setup_requests A.scenario) given ++ a.message ∷ [])
    heard_last i l linked own = subst (λ (ms : List Message). BeginsWith (messages_heard (heard_on l before)) (answers_to i (setup_requests A.scenario) given ++ ms))
        (ap (λ (b : Bool). cons_option (if b then Some a.message else None) []) (eq-eqb a.sim i own)) (heard.links i l linked)

    -- where it came of the simulator that was asked, it is the answer
    own_known : a.sim ≡ (came.request).sim → slice_get w.answers (length given) ≡ Some a.message
    own_known own = elim (linked_or_within A.started A.scenario (came.request).sim (low_request A.scenario good (length given) came.request came.awaiting)) [
      | inl within ↦ of_kind (length given) came.request a.message came.awaiting within (heard.kinds (length given) came.request a.message came.awaiting (get_last given a.message) within)
      | inr t ↦ of_link (length given) came.request a.message t.0 before after parts came.awaiting t.1
          (in_beginning (messages_heard (heard_on t.0 before)) (answers_to (came.request).sim (setup_requests A.scenario) given ++ a.message ∷ []) _ a.message (heard_last (came.request).sim t.0 t.1 own)
          (ap (slice_get (answers_to (came.request).sim (setup_requests A.scenario) given ++ a.message ∷ [])) (sym (answers_count (came.request).sim (setup_requests A.scenario) given (omega (arith, low)))) ∙ get_last (answers_to (came.request).sim (setup_requests A.scenario) given) a.message))
    ]

    all_known : IsKnown given → a.sim ≡ (came.request).sim → IsKnown (given ++ a.message ∷ [])
    all_known known own j m got = elim (get_pushed given a.message m j got) [
      | inl e ↦ known j m e
      | inr t ↦ ap (slice_get w.answers) t.0 ∙ own_known own ∙ ap Some t.1
    ]

    -- a simulator that isn't asked says nothing
    other_silent : IsAskedUpTo A.started A.scenario before (suc (length given)) → (a.sim ≡ (came.request).sim → ⊥) → ⊥
    other_silent asked apart = by_within (is_within A.scenario (came.request).sim) refl
      where
        calls : List Call
        calls = filter_map (call_to a.sim) (take (length given) (setup_requests A.scenario))

        same_calls : filter_map (call_to a.sim) (take (suc (length given)) (setup_requests A.scenario)) ≡ calls
        same_calls = ap (filter_map (call_to a.sim)) (cut_at (length given) came.request (setup_requests A.scenario) came.awaiting).0 ∙ filter_map_append (call_to a.sim) (take (length given) (setup_requests A.scenario)) (came.request ∷ [])
            ∙ ap (λ (b : Bool). calls ++ cons_option (if b then Some (came.request).call else None) []) (not_same (came.request).sim a.sim (λ e. apart (sym e))) ∙ append_nil calls

        on_link : (l : LinkNo) → sim_link A.started A.scenario a.sim ≡ Some l → ⊥
        on_link l linked =
            let parted : take (length given) (setup_requests A.scenario) ++ drop (length given) (setup_requests A.scenario) ≡ setup_requests A.scenario = both_parts (length given) (setup_requests A.scenario) in
            let payloads = first_requests A.scenario a.sim (take (length given) (setup_requests A.scenario)) (drop (length given) (setup_requests A.scenario)) (sym parted) in
            let said = asked a.sim l linked in
            let most : length (frames_of (take (length calls) (setup_payloads A.scenario a.sim))) ≡ length (said_on l before) + length said.0 = ap (λ (ps : List (List ℕ)). length (frames_of ps)) (sym payloads ∙ ap (call_payloads 0) (sym same_calls)) ∙ ap length said.1 ∙ length-append (said_on l before) said.0 in
            let count : length (answers_to a.sim (setup_requests A.scenario) given) ≡ length calls = answers_count a.sim (setup_requests A.scenario) given (omega (arith, low)) in
            let there = heard_last a.sim l linked refl in
            let more : length (messages_heard (heard_on l before)) ≡ (length (answers_to a.sim (setup_requests A.scenario) given) + 1) + length there.0 = ap length there.1 ∙ length-append (answers_to a.sim (setup_requests A.scenario) given ++ a.message ∷ []) there.0 ∙ ap (λ (n : ℕ). n + length there.0) (length-append (answers_to a.sim (setup_requests A.scenario) given) (a.message ∷ [])) in
            let room : setup_count A.scenario a.sim ≡ length calls + length (filter_map (call_to a.sim) (drop (length given) (setup_requests A.scenario))) =
            ap (λ (rs : List Request). length (filter_map (call_to a.sim) rs)) (sym parted) ∙ ap length (filter_map_append (call_to a.sim) (take (length given) (setup_requests A.scenario)) (drop (length given) (setup_requests A.scenario))) ∙ length-append calls (filter_map (call_to a.sim) (drop (length given) (setup_requests A.scenario))) in
            let turn = (w.links a.sim l linked).in_turn before after parts (length calls) (omega (arith, room)) (omega (arith, more, count)) in
            absurd (omega (arith, turn, most))

        by_within : (b : Bool) → is_within A.scenario (came.request).sim ≡ b → ⊥
        by_within true e = apart (came.within e)
        by_within false e = let t = came.on_link e in on_link t.0 t.1

    not_refused : (e : SetupFault) → IsKnown given → IsAskedUpTo A.started A.scenario before (suc (length given)) → IsRefusedAfter A.scenario A.ranks given a e → ⊥
    not_refused e known asked s = elim (same_or_not a.sim (came.request).sim) [
      | inr apart ↦ other_silent asked apart
      | inl own ↦
          let t = first_items (given ++ a.message ∷ []) w.answers (all_known known own) in
          first_right A.scenario A.ranks (given ++ a.message ∷ []) t.0 (w.made).state e (ap (reached A.scenario A.ranks) (sym t.1) ∙ (w.made).reached) (refused_with A.scenario A.ranks given a e s (asked_sim own))
    ]
      where
        known_of : IsOfReplies A.scenario A.ranks given s.state
        known_of = laws.stands A.scenario A.ranks given s.state (inr s.asked)

        next : request_of s.state ≡ Some came.request
        next = ap (λ (X : Scenario). slice_get (setup_requests X) (s.state).answered) known_of.scenario ∙ ap (slice_get (setup_requests A.scenario)) known_of.count ∙ came.awaiting

        asked_sim : a.sim ≡ (came.request).sim → next_sim s.state ≡ a.sim
        asked_sim own = ap (λ (o : Option Request). unwrap_or (option_map (λ (r : Request). r.sim) o) 0) next ∙ sym own

  no_fault : (given : List Message) (last : Option Arrival) (e : SetupFault) → IsFaultyAfter A.scenario A.ranks given last e → (before after : List LogEntry) → A.log ≡ before ++ after
      → AreHeard A.started A.scenario A.rows before given last → IsAskedUpTo A.started A.scenario before (made_by given last) → ⊥
  no_fault given None e faulty before after parts heard asked = not_stuck given e (heard_known given None before after parts heard (requested given faulty.state (inl faulty.reached))) faulty
  no_fault given (Some a) e faulty before after parts heard asked =
      not_refused given a before after parts heard heard.came e (heard_known given (Some a) before after parts heard (requested given faulty.state (inr faulty.asked))) asked faulty

  -- ---- requests that fit, and nothing behind the messages

  no_long : (queued later : List Request) (s n : ℕ) → setup_requests A.scenario ≡ queued ++ later → IsLongRequest A.started A.scenario queued later s n → ⊥
  no_long queued later s n parts long =
      let now : Request = long.now in
      let calls : calls_to A.scenario s ≡ filter_map (call_to s) queued ++ now.call ∷ filter_map (call_to s) long.more =
      ap (filter_map (call_to s)) (parts ∙ ap (λ (rs : List Request). queued ++ rs) long.first) ∙ filter_map_append (call_to s) queued (now ∷ long.more)
      ∙ ap (λ (b : Bool). filter_map (call_to s) queued ++ cons_option (if b then Some now.call else None) (filter_map (call_to s) long.more)) (eq-eqb now.sim s long.sim) in
      let there : IsIn (call_text (0 + length (filter_map (call_to s) queued)) now.call) (setup_payloads A.scenario s) = subst (λ (cs : List Call). IsIn (call_text (0 + length (filter_map (call_to s) queued)) now.call) (call_payloads 0 cs)) (sym calls) (in_payloads 0 (filter_map (call_to s) queued) now.call (filter_map (call_to s) long.more)) in
      let fits : length (call_text (0 + length (filter_map (call_to s) queued)) now.call) ≤ limit = in_each IsFramed (call_text (0 + length (filter_map (call_to s) queued)) now.call) (setup_payloads A.scenario s) (w.links s long.link long.linked).framed there in
      let beyond = long.beyond in
      let bytes : n ≡ length (call_text (0 + length (filter_map (call_to s) queued)) now.call) = long.bytes ∙ ap (λ (id : ℕ). length (call_text id now.call)) (omega arith) in
      absurd (omega (arith, fits, beyond, bytes))

  pub faultless : (risen : Type 0) → (risen → ⊥) → IsFaultlessHandshake A risen
  faultless risen calm = record {
    right_replies = λ e s. no_fault s.answers s.last e s.faulty s.before s.after s.parts s.heard s.asked;
    counts = calm;
    open_links = λ i l e ended. (w.links i l e).lasts ended;
    right_frames = λ i l n e wrong. nothing_left (rest_heard (heard_on l A.log)) n (w.links i l e).whole wrong;
    short_requests = no_long;
  }
