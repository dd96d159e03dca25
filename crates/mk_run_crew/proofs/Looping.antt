-- The handshake as a loop: what each of its steps leaves.
use Rattle.std.proofs.Common.{◌≡◌, ℕ, suc, ◌-◌, ◌<◌, false, List, [], ◌∷◌, ◌++◌, length, Option, Some, None, slice_get, option_map, refl, sym, ap, ◌∙◌, subst, inl, inr, true≢false, arith, fold, map, take, filter_map}
use Rattle.std.specs.Prelude.{is_some}
use Rattle.mk_base.specs.declared.LinkNo.{LinkNo}
use Rattle.mk_base.specs.declared.SimNo.{SimNo}
use Rattle.mk_base.proofs.Lists.{append_nil, get_is, some_same}
use Rattle.mk_outside.specs.declared.fleet.LogEntry.{LogEntry}
use Rattle.mk_plan.specs.declared.Call.{Call}
use Rattle.mk_plan.specs.declared.Plan.{Plan}
use Rattle.mk_scenario.specs.declared.parts.Scenario.{Scenario}
use Rattle.mk_launch.specs.Ready.{IsPrepared}
use Rattle.mk_run_crew.specs.Attempts.{Attempt, attempt, longer}
use Rattle.mk_local.specs.declared.turn.Turn.{Turn}
use Rattle.mk_local.specs.Calls.{after_call, IsCallReplied}
use Rattle.mk_local.specs.Kinds.{name_of}
use Rattle.mk_local.specs.Simulators.{Simulator}
use Rattle.mk_run_laws.specs.Channels.{Channel}
use Rattle.mk_run_laws.specs.Handshake.{Request, setup_requests, setup_count, call_to, sim_link}
use Rattle.mk_setup.specs.declared.fault.SetupFault.{SetupFault}
use Rattle.mk_setup.specs.declared.fault.SetupFault.TheVariants as fault
use Rattle.mk_setup.specs.Answers.{IsReady, IsRequested, GivesNoRequest}
use Rattle.mk_setup.specs.Handshakes.{IsFaultyAfter, IsReached, begun}
use Rattle.mk_setup.specs.Laws.{IsOfReplies, RepliesMake}
use Rattle.mk_setup.specs.Replies.{arrival}
use Rattle.mk_setup.specs.Requests.{id_before, request_of}
use Rattle.mk_setup.specs.Seen.{SetupState}
use Rattle.mk_run_links.specs.Places.{AreOpen, Channels, at}
use Rattle.mk_run_links.proofs.Beginning.{channel_was}
use Rattle.mk_run_local.specs.Made.{first_at}
use Rattle.mk_run_crew.specs.declared.asking.Stage.{Stage}
use Rattle.mk_run_crew.specs.declared.asking.Stage.TheVariants as stages
use Rattle.mk_run_crew.specs.declared.halt.Halt.{Halt}
use Rattle.mk_run_crew.specs.declared.halt.Halt.TheVariants as halt
use Rattle.mk_run_crew.specs.inner.Asking.{Answers, AnswersNot, ComesTo, GoesSoFar, IsHalting, IsNewCrew, IsStepped, StepsNot, StepsTo, setup_halt}
use Rattle.mk_run_crew.specs.Begun.{HasBegun}
use Rattle.mk_run_crew.specs.Halted.{ShowsCause}
use Rattle.mk_run_crew.specs.Seen.{CrewSeen, is_here}
use Rattle.mk_run_crew.proofs.Ending.{begun_now}
use Rattle.mk_run_crew.proofs.Going.{none_answered, on_link_more, within_more}
use Rattle.mk_run_crew.proofs.Halting.{next_halts, refused_on_link, refused_within, unasked_halts, unheard_halts}
use Rattle.mk_run_crew.proofs.Requests.{are_replied, count_pushed}
use Rattle.mk_run_crew.proofs.Simulators.{else_linked, placed_link}

-- the channels of a new crew are of open links
pub new_open : (started : ℕ) (rows : List Turn) (S : Scenario) (open_links : List LinkNo) (C : CrewSeen) → IsNewCrew started rows S open_links C → AreOpen C.channels open_links
new_open started rows S open_links C n i w e =
    let put = ap (λ (ps : List (Option LinkNo)). slice_get ps i) (sym n.places) ∙ channel_was C.places i w (ap (λ (L : Channels). at L i) (sym n.channels) ∙ e) in
    n.are_open i w.link (placed_link started S i w.link put)

-- a halt of a handshake that the fleet had no part in is one whatever its count of faults does
pub halting_anyhow : (A : Attempt) (risen : Type 0) (h : Halt) (C : CrewSeen) → IsHalting A ⊥ h C → IsHalting A risen h C
halting_anyhow A risen h C g = record { queued = g.queued; later = g.later; parts = g.parts; channels = g.channels; back = g.back; rests = g.rests; cause = cause h g.cause; answered = g.answered; on_links = g.on_links }
  where
    cause : (k : Halt) → ShowsCause A ⊥ g.queued g.later k → ShowsCause A risen g.queued g.later k
    cause (halt.Setup fault) c = c
    cause halt.Fleet c = absurd c
    cause (halt.Gone sim) c = c
    cause (halt.Garbled sim test) c = c
    cause (halt.LongFrame sim n) c = c
    cause (halt.LongItem sim n) c = c
    cause halt.Mem c = c

-- an attempt by which nothing more was added
no_longer : (A : Attempt) → longer A [] ≡ A
no_longer A = ap (attempt A.started A.scenario A.ranks A.rows) (append_nil A.log)

-- the next request gets a reply
pub next_replied : (U V : SetupState) (sim : SimNo) (call : Call) (id : ℕ) → IsRequested U sim call id V → IsCallReplied call
next_replied U V sim call id q = are_replied U.scenario U.answered (record { sim = sim.0; call = call }) q.request

unfirst : (o : Option Simulator) (calls : List Call) → is_some (option_map (λ (L : Simulator). fold after_call L calls) o) ≡ false → o ≡ None
unfirst None calls e = refl
unfirst (Some L) calls e = absurd (true≢false e)

module _ (laws : RepliesMake) (started : ℕ) (S : Scenario) (ranks : List ℕ) (rows : List Turn) where
  pub starts : (open_links : List LinkNo) (C : CrewSeen) (U : SetupState) → IsPrepared S (map name_of rows) → IsNewCrew started rows S open_links C → U ≡ begun S ranks → GoesSoFar (attempt started S ranks rows []) C U
  starts open_links C U prepared new is = record {
    prepared = prepared;
    answers = [];
    reached = subst (IsReached S ranks []) (sym is) (laws.begins S ranks);
    resting = ap (λ (V : SetupState). V.asked) is;
    answered = none_answered started S rows open_links C new;
  }

module _ (laws : RepliesMake) (A : Attempt) (C : CrewSeen) (U : SetupState) (g : GoesSoFar A C U) where
  known : IsOfReplies A.scenario A.ranks g.answers U
  known = laws.stands A.scenario A.ranks g.answers U g.reached

  -- all have answered
  pub ends : (V : SetupState) (P : Plan) → IsReady U P V → HasBegun A C P
  ends V P ready =
      begun_now A.started A.scenario A.ranks A.rows A.log g.answers C P g.answered (laws.makes A.scenario A.ranks g.answers U V P g.reached ready) ready.valid (ready.sims ∙ ap (λ (X : Scenario). length X.sims) known.scenario)
      (λ i less. ready.first i (subst (λ (X : Scenario). i < length X.sims) (sym known.scenario) less) ∙ ap (λ (X : Scenario). setup_count X i) known.scenario)

  -- the next request can't be made
  pub stops : (risen : Type 0) (V : SetupState) (e : SetupFault) → GivesNoRequest U e V → IsHalting A risen (setup_halt e) C
  stops risen V e unready = next_halts A.started A.scenario A.ranks A.rows A.log risen g.answers C e g.answered (λ some. elim unready [ inl t ↦ absurd (some t.0) | inr s ↦ laws.stops A.scenario A.ranks g.answers U V e g.reached s ])

  -- ---- the next request

  module _ (W : SetupState) (sim : SimNo) (call : Call) (id : ℕ) (q : IsRequested U sim call id W) where
    asked : slice_get (setup_requests A.scenario) (length g.answers) ≡ Some (record { sim = sim.0; call = call })
    asked = ap (λ (X : Scenario). slice_get (setup_requests X) (length g.answers)) (sym known.scenario) ∙ ap (slice_get (setup_requests U.scenario)) (sym known.count) ∙ q.request

    numbered : id ≡ id_before A.scenario (length g.answers) sim.0
    numbered = q.numbered ∙ ap (λ (X : Scenario). id_before X U.answered sim.0) known.scenario ∙ ap (λ (n : ℕ). id_before A.scenario n sim.0) known.count

    reached : IsReached A.scenario A.ranks g.answers W
    reached = laws.asks A.scenario A.ranks g.answers U W sim call id g.reached q

    -- its simulator has a link, unless it is within the program
    pub next_linked : is_here C sim.0 ≡ false → (l : LinkNo) × (sim_link A.started A.scenario sim.0 ≡ Some l)
    next_linked away = else_linked A.rows A.started A.scenario g.prepared sim.0 (subst (λ (X : Scenario). sim.0 < length X.sims) known.scenario q.there)
        (unfirst (first_at A.rows A.scenario sim.0) (filter_map (call_to sim.0) (take (length g.answers) (setup_requests A.scenario))) (ap is_some (sym ((g.answered).sims sim.0)) ∙ away))

    -- and a channel
    pub next_channel : is_here C sim.0 ≡ false → (w : Channel) × (at C.channels sim.0 ≡ Some w)
    next_channel away = let l = next_linked away in let t = ((g.answered).between).channels sim.0 l.0 l.1 in (t.0, t.1)

    -- it was answered
    pub goes_on : (entries : List LogEntry) (D : CrewSeen) (V : SetupState) → Answers sim.0 call id entries C D W V → D.places ≡ C.places → GoesSoFar (longer A entries) D V
    goes_on entries D V a same_places = record {
      prepared = g.prepared;
      answers = g.answers ++ a.message ∷ [];
      reached = laws.takes A.scenario A.ranks g.answers W V (arrival a.from a.message) reached a.taken;
      resting = laws.rests W V (arrival a.from a.message) a.taken;
      answered = elim a.asks [
        | inl w ↦ within_more A.started A.scenario A.rows A.log entries g.answers C D (record { sim = sim.0; call = call }) id (a.from).0 a.message g.answered asked numbered w same_places
        | inr k ↦ let l = next_linked k.away in on_link_more A.started A.scenario A.rows A.log entries g.answers C D (record { sim = sim.0; call = call }) id (a.from).0 l.0 a.message g.answered asked numbered l.1 own k same_places
      ];
    }
      where
        own : (a.from).0 ≡ sim.0
        own = let c = laws.comes W V (arrival a.from a.message) a.taken in
            ap (λ (r : Request). r.sim) (some_same (sym c.1 ∙ ap request_of q.asked ∙ q.request))

    -- then one request less is left
    pub fewer_left : (entries : List LogEntry) (D : CrewSeen) (V : SetupState) → Answers sim.0 call id entries C D W V → length (setup_requests V.scenario) - V.answered < length (setup_requests U.scenario) - U.answered
    fewer_left entries D V a =
        let low : U.answered < length (setup_requests U.scenario) = (get_is (setup_requests U.scenario) U.answered (record { sim = sim.0; call = call }) q.request).0 in
        let more : IsOfReplies A.scenario A.ranks (g.answers ++ a.message ∷ []) V = laws.stands A.scenario A.ranks (g.answers ++ a.message ∷ []) V (laws.takes A.scenario A.ranks g.answers W V (arrival a.from a.message) reached a.taken) in
        let count : V.answered ≡ suc U.answered = more.count ∙ count_pushed g.answers a.message ∙ ap suc (sym known.count) in
        subst (λ (X : Scenario). length (setup_requests X) - V.answered < length (setup_requests U.scenario) - U.answered) (known.scenario ∙ sym more.scenario) (omega (arith, low, count))

    -- it wasn't made, or wasn't answered rightly
    pub halts : (entries : List LogEntry) (risen all_risen : Type 0) (h : Halt) (D : CrewSeen) → (risen → all_risen) → AnswersNot risen h sim.0 call id entries C D W → D.places ≡ C.places → IsHalting (longer A entries) all_risen h D
    halts entries risen all_risen h D on (inl fails) same_places = elim fails.0 [
      | inl n ↦ unasked_halts A.started A.scenario A.ranks A.rows A.log entries all_risen h g.answers C D (record { sim = sim.0; call = call }) id g.answered asked numbered next_linked n
      | inr v ↦ let l = next_linked v.away in unheard_halts A.started A.scenario A.ranks A.rows A.log entries all_risen h g.answers C D (record { sim = sim.0; call = call }) id l.0 g.answered asked numbered l.1 (λ e. on (fails.1 e)) v
    ]
    halts entries risen all_risen h D on (inr n) same_places = subst (λ (x : Halt). IsHalting (longer A entries) all_risen x D) (sym (n.untaken).is) (elim n.asks [
      | inl w ↦ refused_within A.started A.scenario A.ranks A.rows A.log entries all_risen g.answers C D (record { sim = sim.0; call = call }) id (n.from).0 n.message (n.untaken).fault g.answered asked numbered w same_places faulty
      | inr k ↦ let l = next_linked k.away in refused_on_link A.started A.scenario A.ranks A.rows A.log entries all_risen g.answers C D (record { sim = sim.0; call = call }) id (n.from).0 l.0 n.message (n.untaken).fault g.answered asked numbered l.1 k faulty
    ])
      where
        faulty : ((n.untaken).fault ≡ fault.Mem → ⊥) → IsFaultyAfter A.scenario A.ranks g.answers (Some (record { sim = (n.from).0; message = n.message })) (n.untaken).fault
        faulty some = elim (n.untaken).refused [
          | inl t ↦ absurd (some t.0)
          | inr f ↦ laws.refuses A.scenario A.ranks g.answers W (arrival n.from n.message) (n.untaken).fault reached (ap (λ (X : SetupState). X.asked) q.asked) f.fault
        ]

  -- ---- a step within the program, by which the log doesn't grow

  pub steps_on : (D : CrewSeen) (V : SetupState) → IsStepped C D U V → D.places ≡ C.places → GoesSoFar A D V
  steps_on D V s same_places = subst (λ (B : Attempt). GoesSoFar B D V) (no_longer A) (goes_on s.state s.sim s.call s.id s.requested [] D V s.answers same_places)

  pub steps_fewer : (D : CrewSeen) (V : SetupState) → IsStepped C D U V → length (setup_requests V.scenario) - V.answered < length (setup_requests U.scenario) - U.answered
  steps_fewer D V s = fewer_left s.state s.sim s.call s.id s.requested [] D V s.answers

  pub steps_to : (stage : Stage) (D : CrewSeen) (V : SetupState) → StepsTo (Some stage) C D U V → ComesTo A stage D V
  steps_to (stages.Linked sim call id) D V s = record { state = U; so_far = subst (λ (X : CrewSeen). GoesSoFar A X U) (sym s.0) g; requested = s.1; away = s.2; channel = channelled }
    where
      channelled : (w : Channel) × (at D.channels sim.0 ≡ Some w)
      channelled = subst (λ (X : CrewSeen). (w : Channel) × (at X.channels sim.0 ≡ Some w)) (sym s.0) (next_channel V sim call id s.1 (subst (λ (X : CrewSeen). is_here X sim.0 ≡ false) s.0 s.2))
  steps_to (stages.Planned P) D V s = subst (λ (X : CrewSeen). HasBegun A X P) (sym s.0) (ends V P s.1)

  pub steps_not : (h : Halt) (D : CrewSeen) → StepsNot h C D U → D.places ≡ C.places → IsHalting A ⊥ h D
  steps_not h D (inl s) same_places = subst (λ (B : Attempt). IsHalting B ⊥ h D) (no_longer A) (halts s.state s.sim s.call s.id s.requested [] ⊥ ⊥ h D (λ r. r) s.failed same_places)
  steps_not h D (inr u) same_places = subst (λ (X : CrewSeen). IsHalting A ⊥ h X) (sym u.same) (subst (λ (x : Halt). IsHalting A ⊥ x C) (sym u.is) (stops ⊥ u.state u.fault u.unready))
