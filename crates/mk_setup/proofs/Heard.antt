-- What `arrive` answers.
use Rattle.std.proofs.Common.{◌≡◌, ◌≢◌, ℕ, ◌+◌, ◌-◌, ◌<◌, ◌≤◌, ◌⊎◌, Bool, true, false, List, length, Option, Some, None, Result, Ok, Err, slice_get, refl, sym, ap, ◌∙◌, subst, inl, inr, arith, IfErr, OnOk, if◌then◌else◌, true≢false, eqb-true}
use Rattle.std.specs.Prelude.{option_map, unwrap_or, ◌&&◌, ◌==◌}
use Rattle.std.proofs.lemmas.Option.{slice_get_past, slice_get_within}
use Rattle.mk_base.specs.declared.SimNo.{SimNo}
use Rattle.mk_base.specs.declared.json.Json.{Json}
use Rattle.mk_base.proofs.Lists.{below_get, none_some, some_same}
use Rattle.mk_plan.specs.declared.Message.{Message}
use Rattle.mk_plan.specs.declared.Message.TheVariants.{Success, Failure}
use Rattle.mk_plan.specs.declared.Plan.{Plan}
use Rattle.mk_plan.specs.Journals.{Arrival}
use Rattle.mk_meta.specs.Metadata.{meta_in}
use Rattle.mk_scenario.specs.declared.parts.Scenario.{Scenario}
use Rattle.mk_scenario.specs.declared.parts.Group.{Group}
use Rattle.mk_run_laws.specs.Handshake.{Request, setup_requests}
use Rattle.mk_setup.specs.declared.fault.SetupFault.{SetupFault}
use Rattle.mk_setup.specs.declared.fault.SetupFault.TheVariants as fault
use Rattle.mk_setup.specs.Answers.{IsRefused}
use Rattle.mk_setup.specs.inner.Counts.{IsToSim, sim_after}
use Rattle.mk_setup.specs.inner.Kept.{IsAwaitedBy, IsGroupOf, IsUntaken, added_by, awaited_sim, is_awaited}
use Rattle.mk_setup.specs.Replies.{after_any, after_reply, arrival, is_reply, moved, outstanding, unless_faulty, with_entities, with_meta, with_reply}
use Rattle.mk_setup.specs.Requests.{group_of, id_before, request_of}
use Rattle.mk_setup.specs.Seen.{SetupState}
use Rattle.mk_setup.specs.inner.Standing.{IsSoundSetup}
use Rattle.mk_setup.proofs.Counting.{count_is, counted_length}
use Rattle.mk_setup.proofs.Sequence.{create_at, done_at, init_at, request_count}
use Rattle.mk_setup.proofs.Stepping.{counted_of, to_there}
use Rattle.mk_base.proofs.Bools.{both_hold}
use Rattle.mk_base.proofs.Counts.{same_self}

-- the simulator of the request that is outstanding
pub sim_there : (U : SetupState) (ids : List ℕ) (plan : Option Plan) (s : ℕ) → IsSoundSetup U ids plan → awaited_sim U ≡ Some s → s < length ids
sim_there U ids plan s st e =
    let long = counted_length U.scenario U.answered ids (counted_of U ids plan st) in
    let there = to_there U.scenario st.wellformed U.answered s (go U.asked e) in
    omega arith
  where
    go : (b : Bool) → option_map (λ (r : Request). r.sim) (if b then request_of U else None) ≡ Some s → IsToSim U.scenario U.answered s
    go true h = h
    go false h = absurd (none_some h)

outstanding_is : (U : SetupState) (s : ℕ) → awaited_sim U ≡ Some s → (r : Request) × (outstanding U ≡ Some r) × (r.sim ≡ s)
outstanding_is U s e = go (outstanding U) refl e
  where
    go : (o : Option Request) → outstanding U ≡ o → option_map (λ (r : Request). r.sim) o ≡ Some s → (r : Request) × (outstanding U ≡ Some r) × (r.sim ≡ s)
    go None is h = absurd (none_some h)
    go (Some r) is h = (r, is, some_same h)

-- the id is that of the request
pub id_tells : (U : SetupState) (ids : List ℕ) (plan : Option Plan) (s sim id n : ℕ) → IsSoundSetup U ids plan → awaited_sim U ≡ Some s → sim ≡ s → slice_get ids s ≡ Some n → (id == n) ≡ is_awaited U sim id
id_tells U ids plan s sim id n st e same at =
    let t = outstanding_is U s e in
    let r : Request = t.0 in
    let number : n ≡ id_before U.scenario U.answered r.sim = count_is U.scenario U.answered ids (counted_of U ids plan st) s n at ∙ ap (id_before U.scenario U.answered) (sym t.2) in
    let here : (sim == r.sim) ≡ true = ap (λ (k : ℕ). sim == k) (t.2 ∙ sym same) ∙ same_self sim in
    ap (λ (k : ℕ). id == k) number ∙ sym (ap (λ (b : Bool). b && (id == id_before U.scenario U.answered r.sim)) here) ∙ sym (ap (λ (o : Option Request). unwrap_or (option_map (λ (q : Request). is_reply U q sim id) o) false) t.1)

-- a request is outstanding that goes to the simulator and has the id
pub record IsHeard (U : SetupState) (sim id : ℕ) : Type 0 where
  pub request : Request
  pub outstanding : outstanding U ≡ Some request
  pub reply : is_reply U request sim id ≡ true
  pub asked : U.asked ≡ true
  pub next : IsToSim U.scenario U.answered sim
  pub to : request.sim ≡ sim

pub heard : (U : SetupState) (sim id : ℕ) → is_awaited U sim id ≡ true → IsHeard U sim id
heard U sim id e = go (outstanding U) refl e
  where
    from : (b : Bool) → U.asked ≡ b → (r : Request) → (if b then request_of U else None) ≡ Some r → is_reply U r sim id ≡ true → outstanding U ≡ Some r → IsHeard U sim id
    from true asked r is h o =
        let to : r.sim ≡ sim = sym (eqb-true sim r.sim (both_hold (sim == r.sim) _ h).0) in
        record { request = r; outstanding = o; reply = h; asked = asked; next = ap (option_map (λ (q : Request). q.sim)) is ∙ ap Some to; to = to }
    from false asked r is h o = absurd (none_some is)

    go : (o : Option Request) → outstanding U ≡ o → unwrap_or (option_map (λ (q : Request). is_reply U q sim id) o) false ≡ true → IsHeard U sim id
    go None is h = absurd (true≢false (sym h))
    go (Some r) is h = from U.asked refl r is h is

pub heard_by : (U : SetupState) (sim id : ℕ) (h : IsHeard U sim id) → IsAwaitedBy U sim h.request
heard_by U sim id h = record { outstanding = h.outstanding; to = h.to }

-- the request that is outstanding is the next
request_by : (U : SetupState) (sim : ℕ) (r : Request) → IsAwaitedBy U sim r → request_of U ≡ Some r
request_by U sim r by = go U.asked by.outstanding
  where
    go : (b : Bool) → (if b then request_of U else None) ≡ Some r → request_of U ≡ Some r
    go true h = h
    go false h = absurd (none_some h)

-- a success reply to it, and a failure reply
pub success_is : (U : SetupState) (sim : SimNo) (id : ℕ) (content : Json) → U.fault ≡ None → (h : IsHeard U sim.0 id) → after_reply U (arrival sim (Success id content)) ≡ with_reply U sim h.request.call content
success_is U sim id content going h = (λ i. unless_faulty (going i) (after_any U (h.outstanding i) sim (Success id content)))
    ∙ ap (λ (b : Bool). if b then with_reply U sim h.request.call content else Err (fault.Unasked sim)) h.reply

pub failure_is : (U : SetupState) (sim : SimNo) (id : ℕ) (text : List ℕ) → U.fault ≡ None → IsHeard U sim.0 id → after_reply U (arrival sim (Failure id text)) ≡ Err (fault.Failed sim text)
failure_is U sim id text going h = (λ i. unless_faulty (going i) (after_any U (h.outstanding i) sim (Failure id text)))
    ∙ ap (λ (b : Bool). Err (if b then fault.Failed sim text else fault.Unasked sim)) h.reply

-- what a reply to each of the requests adds
pub init_adds : (U : SetupState) (sim : SimNo) (r : Request) (content : Json) (i : ℕ) → IsAwaitedBy U sim.0 r → U.answered ≡ i → i < length U.scenario.sims → with_reply U sim r.call content ≡ with_meta U sim (meta_in content)
init_adds U sim r content i by at below =
    let t = below_get U.scenario.sims U.answered (omega arith) in
    ap (λ (q : Request). with_reply U sim q.call content) (some_same (sym (request_by U sim.0 r by) ∙ init_at U.scenario U.answered t.0 t.1))

pub create_adds : (U : SetupState) (sim : SimNo) (r : Request) (content : Json) (group : ℕ) (g : Group) → IsAwaitedBy U sim.0 r → U.answered ≡ length U.scenario.sims + group → slice_get U.scenario.groups group ≡ Some g → with_reply U sim r.call content ≡ with_entities U sim (added_by U sim group g content)
create_adds U sim r content group g by at there =
    let number : group_of U ≡ group = omega arith in
    ap (λ (q : Request). with_reply U sim q.call content) (some_same (sym (request_by U sim.0 r by) ∙ create_at U.scenario U.answered group g at there)) ∙ ap (λ (k : ℕ). with_entities U sim (added_by U sim k g content)) number

pub done_adds : (U : SetupState) (sim : SimNo) (r : Request) (content : Json) → IsAwaitedBy U sim.0 r → length U.scenario.sims + length U.scenario.groups ≤ U.answered → with_reply U sim r.call content ≡ Ok (moved U)
done_adds U sim r content by late =
    let is : request_of U ≡ Some r = request_by U sim.0 r by in
    let within : U.answered < length (setup_requests U.scenario) = slice_get_within (setup_requests U.scenario) U.answered r is in
    let count = request_count U.scenario in
    let k : ℕ = U.answered - (length U.scenario.sims + length U.scenario.groups) in
    ap (λ (q : Request). with_reply U sim q.call content) (some_same (sym is ∙ done_at U.scenario U.answered k (omega arith) (omega arith)))

-- the simulator of the next request, by its stage
pub init_sim : (S : Scenario) (k i sim : ℕ) → IsToSim S k sim → k ≡ i → i < length S.sims → k ≡ sim
init_sim S k i sim to at below = let t = below_get S.sims k (omega arith) in some_same (sym (ap (option_map (λ (r : Request). r.sim)) (init_at S k t.0 t.1)) ∙ to)

pub create_sim : (S : Scenario) (k group sim : ℕ) → IsToSim S k sim → k ≡ length S.sims + group → group < length S.groups → IsGroupOf S group sim
create_sim S k group sim to at below = let t = below_get S.groups group below in (t.0, t.1, some_same (sym (ap (option_map (λ (r : Request). r.sim)) (create_at S k group t.0 at t.1)) ∙ to))

pub none_after : (S : Scenario) (k : ℕ) → length S.sims + length S.groups + length S.sims ≤ k → sim_after S k ≡ None
none_after S k late = let c = request_count S in ap (option_map (λ (r : Request). r.sim)) (slice_get_past (setup_requests S) k (omega arith))

-- ---- by the answers of calls

pub init_ok : (U V : SetupState) (sim : SimNo) (content : Json) (i : ℕ) (res : Result (Unit {0}) SetupFault) → U.answered ≡ i → i < length U.scenario.sims → OnOk res (with_meta U sim (meta_in content) ≡ Ok V)
    → OnOk res ((r : Request) → IsAwaitedBy U sim.0 r → with_reply U sim r.call content ≡ Ok V)
init_ok U V sim content i (Ok u) at below h = λ r by. init_adds U sim r content i by at below ∙ h
init_ok U V sim content i (Err e) at below h = tt

pub init_untaken : (U V : SetupState) (sim : SimNo) (content : Json) (i : ℕ) (res : Result (Unit {0}) SetupFault) → U.answered ≡ i → i < length U.scenario.sims → IfErr res (λ e. IsUntaken (with_meta U sim (meta_in content)) U e V)
    → IfErr res (λ e. (r : Request) → IsAwaitedBy U sim.0 r → IsUntaken (with_reply U sim r.call content) U e V)
init_untaken U V sim content i (Ok u) at below h = tt
init_untaken U V sim content i (Err e) at below h = λ r by. subst (λ (v : Result SetupState SetupFault). IsUntaken v U e V) (sym (init_adds U sim r content i by at below)) h

pub create_ok : (U V : SetupState) (sim : SimNo) (content : Json) (group : ℕ) (res : Result (Unit {0}) SetupFault) → U.answered ≡ length U.scenario.sims + group → group < length U.scenario.groups
    → OnOk res ((g : Group) → slice_get U.scenario.groups group ≡ Some g → with_entities U sim (added_by U sim group g content) ≡ Ok V) → OnOk res ((r : Request) → IsAwaitedBy U sim.0 r → with_reply U sim r.call content ≡ Ok V)
create_ok U V sim content group (Ok u) at below h = λ r by. let t = below_get U.scenario.groups group below in create_adds U sim r content group t.0 by at t.1 ∙ h t.0 t.1
create_ok U V sim content group (Err e) at below h = tt

pub create_untaken : (U V : SetupState) (sim : SimNo) (content : Json) (group : ℕ) (res : Result (Unit {0}) SetupFault) → U.answered ≡ length U.scenario.sims + group → group < length U.scenario.groups
    → IfErr res (λ e. (g : Group) → slice_get U.scenario.groups group ≡ Some g → IsUntaken (with_entities U sim (added_by U sim group g content)) U e V) → IfErr res (λ e. (r : Request) → IsAwaitedBy U sim.0 r → IsUntaken (with_reply U sim r.call content) U e V)
create_untaken U V sim content group (Ok u) at below h = tt
create_untaken U V sim content group (Err e) at below h = λ r by. let t = below_get U.scenario.groups group below in subst (λ (v : Result SetupState SetupFault). IsUntaken v U e V) (sym (create_adds U sim r content group t.0 by at t.1)) (h t.0 t.1)

pub done_ok : (U V : SetupState) (sim : SimNo) (content : Json) → length U.scenario.sims + length U.scenario.groups ≤ U.answered → V ≡ moved U → (r : Request) → IsAwaitedBy U sim.0 r → with_reply U sim r.call content ≡ Ok V
done_ok U V sim content late same r by = done_adds U sim r content by late ∙ (λ i. Ok (sym same i))

pub taken_ok : (U V : SetupState) (sim : SimNo) (id : ℕ) (content : Json) (m : Message) (res : Result (Unit {0}) SetupFault) → U.fault ≡ None → m ≡ Success id content → IsHeard U sim.0 id
    → OnOk res ((r : Request) → IsAwaitedBy U sim.0 r → with_reply U sim r.call content ≡ Ok V) → OnOk res (after_reply U (arrival sim m) ≡ Ok V)
taken_ok U V sim id content m (Ok u) going is by h = ap (λ (n : Message). after_reply U (arrival sim n)) is ∙ success_is U sim id content going by ∙ h by.request (heard_by U sim.0 id by)
taken_ok U V sim id content m (Err e) going is by h = tt

pub taken_untaken : (U V : SetupState) (sim : SimNo) (id : ℕ) (content : Json) (m : Message) (res : Result (Unit {0}) SetupFault) → U.fault ≡ None → m ≡ Success id content → IsHeard U sim.0 id
    → IfErr res (λ e. (r : Request) → IsAwaitedBy U sim.0 r → IsUntaken (with_reply U sim r.call content) U e V) → IfErr res (λ e. IsUntaken (after_reply U (arrival sim m)) U e V)
taken_untaken U V sim id content m (Ok u) going is by h = tt
taken_untaken U V sim id content m (Err e) going is by h = subst (λ (v : Result SetupState SetupFault). IsUntaken v U e V) (sym (ap (λ (n : Message). after_reply U (arrival sim n)) is ∙ success_is U sim id content going by)) (h by.request (heard_by U sim.0 id by))

-- a message that isn't taken, and what is kept of its fault
pub refused_by : (U W : SetupState) (a : Arrival) (f e : SetupFault) (kept : Option SetupFault) → U.fault ≡ None → IsUntaken (after_reply U a) U f W → ((e ≡ fault.Mem) × (kept ≡ None)) ⊎ ((e ≡ f) × (kept ≡ Some f) × (f ≢ fault.Mem)) → IsRefused U a e (record W { fault = kept })
refused_by U W a f e kept going h (inl t) = inl (t.0, (λ i. record (h.same i) { fault = (t.1 ∙ sym going) i }))
refused_by U W a f e kept going h (inr t) = go h.fault
  where
    go : (f ≡ fault.Mem) ⊎ (after_reply U a ≡ Err f) → IsRefused U a e (record W { fault = kept })
    go (inl m) = absurd (t.2 m)
    go (inr s) = inr (record { fault = s ∙ ap Err (sym t.0); lasts = (λ i. record (h.same i) { fault = (t.1 ∙ ap Some (sym t.0)) i }) })

-- no fault was met before
pub no_fault : {X : Type 0} → (o : Option X) → ((x : X) → o ≡ Some x → ⊥) → o ≡ None
no_fault None h = refl
no_fault (Some x) h = absurd (h x refl)
