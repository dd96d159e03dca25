-- What `next` answers.
use Rattle.std.proofs.Common.{◌≡◌, ◌≢◌, ℕ, ◌+◌, ◌<◌, ◌≤◌, ◌⊎◌, true, false, List, [], length, Option, Some, None, Result, Ok, Err, slice_get, refl, sym, ap, ◌∙◌, inl, inr, arith, IfErr, OnOk}
use Rattle.std.specs.Prelude.{unwrap_or}
use Rattle.std.proofs.lemmas.Option.{slice_get_past}
use Rattle.mk_base.specs.declared.SimNo.{SimNo}
use Rattle.mk_base.specs.declared.SimKind.TheVariants.{TimeBased}
use Rattle.mk_plan.specs.declared.Call.{Call}
use Rattle.mk_plan.specs.declared.Call.TheVariants.{Init, Create}
use Rattle.mk_plan.specs.declared.Plan.{Plan}
use Rattle.mk_meta.specs.declared.meta.Meta.{Meta}
use Rattle.mk_connect_pairs.specs.declared.fault.ConnectFault.{ConnectFault}
use Rattle.mk_connect_pairs.specs.declared.fault.ConnectFault.TheVariants as connect
use Rattle.mk_connect_pairs.specs.Faults.{IsFaultOf}
use Rattle.mk_connect_pairs.specs.Groups.{fault_of_group}
use Rattle.mk_scenario.specs.declared.parts.Scenario.{Scenario}
use Rattle.mk_scenario.specs.declared.parts.Group.{Group}
use Rattle.mk_scenario.specs.declared.parts.SimPart.{SimPart}
use Rattle.mk_run_laws.specs.Handshake.{setup_requests}
use Rattle.mk_setup.specs.declared.fault.SetupFault.{SetupFault}
use Rattle.mk_setup.specs.declared.fault.SetupFault.TheVariants as fault
use Rattle.mk_setup.specs.Answers.{IsReady, IsRequested, GivesNoRequest}
use Rattle.mk_setup.specs.Asking.{fault_before, lasting, plan_of, refusal, test_before}
use Rattle.mk_setup.specs.inner.Kept.{IsHindered}
use Rattle.mk_setup.specs.Requests.{group_of, meta_of, request_of}
use Rattle.mk_setup.specs.Seen.{SetupState}
use Rattle.mk_setup.specs.inner.Standing.{IsPlanOf, IsSoundSetup}
use Rattle.mk_setup.proofs.Counting.{count_is, count_small}
use Rattle.mk_setup.proofs.Sequence.{create_at, create_of, done_at, init_at, request_count}
use Rattle.mk_setup.proofs.Stepping.{counted_of, request_fits}

pub requested : (U : SetupState) (ids : List ℕ) (plan : Option Plan) (sim : SimNo) (call : Call) (id : ℕ) → IsSoundSetup U ids plan → U.fault ≡ None → U.asked ≡ false → request_of U ≡ Some (record { sim = sim.0; call = call })
    → test_before U (request_of U) ≡ None → slice_get ids sim.0 ≡ Some id → IsRequested U sim call id (record U { asked = true })
requested U ids plan sim call id s going resting request tested at =
    let fits = request_fits U.scenario s.wellformed U.answered (record { sim = sim.0; call = call }) request in
    record {
      going = going;
      resting = resting;
      request = request;
      there = fits.0;
      in_range = fits.1;
      tested = tested;
      numbered = count_is U.scenario U.answered ids (counted_of U ids plan s) sim.0 id at;
      few = count_small U.scenario U.answered ids (counted_of U ids plan s) sim.0 id at;
      asked = refl;
    }

pub init_request : (S : Scenario) (k sim : ℕ) (part : SimPart) (call : Call) → k ≡ sim → slice_get S.sims sim ≡ Some part → call ≡ Init part.id part.params → slice_get (setup_requests S) k ≡ Some (record { sim = sim; call = call })
init_request S k sim part call at there is = init_at S k part (ap (slice_get S.sims) at ∙ there) ∙ (λ i. Some (record { sim = at i; call = sym is i }))

pub init_tested : (U : SetupState) (sim : ℕ) (part : SimPart) → U.answered ≡ sim → slice_get U.scenario.sims sim ≡ Some part → test_before U (request_of U) ≡ None
init_tested U sim part at there = ap (test_before U) (init_at U.scenario U.answered part (ap (slice_get U.scenario.sims) at ∙ there))

pub create_request : (S : Scenario) (k group : ℕ) (g : Group) (call : Call) → k ≡ length S.sims + group → slice_get S.groups group ≡ Some g → call ≡ Create g.num g.model g.params → slice_get (setup_requests S) k ≡ Some (record { sim = g.sim.0; call = call })
create_request S k group g call at there is = create_at S k group g at there ∙ (λ i. Some (record { sim = g.sim.0; call = sym is i }))

pub create_test : (U : SetupState) (group : ℕ) (g : Group) (meta : Meta) → U.answered ≡ length U.scenario.sims + group → slice_get U.scenario.groups group ≡ Some g → slice_get U.metas g.sim.0 ≡ Some meta → test_before U (request_of U) ≡ fault_of_group U.scenario group meta
create_test U group g meta at there said =
    let number : group_of U ≡ group = omega arith in
    let metas : meta_of U g.sim.0 ≡ meta = ap (λ (o : Option Meta). unwrap_or o (record { kind = TimeBased; models = [] })) said in
    ap (test_before U) (create_at U.scenario U.answered group g at there) ∙ (λ i. fault_of_group U.scenario (number i) (metas i))

-- the metadata of each simulator is there once groups are created
pub meta_there : (U : SetupState) (ids : List ℕ) (plan : Option Plan) (group : ℕ) (g : Group) → IsSoundSetup U ids plan → U.answered ≡ length U.scenario.sims + group → slice_get U.scenario.groups group ≡ Some g → g.sim.0 < length U.metas
meta_there U ids plan group g s at there =
    let below : g.sim.0 < length U.scenario.sims = (request_fits U.scenario s.wellformed U.answered (create_of g) (create_at U.scenario U.answered group g at there)).0 in
    let said = s.said in
    omega arith

-- the test of a group, by the answer of its call
pub group_tested : (U : SetupState) (group : ℕ) (g : Group) (meta : Meta) (r : Result (Unit {0}) ConnectFault) → U.answered ≡ length U.scenario.sims + group → slice_get U.scenario.groups group ≡ Some g → slice_get U.metas g.sim.0 ≡ Some meta
    → OnOk r (fault_of_group U.scenario group meta ≡ None) → OnOk r (test_before U (request_of U) ≡ None)
group_tested U group g meta (Ok u) at there said h = create_test U group g meta at there said ∙ h
group_tested U group g meta (Err e) at there said h = tt

pub group_refused : (U : SetupState) (group : ℕ) (g : Group) (meta : Meta) (r : Result (Unit {0}) ConnectFault) → U.answered ≡ length U.scenario.sims + group → slice_get U.scenario.groups group ≡ Some g → slice_get U.metas g.sim.0 ≡ Some meta
    → IfErr r (λ e. (e ≡ connect.Mem) ⊎ (fault_of_group U.scenario group meta ≡ Some e)) → IfErr r (λ e. (e ≡ connect.Mem) ⊎ (test_before U (request_of U) ≡ Some e))
group_refused U group g meta (Ok u) at there said h = tt
group_refused U group g meta (Err e) at there said (inl m) = inl m
group_refused U group g meta (Err e) at there said (inr f) = inr (create_test U group g meta at there said ∙ f)

pub hindered : (U V : SetupState) (f : ConnectFault) (e : SetupFault) → U.fault ≡ None → U.asked ≡ false → V ≡ U → (f ≡ connect.Mem) ⊎ (test_before U (request_of U) ≡ Some f) → (e ≡ fault.Mem) ⊎ ((e ≡ fault.Connect f) × (f ≢ connect.Mem)) → IsHindered U e V
hindered U V f e going resting same why (inl m) = record { same = same; fault = inl m }
hindered U V f e going resting same (inl m) (inr t) = absurd (t.1 m)
hindered U V f e going resting same (inr h) (inr t) = record { same = same; fault = inr (resting, (λ i. lasting (going i) (h i)) ∙ ap Some (sym t.0)) }

pub plan_hinders : (U : SetupState) (f : ConnectFault) → test_before U (request_of U) ≡ refusal (plan_of U) → IsFaultOf (plan_of U) f → (f ≡ connect.Mem) ⊎ (test_before U (request_of U) ≡ Some f)
plan_hinders U f is (inl m) = inl m
plan_hinders U f is (inr e) = inr (is ∙ ap refusal e)

pub done_test : (U : SetupState) (sim : ℕ) → U.answered ≡ length U.scenario.sims + length U.scenario.groups + sim → sim < length U.scenario.sims → test_before U (request_of U) ≡ refusal (plan_of U)
done_test U sim at below = ap (test_before U) (done_at U.scenario U.answered sim at below)

pub last_test : (U : SetupState) → U.answered ≡ length U.scenario.sims + length U.scenario.groups + length U.scenario.sims → test_before U (request_of U) ≡ refusal (plan_of U)
last_test U at = let c = request_count U.scenario in ap (test_before U) (slice_get_past (setup_requests U.scenario) U.answered (omega arith))

pub ready : (U V : SetupState) (P : Plan) → U.fault ≡ None → U.asked ≡ false → U.answered ≡ length U.scenario.sims + length U.scenario.groups + length U.scenario.sims → IsPlanOf U P → V ≡ U → IsReady U P V
ready U V P going resting at p same = record { going = going; resting = resting; all = at ∙ sym (request_count U.scenario); plan = p.made; valid = p.valid; sims = p.sims; first = p.first; same = same }

pub at_end : (U : SetupState) (ids : List ℕ) (plan : Option Plan) → IsSoundSetup U ids plan → length U.scenario.sims + length U.scenario.groups + length U.scenario.sims ≤ U.answered → U.answered ≡ length U.scenario.sims + length U.scenario.groups + length U.scenario.sims
at_end U ids plan s late = let c = request_count U.scenario in let w = s.within in omega arith

-- a fault that stands in the way, and what is kept of it
pub unready_by : (U W : SetupState) (f e : SetupFault) (kept : Option SetupFault) → U.fault ≡ None → IsHindered U f W → ((e ≡ fault.Mem) × (kept ≡ None)) ⊎ ((e ≡ f) × (kept ≡ Some f) × (f ≢ fault.Mem)) → GivesNoRequest U e (record W { fault = kept })
unready_by U W f e kept going h (inl t) = inl (t.0, (λ i. record (h.same i) { fault = (t.1 ∙ sym going) i }))
unready_by U W f e kept going h (inr t) = go h.fault
  where
    go : (f ≡ fault.Mem) ⊎ ((U.asked ≡ false) × (fault_before U ≡ Some f)) → GivesNoRequest U e (record W { fault = kept })
    go (inl m) = absurd (t.2 m)
    go (inr s) = inr (record { resting = λ g. s.0; fault = s.1 ∙ ap Some (sym t.0); lasts = (λ i. record (h.same i) { fault = (t.1 ∙ ap Some (sym t.0)) i }) })
