-- What is kept stands after each step.
use Rattle.std.proofs.Common.{◌≡◌, ℕ, ◌+◌, ◌<◌, ◌≤◌, true, List, [], ◌∷◌, ◌++◌, length, replicate, zero, suc, Option, Some, None, Ok, slice_get, refl, sym, ap, ◌∙◌, subst, inl, inr, arith, true≢false, length-append, IfSome}
use Rattle.std.specs.Prelude.{option_map, unwrap_or}
use Rattle.std.proofs.lemmas.Option.{slice_get_within}
use Rattle.mk_base.specs.declared.SimNo.{SimNo}
use Rattle.mk_base.specs.declared.SimKind.TheVariants.{TimeBased}
use Rattle.mk_base.specs.declared.json.Json.{Json}
use Rattle.mk_base.specs.Lists.{Each}
use Rattle.mk_base.proofs.Lists.{below_get, at_in, each_in, in_each, none_some, some_same}
use Rattle.mk_plan.specs.declared.Plan.{Plan}
use Rattle.mk_message.specs.Written.{is_call_in_range}
use Rattle.mk_meta.specs.declared.meta.Meta.{Meta}
use Rattle.mk_meta.specs.Metadata.{IsListed}
use Rattle.mk_entities.specs.declared.entities.EntityInfo.{EntityInfo}
use Rattle.mk_entities.specs.Creation.{entities_added}
use Rattle.mk_scenario.specs.declared.parts.Scenario.{Scenario}
use Rattle.mk_scenario.specs.declared.parts.Group.{Group}
use Rattle.mk_scenario.specs.Wellformed.{IsWellformed, IsWellformedGroup, IsWellformedSim}
use Rattle.mk_connect.specs.Complete.{IsOfGroup, IsOfModel, has_model}
use Rattle.mk_connect_pairs.specs.Groups.{fault_of_group}
use Rattle.mk_run_laws.specs.Handshake.{Request, setup_requests}
use Rattle.mk_setup.specs.Asking.{test_before}
use Rattle.mk_setup.specs.inner.Counts.{IsCounted, IsToSim}
use Rattle.mk_setup.specs.Handshakes.{begun}
use Rattle.mk_setup.specs.inner.Kept.{IsGroupOf}
use Rattle.mk_setup.specs.Ranked.{AreRanksOf}
use Rattle.mk_setup.specs.Replies.{moved}
use Rattle.mk_setup.specs.Requests.{group_of, id_before, meta_of, request_of}
use Rattle.mk_setup.specs.Seen.{SetupState}
use Rattle.mk_setup.specs.inner.Standing.{IsPlanOf, IsSoundSetup}
use Rattle.mk_setup.proofs.Counting.{equal_counts}
use Rattle.mk_setup.proofs.Creating.{created, offered}
use Rattle.mk_setup.proofs.Sequence.{create_at, create_of, done_at, init_at, request_count, request_is}

-- ---- requests

pub to_init : (S : Scenario) (k sim : ℕ) → k ≡ sim → sim < length S.sims → IsToSim S k sim
to_init S k sim at below = let t = below_get S.sims k (omega arith) in ap (option_map (λ (r : Request). r.sim)) (init_at S k t.0 t.1) ∙ ap Some at

pub to_create : (S : Scenario) (k group sim : ℕ) → k ≡ length S.sims + group → IsGroupOf S group sim → IsToSim S k sim
to_create S k group sim at g = ap (option_map (λ (r : Request). r.sim)) (create_at S k group g.0 at g.1) ∙ ap Some g.2

pub to_done : (S : Scenario) (k sim : ℕ) → k ≡ length S.sims + length S.groups + sim → sim < length S.sims → IsToSim S k sim
to_done S k sim at below = ap (option_map (λ (r : Request). r.sim)) (done_at S k sim at below)

-- each request goes to a simulator that is there, and its numbers are in range
pub request_fits : (S : Scenario) → IsWellformed S → (k : ℕ) (r : Request) → slice_get (setup_requests S) k ≡ Some r → (r.sim < length S.sims) × (is_call_in_range r.call ≡ true)
request_fits S w k r is = elim (request_is S k r is) [
  | inl init ↦ subst (λ (q : Request). (q.sim < length S.sims) × (is_call_in_range q.call ≡ true)) (sym init.is)
      (slice_get_within S.sims k init.part init.there, (in_each IsWellformedSim init.part S.sims w.sims (at_in init.part S.sims k init.there)).params.1)
  | inr more ↦ elim more [
    | inl create ↦
        let g : IsWellformedGroup (length S.sims) create.group = in_each (IsWellformedGroup (length S.sims)) create.group S.groups w.groups (at_in create.group S.groups create.place create.there) in
        subst (λ (q : Request). (q.sim < length S.sims) × (is_call_in_range q.call ≡ true)) (sym create.is) (g.sim, g.params.1)
    | inr done ↦ subst (λ (q : Request). (q.sim < length S.sims) × (is_call_in_range q.call ≡ true)) (sym done.is) (done.there, refl)
  ]
]

-- a request that goes to a simulator stands there
pub to_there : (S : Scenario) → IsWellformed S → (k sim : ℕ) → IsToSim S k sim → sim < length S.sims
to_there S w k sim to = go (slice_get (setup_requests S) k) refl to
  where
    go : (o : Option Request) → slice_get (setup_requests S) k ≡ o → option_map (λ (r : Request). r.sim) o ≡ Some sim → sim < length S.sims
    go None is e = absurd (none_some e)
    go (Some r) is e = subst (λ (n : ℕ). n < length S.sims) (some_same e) (request_fits S w k r is).0

-- ---- what stands

pub counted_of : (U : SetupState) (ids : List ℕ) (plan : Option Plan) → IsSoundSetup U ids plan → IsCounted U.scenario U.answered ids
counted_of U ids plan s = record { wellformed = s.wellformed; within = s.within; numbered = s.numbered }

pub begun_stands : (S : Scenario) (ranks ids : List ℕ) → IsWellformed S → AreRanksOf S ranks → ids ≡ replicate (length S.sims) 0 → IsSoundSetup (begun S ranks) ids None
begun_stands S ranks ids w ranked are = record {
  wellformed = w;
  ranked = ranked;
  within = let c = request_count S in omega arith;
  awaited = λ e. absurd (true≢false (sym e));
  tested = λ e. absurd (true≢false (sym e));
  numbered = are ∙ equal_counts (id_before S 0) (length S.sims) 0 (λ i h. refl);
  said = omega arith;
  listed = tt;
  of_models = tt;
  of_groups = tt;
  kept = tt;
}

-- a plan that is there is the same while its parts are
kept_same : (U V : SetupState) (plan : Option Plan) → IfSome plan (IsPlanOf U) → ((P : Plan) → IsPlanOf U P → IsPlanOf V P) → IfSome plan (IsPlanOf V)
kept_same U V None h f = tt
kept_same U V (Some P) h f = f P h

-- where groups are left to be created there is no plan
kept_none : (U V : SetupState) (plan : Option Plan) → IfSome plan (IsPlanOf U) → U.answered < length U.scenario.sims + length U.scenario.groups → IfSome plan (IsPlanOf V)
kept_none U V None h early = tt
kept_none U V (Some P) h early = absurd (let c = h.created in omega arith)

pub asked_stands : (U : SetupState) (ids : List ℕ) (plan : Option Plan) (r : Request) → IsSoundSetup U ids plan → request_of U ≡ Some r → test_before U (request_of U) ≡ None → IsSoundSetup (record U { asked = true }) ids plan
asked_stands U ids plan r s is none = record {
  wellformed = s.wellformed;
  ranked = s.ranked;
  within = s.within;
  awaited = λ e. slice_get_within (setup_requests U.scenario) U.answered r is;
  tested = λ e. none;
  numbered = s.numbered;
  said = s.said;
  listed = s.listed;
  of_models = s.of_models;
  of_groups = s.of_groups;
  kept = kept_same U (record U { asked = true }) plan s.kept (λ P p. record { created = p.created; made = p.made; valid = p.valid; sims = p.sims; first = p.first });
}

each_append : {X : Type 0} → (Q : X → Type 0) (xs ys : List X) → Each Q xs → Each Q ys → Each Q (xs ++ ys)
each_append Q [] ys a b = b
each_append Q (x ∷ xs) ys a b = (a.0, each_append Q xs ys a.1 b)

each_more : {X : Type 0} → (Q R : X → Type 0) (xs : List X) → ((x : X) → Q x → R x) → Each Q xs → Each R xs
each_more Q R [] f a = tt
each_more Q R (x ∷ xs) f a = (f x a.0, each_more Q R xs f a.1)

get_more : (xs ys : List Meta) (i : ℕ) (m : Meta) → slice_get xs i ≡ Some m → slice_get (xs ++ ys) i ≡ Some m
get_more [] ys i m e = absurd (none_some e)
get_more (x ∷ xs) ys zero m e = e
get_more (x ∷ xs) ys (suc i) m e = get_more xs ys i m e

-- an entity is still of a model where more simulators have said what they are
of_model_more : (metas more : List Meta) (e : EntityInfo) → IsOfModel metas e → IsOfModel (metas ++ more) e
of_model_more metas more e h = go (slice_get metas e.sim.0) refl h
  where
    go : (o : Option Meta) → slice_get metas e.sim.0 ≡ o → option_map (has_model e.model) o ≡ Some true → IsOfModel (metas ++ more) e
    go None is q = absurd (none_some q)
    go (Some m) is q = ap (option_map (has_model e.model)) (get_more metas more e.sim.0 m is) ∙ q

pub said_stands : (U : SetupState) (ids ids' : List ℕ) (plan : Option Plan) (meta : Meta) (metas : List Meta) → IsSoundSetup U ids plan → U.answered < length U.scenario.sims → IsListed meta.models → metas ≡ U.metas ++ meta ∷ [] → IsCounted U.scenario (U.answered + 1) ids'
    → IsSoundSetup (record (moved U) { metas = metas }) ids' plan
said_stands U ids ids' plan meta metas s early listed are c = subst (λ (l : List Meta). IsSoundSetup (record (moved U) { metas = l }) ids' plan) (sym are) (record {
  wellformed = s.wellformed;
  ranked = s.ranked;
  within = c.within;
  awaited = λ e. absurd (true≢false (sym e));
  tested = λ e. absurd (true≢false (sym e));
  numbered = c.numbered;
  said = let a = length-append U.metas (meta ∷ []) in let b = s.said in omega arith;
  listed = each_append (λ (m : Meta). IsListed m.models) U.metas (meta ∷ []) s.listed (listed, tt);
  of_models = each_more (IsOfModel U.metas) (IsOfModel (U.metas ++ meta ∷ [])) U.entities (of_model_more U.metas (meta ∷ [])) s.of_models;
  of_groups = s.of_groups;
  kept = kept_none U (record (moved U) { metas = U.metas ++ meta ∷ [] }) plan s.kept (omega arith);
})

pub done_stands : (U : SetupState) (ids ids' : List ℕ) (plan : Option Plan) → IsSoundSetup U ids plan → length U.scenario.sims + length U.scenario.groups ≤ U.answered → IsCounted U.scenario (U.answered + 1) ids' → IsSoundSetup (moved U) ids' plan
done_stands U ids ids' plan s late c = record {
  wellformed = s.wellformed;
  ranked = s.ranked;
  within = c.within;
  awaited = λ e. absurd (true≢false (sym e));
  tested = λ e. absurd (true≢false (sym e));
  numbered = c.numbered;
  said = let b = s.said in omega arith;
  listed = s.listed;
  of_models = s.of_models;
  of_groups = s.of_groups;
  kept = kept_same U (moved U) plan s.kept (λ P p. record { created = let q = p.created in omega arith; made = p.made; valid = p.valid; sims = p.sims; first = p.first });
}

pub created_stands : (U : SetupState) (ids ids' : List ℕ) (plan : Option Plan) (sim : SimNo) (group : ℕ) (g : Group) (meta : Meta) (content : Json) (es : List EntityInfo) → IsSoundSetup U ids plan → U.asked ≡ true → U.answered ≡ length U.scenario.sims + group
    → slice_get U.scenario.groups group ≡ Some g → g.sim.0 ≡ sim.0 → slice_get U.metas sim.0 ≡ Some meta → entities_added U.entities sim group g.num g.model meta content ≡ Ok es → IsCounted U.scenario (U.answered + 1) ids' → IsSoundSetup (record (moved U) { entities = es }) ids' plan
created_stands U ids ids' plan sim group g meta content es s asked at there of_sim said added c =
    let below : group < length U.scenario.groups = slice_get_within U.scenario.groups group g there in
    let number : group_of U ≡ group = omega arith in
    let metas : meta_of U g.sim.0 ≡ meta = ap (meta_of U) of_sim ∙ ap (λ (o : Option Meta). unwrap_or o (record { kind = TimeBased; models = [] })) said in
    let asks : request_of U ≡ Some (create_of g) = create_at U.scenario U.answered group g at there in
    let tested : fault_of_group U.scenario group meta ≡ None = sym (λ i. fault_of_group U.scenario (number i) (metas i)) ∙ sym (ap (test_before U) asks) ∙ s.tested asked in
    let t = created U.entities sim group g.num g.model meta content (offered U.scenario group g meta there tested) es added in
    record {
      wellformed = s.wellformed;
      ranked = s.ranked;
      within = c.within;
      awaited = λ e. absurd (true≢false (sym e));
      tested = λ e. absurd (true≢false (sym e));
      numbered = c.numbered;
      said = let b = s.said in omega arith;
      listed = s.listed;
      of_models = subst (Each (IsOfModel U.metas)) (sym t.1) (each_append (IsOfModel U.metas) U.entities t.0 s.of_models
          (each_in (IsOfModel U.metas) t.0 (λ e m. let k = t.2 e m in ap (λ (i : SimNo). option_map (has_model e.model) (slice_get U.metas i.0)) k.of_sim ∙ ap (option_map (has_model e.model)) said ∙ ap Some k.of_model)));
      of_groups = subst (Each (IsOfGroup U.scenario.groups)) (sym t.1) (each_append (IsOfGroup U.scenario.groups) U.entities t.0 s.of_groups
          (each_in (IsOfGroup U.scenario.groups) t.0 (λ e m. let k = t.2 e m in elim k.of_group [
            | inl none ↦ subst (λ (o : Option ℕ). IfSome o (λ n. option_map (λ (h : Group). h.sim) (slice_get U.scenario.groups n) ≡ Some e.sim)) (sym none) tt
            | inr some ↦ subst (λ (o : Option ℕ). IfSome o (λ n. option_map (λ (h : Group). h.sim) (slice_get U.scenario.groups n) ≡ Some e.sim)) (sym some)
                (ap (option_map (λ (h : Group). h.sim)) there ∙ ap Some (same_sim g.sim sim of_sim ∙ sym k.of_sim))
          ])));
      kept = kept_none U (record (moved U) { entities = es }) plan s.kept (omega arith);
    }
  where
    same_sim : (a b : SimNo) → a.0 ≡ b.0 → a ≡ b
    same_sim a b e = (λ i. record { 0 = e i })
