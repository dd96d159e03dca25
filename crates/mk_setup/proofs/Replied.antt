-- What is known of a message that is taken, and of a request that is made.
use Rattle.std.proofs.Common.{◌≡◌, ℕ, ◌+◌, ◌<◌, ◌≤◌, ◌⊎◌, true, false, List, [], ◌∷◌, ◌++◌, length, Some, None, Result, Ok, Err, refl, sym, ap, subst, inl, inr, arith, if◌then◌else◌, eqb-true}
use Rattle.std.specs.Prelude.{◌==◌}
use Rattle.std.proofs.lemmas.Option.{slice_get_within}
use Rattle.mk_base.specs.declared.SimNo.{SimNo}
use Rattle.mk_base.specs.declared.json.Json.{Json}
use Rattle.mk_plan.specs.declared.Call.{Call}
use Rattle.mk_plan.specs.declared.Call.TheVariants.{Init, Create, SetupDone, Stop}
use Rattle.mk_plan.specs.declared.Message.{Message}
use Rattle.mk_plan.specs.declared.Message.TheVariants.{Ask, Success, Failure}
use Rattle.mk_plan.specs.Journals.{Arrival}
use Rattle.mk_meta.specs.declared.meta.Meta.{Meta}
use Rattle.mk_meta.specs.declared.fault.MetaFault.{MetaFault}
use Rattle.mk_meta.specs.Metadata.{meta_in}
use Rattle.mk_entities.specs.declared.entities.EntityInfo.{EntityInfo}
use Rattle.mk_entities.specs.declared.fault.CreateFault.{CreateFault}
use Rattle.mk_entities.specs.Creation.{entities_added}
use Rattle.mk_run_laws.specs.Handshake.{Request}
use Rattle.mk_setup.specs.declared.fault.SetupFault.TheVariants as fault
use Rattle.mk_setup.specs.Asking.{after_asking, asked_unless, fault_before}
use Rattle.mk_setup.specs.Replies.{after_any, after_message, after_reply, is_reply, outstanding, unless_faulty, with_entities, with_meta, with_reply}
use Rattle.mk_setup.specs.Requests.{group_of, id_before, meta_of, request_of}
use Rattle.mk_setup.specs.Seen.{SetupState}
use Rattle.mk_setup.proofs.Sequence.{request_is}
use Rattle.mk_base.proofs.Bools.{both_hold}

module _ {X E : Type 0} where
  abbrev ok : X → Result X E
  ok x = Ok x

  pub ok_same : {x y : X} → ok x ≡ ok y → x ≡ y
  ok_same e = cc

  pub ok_err : {x : X} {e : E} → ok x ≡ Err e → ⊥
  ok_err e = cc

-- the request is made: no fault stood in its way
pub asking_ok : (U V : SetupState) → after_asking U ≡ Ok V → (fault_before U ≡ None) × (V ≡ record U { asked = true })
asking_ok U V = elim (fault_before U) as (λ o. asked_unless U o ≡ Ok V → (o ≡ None) × (V ≡ record U { asked = true })) [
  | None ↦ λ e. (refl, sym (ok_same e))
  | Some f ↦ λ e. absurd (ok_err (sym e))
]

-- the message is a success reply to the outstanding request, and its content is taken
pub record IsTaken (U V : SetupState) (a : Arrival) : Type 0 where
  pub going : U.fault ≡ None
  pub asked : U.asked ≡ true
  pub request : Request
  pub is : request_of U ≡ Some request
  pub to : a.sim ≡ request.sim
  pub content : Json
  pub message : a.message ≡ Success (id_before U.scenario U.answered request.sim) content
  pub adds : with_reply U (record { 0 = a.sim }) request.call content ≡ Ok V

reply_is : (U : SetupState) (r : Request) (sim id : ℕ) → is_reply U r sim id ≡ true → (sim ≡ r.sim) × (id ≡ id_before U.scenario U.answered r.sim)
reply_is U r sim id e = let t = both_hold (sim == r.sim) (id == id_before U.scenario U.answered r.sim) e in (eqb-true _ _ t.0, eqb-true _ _ t.1)

message_ok : (U V : SetupState) (r : Request) (sim : SimNo) (m : Message) → after_message U r sim m ≡ Ok V
    → (sim.0 ≡ r.sim) × (content : Json) × (m ≡ Success (id_before U.scenario U.answered r.sim) content) × (with_reply U sim r.call content ≡ Ok V)
message_ok U V r sim (Ask id name args named) e = absurd (ok_err (sym e))
message_ok U V r sim (Failure id text) e = absurd (ok_err (sym e))
message_ok U V r sim (Success id content) e =
    elim (is_reply U r sim.0 id) as (λ b. is_reply U r sim.0 id ≡ b → (if b then with_reply U sim r.call content else Err (fault.Unasked sim)) ≡ Ok V
    → (sim.0 ≡ r.sim) × (given : Json) × (Success id content ≡ Success (id_before U.scenario U.answered r.sim) given) × (with_reply U sim r.call given ≡ Ok V)) [
      | true ↦ λ is e. let t = reply_is U r sim.0 id is in (t.0, content, ap (λ (n : ℕ). Success n content) t.1, e)
      | false ↦ λ is e. absurd (ok_err (sym e))
    ] refl e

pub reply_ok : (U V : SetupState) (a : Arrival) → after_reply U a ≡ Ok V → IsTaken U V a
reply_ok U V a =
    elim U.fault as (λ f. U.fault ≡ f → unless_faulty f (after_any U (outstanding U) (record { 0 = a.sim }) a.message) ≡ Ok V → IsTaken U V a) [
      | Some f ↦ λ is e. absurd (ok_err (sym e))
      | None ↦ λ going. elim U.asked as (λ b. U.asked ≡ b → after_any U (if b then request_of U else None) (record { 0 = a.sim }) a.message ≡ Ok V → IsTaken U V a) [
        | false ↦ λ is e. absurd (ok_err (sym e))
        | true ↦ λ asked. elim (request_of U) as (λ o. request_of U ≡ o → after_any U o (record { 0 = a.sim }) a.message ≡ Ok V → IsTaken U V a) [
          | None ↦ λ is e. absurd (ok_err (sym e))
          | Some r ↦ λ is e. let t = message_ok U V r (record { 0 = a.sim }) a.message e in record { going = going; asked = asked; request = r; is = is; to = t.0; content = t.1; message = t.2; adds = t.3 }
        ] refl
      ] refl
    ] refl

-- all else stays as it was
pub record IsMoved (U V : SetupState) : Type 0 where
  pub scenario : V.scenario ≡ U.scenario
  pub ranks : V.ranks ≡ U.ranks
  pub fault : V.fault ≡ U.fault
  pub answered : V.answered ≡ U.answered + 1
  pub asked : V.asked ≡ false

same_moved : (U V W : SetupState) → W ≡ V → W.scenario ≡ U.scenario → W.ranks ≡ U.ranks → W.fault ≡ U.fault → W.answered ≡ U.answered + 1 → W.asked ≡ false → IsMoved U V
same_moved U V W e scenario ranks fault answered asked = subst (λ (X : SetupState). IsMoved U X) e (record { scenario = scenario; ranks = ranks; fault = fault; answered = answered; asked = asked })

pub moved_on : (U V : SetupState) (sim : SimNo) (call : Call) (content : Json) → with_reply U sim call content ≡ Ok V → IsMoved U V
moved_on U V sim (Init id params) content e = elim (meta_in content) as (λ r. with_meta U sim r ≡ Ok V → IsMoved U V) [
  | Ok meta ↦ λ e. same_moved U V _ (ok_same e) refl refl refl refl refl
  | Err f ↦ λ e. absurd (ok_err (sym e))
] e
moved_on U V sim (Create num model params) content e = elim (entities_added U.entities sim (group_of U) num model (meta_of U sim.0) content) as (λ r. with_entities U sim r ≡ Ok V → IsMoved U V) [
  | Ok entities ↦ λ e. same_moved U V _ (ok_same e) refl refl refl refl refl
  | Err f ↦ λ e. absurd (ok_err (sym e))
] e
moved_on U V sim SetupDone content e = same_moved U V _ (ok_same e) refl refl refl refl refl
moved_on U V sim Stop content e = same_moved U V _ (ok_same e) refl refl refl refl refl

-- a simulator's metadata was read from the content, or all simulators had said what they are before
pub record HasSaid (U V : SetupState) (content : Json) : Type 0 where
  pub early : U.answered < length U.scenario.sims
  pub meta : Meta
  pub read : meta_in content ≡ Ok meta
  pub metas : V.metas ≡ U.metas ++ meta ∷ []

pub record HadSaid (U V : SetupState) : Type 0 where
  pub late : length U.scenario.sims ≤ U.answered
  pub metas : V.metas ≡ U.metas

pub metas_are : (U V : SetupState) (sim : SimNo) (r : Request) (content : Json) → request_of U ≡ Some r → with_reply U sim r.call content ≡ Ok V → HasSaid U V content ⊎ HadSaid U V
metas_are U V sim r content is adds = elim (request_is U.scenario U.answered r is) [
  | inl init ↦ said (slice_get_within U.scenario.sims U.answered init.part init.there) (meta_in content) refl (subst (λ (q : Request). with_reply U sim q.call content ≡ Ok V) init.is adds)
  | inr more ↦ elim more [
    | inl create ↦ let at = create.at in inr (record { late = omega arith; metas = created (entities_added U.entities sim (group_of U) create.group.num create.group.model (meta_of U sim.0) content) (subst (λ (q : Request). with_reply U sim q.call content ≡ Ok V) create.is adds) })
    | inr done ↦ let at = done.at in inr (record { late = omega arith; metas = sym (ap (λ (W : SetupState). W.metas) (ok_same (subst (λ (q : Request). with_reply U sim q.call content ≡ Ok V) done.is adds))) })
  ]
]
  where
    said : U.answered < length U.scenario.sims → (v : Result Meta MetaFault) → meta_in content ≡ v → with_meta U sim v ≡ Ok V → HasSaid U V content ⊎ HadSaid U V
    said early (Ok meta) read e = inl (record { early = early; meta = meta; read = read; metas = sym (ap (λ (W : SetupState). W.metas) (ok_same e)) })
    said early (Err f) read e = absurd (ok_err (sym e))

    created : (v : Result (List EntityInfo) CreateFault) → with_entities U sim v ≡ Ok V → V.metas ≡ U.metas
    created (Ok entities) e = sym (ap (λ (W : SetupState). W.metas) (ok_same e))
    created (Err f) e = absurd (ok_err (sym e))
