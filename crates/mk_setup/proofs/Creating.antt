-- What is known of the entities that a reply to `create` adds.
use Rattle.std.proofs.Common.{◌≡◌, ℕ, zero, suc, ◌+◌, ◌<◌, ◌⊎◌, Bool, true, false, List, [], ◌∷◌, ◌++◌, length, map, take, Option, Some, None, Result, Ok, slice_get, refl, sym, ap, ◌∙◌, subst, inl, inr, arith, if◌then◌else◌, true≢false}
use Rattle.std.specs.Prelude.{is_some, nat_lt, not, option_and_then, option_map, unwrap_or}
use Rattle.std.specs.List.{find, list_any, range_with_len}
use Rattle.std.proofs.lemmas.Option.{slice_get_within}
use Rattle.mk_base.specs.declared.SimNo.{SimNo}
use Rattle.mk_base.specs.declared.json.Json.{Json}
use Rattle.mk_base.specs.Lists.{IsIn, same_text}
use Rattle.mk_base.specs.Verdicts as verdicts
use Rattle.mk_base.proofs.Lists.{in_at, in_map, none_some, some_same}
use Rattle.mk_meta.specs.declared.meta.Meta.{Meta}
use Rattle.mk_meta.specs.declared.meta.ModelMeta.{ModelMeta}
use Rattle.mk_entities.specs.declared.described.Described.{Described}
use Rattle.mk_entities.specs.declared.entities.EntityInfo.{EntityInfo}
use Rattle.mk_entities.specs.declared.fault.CreateFault.{CreateFault}
use Rattle.mk_entities.specs.declared.fault.CreateFault.TheVariants.{NoEid, TwiceEid, OfType, TooMany}
use Rattle.mk_entities.specs.Creation as creation
use Rattle.mk_entities.specs.Creation.{added, count_fault, drafts, entities_added, entity_fault, first_entity_fault, first_there, has_type, is_model_of, entity_number, rel_fault, with_entities}
use Rattle.mk_entities.specs.Descriptions.{reply_entities}
use Rattle.mk_scenario.specs.declared.parts.Scenario.{Scenario}
use Rattle.mk_scenario.specs.declared.parts.Group.{Group}
use Rattle.mk_connect.specs.Complete.{has_model}
use Rattle.mk_connect_pairs.specs.Groups.{fault_of_group, group_fault, model_fault, model_named}
use Rattle.mk_scenario.specs.Ids.{id_of_sim}
use Rattle.mk_connect.proofs.ByPlaces.{range_get}
use Rattle.mk_setup.proofs.Replied.{ok_err, ok_same}
use Rattle.mk_base.proofs.Guessing.{text_is}
use Rattle.mk_base.specs.Limits.{most_entities}

some_none : {X : Type 0} {x : X} → Some x ≡ None → ⊥
some_none e = none_some (sym e)

unless_ok : {B : Type 0} (o : Option CreateFault) (r : Result B CreateFault) (x : B) → verdicts.unless o r ≡ Ok x → (o ≡ None) × (r ≡ Ok x)
unless_ok None r x e = (refl, e)
unless_ok (Some f) r x e = absurd (ok_err (sym e))

held_none : (f : CreateFault) (b : Bool) (next : Option CreateFault) → verdicts.fault_unless f b next ≡ None → (b ≡ true) × (next ≡ None)
held_none f true next e = (refl, e)
held_none f false next e = absurd (some_none e)

none_there : (xs : List (Option CreateFault)) (i : ℕ) (o : Option CreateFault) → first_there xs ≡ None → slice_get xs i ≡ Some o → o ≡ None
none_there [] i o e at = absurd (none_some at)
none_there (None ∷ xs) zero o e at = sym (some_same at)
none_there (None ∷ xs) (suc i) o e at = none_there xs i o e at
none_there (Some f ∷ xs) i o e at = absurd (some_none e)

-- a model that a search finds is among the models
found_any : (p : ModelMeta → Bool) (ms : List ModelMeta) (m : ModelMeta) → find p ms ≡ Some m → list_any p ms ≡ true
found_any p [] m e = absurd (none_some e)
found_any p (x ∷ ms) m e = go (p x) refl e (found_any p ms m)
  where
    go : (b : Bool) → p x ≡ b → (if b then Some x else find p ms) ≡ Some m → (find p ms ≡ Some m → list_any p ms ≡ true) → list_any p (x ∷ ms) ≡ true
    go true is h next = rw is refl
    go false is h next = rw is (next h)

-- a group that passes its test is of a model of its simulator
pub offered : (S : Scenario) (n : ℕ) (g : Group) (meta : Meta) → slice_get S.groups n ≡ Some g → fault_of_group S n meta ≡ None → has_model g.model meta ≡ true
offered S n g meta at none = go (model_named meta.models g.model) refl (sym (ap (λ (o : Option Group). unwrap_or (option_map (group_fault S.sims meta) o) None) at) ∙ none)
  where
    go : (o : Option ModelMeta) → model_named meta.models g.model ≡ o → model_fault (id_of_sim S.sims g.sim.0) g o ≡ None → has_model g.model meta ≡ true
    go None is e = absurd (some_none e)
    go (Some m) is e = found_any (λ (x : ModelMeta). same_text x.name g.model) meta.models m is

-- an entity of the group, or a child
pub record IsCreated (sim : SimNo) (group : ℕ) (meta : Meta) (e : EntityInfo) : Type 0 where
  pub of_sim : e.sim ≡ sim
  pub of_group : (e.group ≡ None) ⊎ (e.group ≡ Some group)
  pub of_model : has_model e.model meta ≡ true

module _ (old : List EntityInfo) (sim : SimNo) (group num : ℕ) (model : List ℕ) (meta : Meta) (reply : Json) (has : has_model model meta ≡ true) where
  typed : (d : Described) (k : List ℕ) → d.kind ≡ Some k → has_type model meta d ≡ true → has_model k meta ≡ true
  typed d k is e = go d.is_child refl (sym (ap (λ (o : Option (List ℕ)). unwrap_or (option_map (is_model_of model meta d) o) false) is) ∙ e)
    where
      go : (b : Bool) → d.is_child ≡ b → (if d.is_child then list_any (λ (m : ModelMeta). same_text m.name k) meta.models else same_text k model) ≡ true → has_model k meta ≡ true
      go true child h = sym (ap (λ (b : Bool). if b then list_any (λ (m : ModelMeta). same_text m.name k) meta.models else same_text k model) child) ∙ h
      go false child h = let s : same_text k model ≡ true = sym (ap (λ (b : Bool). if b then list_any (λ (m : ModelMeta). same_text m.name k) meta.models else same_text k model) child) ∙ h in
          let e : k ≡ model = text_is k model s in ap (λ (l : List ℕ). has_model l meta) e ∙ has

  has_kind : (d : Described) → has_type model meta d ≡ true → (k : List ℕ) × (d.kind ≡ Some k)
  has_kind d e = go d.kind refl e
    where
      go : (o : Option (List ℕ)) → d.kind ≡ o → unwrap_or (option_map (is_model_of model meta d) o) false ≡ true → (k : List ℕ) × (d.kind ≡ Some k)
      go None is h = absurd (true≢false (sym h))
      go (Some k) is h = (k, is)

  right_type : (number : List ℕ → Option ℕ) (count n : ℕ) (d : Described) → entity_fault number count model meta n d ≡ None → has_type model meta d ≡ true
  right_type number count n d e = go d.eid e
    where
      go : (o : Option (List ℕ)) → creation.after_text (NoEid n) o (λ eid. verdicts.fault_unless (TwiceEid eid) (not (is_some (number eid))) (verdicts.fault_unless (OfType eid) (has_type model meta d) (verdicts.fault_unless (TooMany (most_entities + 1)) (nat_lt count most_entities) None))) ≡ None → has_type model meta d ≡ true
      go None h = absurd (some_none h)
      go (Some eid) h = (held_none (OfType eid) (has_type model meta d) _ (held_none (TwiceEid eid) _ _ h).1).0

  draft_of : (number : List ℕ → Option ℕ) (count : ℕ) (d : Described) → has_type model meta d ≡ true → IsCreated sim group meta (added number count sim group d)
  draft_of number count d e =
      let t = has_kind d e in
      record {
        of_sim = refl;
        of_group = elim d.is_child as (λ b. ((if b then None else Some group) ≡ None) ⊎ ((if b then None else Some group) ≡ Some group)) [ true ↦ inl refl | false ↦ inr refl ];
        of_model = ap (λ (o : Option (List ℕ)). has_model (unwrap_or o []) meta) t.1 ∙ typed d t.0 t.1 e;
      }

  -- the entities after the reply: those before, and others
  pub created : (es : List EntityInfo) → entities_added old sim group num model meta reply ≡ Ok es → (more : List EntityInfo) × (es ≡ old ++ more) × ((e : EntityInfo) → IsIn e more → IsCreated sim group meta e)
  created es e =
      let ds : List Described = reply_entities reply in
      let a = unless_ok (count_fault num reply) (with_entities old sim group model meta ds) es e in
      let number : List ℕ → Option ℕ = entity_number (drafts old sim group ds) sim in
      let b = unless_ok (first_entity_fault old sim group model meta ds) (verdicts.unless (first_there (map (rel_fault number) ds)) (Ok (old ++ map (added number (length old + length ds) sim group) ds))) es a.1 in
      let c = unless_ok (first_there (map (rel_fault number) ds)) (Ok (old ++ map (added number (length old + length ds) sim group) ds)) es b.1 in (
        map (added number (length old + length ds) sim group) ds,
        sym (ok_same c.1),
        λ x m.
            let t = in_map (added number (length old + length ds) sim group) x ds m in
            let at = in_at t.0 ds t.1 in
            subst (IsCreated sim group meta) (sym t.2) (draft_of number (length old + length ds) t.0 (tested ds b.0 at.0 t.0 at.1)),
      )
    where
      nothing : (i : ℕ) → 0 + i ≡ i
      nothing i = omega arith

      tested : (ds : List Described) → first_entity_fault old sim group model meta ds ≡ None → (i : ℕ) (d : Described) → slice_get ds i ≡ Some d → has_type model meta d ≡ true
      tested ds none i d at =
          let before : ℕ → List EntityInfo = λ n. take (length old + n) (drafts old sim group ds) in
          let fault : ℕ → Option CreateFault = λ n. option_and_then (entity_fault (entity_number (before n) sim) (length old + n) model meta n) (slice_get ds n) in
          let below : i < length ds = slice_get_within ds i d at in
          let here : fault i ≡ None = none_there (map fault (range_with_len 0 (length ds))) i (fault i) none (range_get fault 0 (length ds) i below ∙ ap (λ (k : ℕ). Some (fault k)) (nothing i)) in
          right_type (entity_number (before i) sim) (length old + i) i d (sym (ap (λ (o : Option Described). option_and_then (entity_fault (entity_number (before i) sim) (length old + i) model meta i) o) at) ∙ here)
