-- The attributes that a model's description names are the model's.
use Rattle.std.proofs.Common.{◌≡◌, ℕ, Bool, true, false, not, List, [], ◌∷◌, map, Option, Some, None, Result, Ok, Err, refl, sym, ap, ◌∙◌, subst, codes, if◌then◌else◌, true≢false}
use Rattle.std.specs.Prelude.{IsTrue, option_and_then}
use Rattle.std.specs.List.{find}
use Rattle.mk_base.specs.declared.SimKind.{SimKind}
use Rattle.mk_base.specs.declared.SimKind.TheVariants.{TimeBased, EventBased, Hybrid}
use Rattle.mk_base.specs.declared.json.Json.{Json}
use Rattle.mk_base.specs.Lists.{Each, is_among}
use Rattle.mk_base.specs.Trees.{bool_in, is_object, member, texts_in}
use Rattle.mk_base.specs.Verdicts.{held, no_text, put_first, all_well, after_found}
use Rattle.mk_meta.specs.declared.meta.ModelMeta.{ModelMeta}
use Rattle.mk_meta.specs.declared.fault.MetaFault.{MetaFault}
use Rattle.mk_meta.specs.declared.fault.MetaFault.TheVariants.{Model, TriggerUnknown}
use Rattle.mk_meta.specs.Metadata.{HasKnownAttrs, first_unknown, hybrid_texts, is_hybrid, model_in, unless_missing, with_known}

ok_same : {X : Type 0} (r : Result X MetaFault) (x y : X) → r ≡ Ok x → r ≡ Ok y → x ≡ y
ok_same r x y is also = cc

module _ {A B : Type 0} where
  -- what follows a test that found something
  found_is : (fault : MetaFault) (o : Option A) (next : A → Result B MetaFault) (y : B) → after_found fault o next ≡ Ok y → (x : A) × (o ≡ Some x) × (next x ≡ Ok y)
  found_is fault None next y is = cc
  found_is fault (Some x) next y is = (x, refl, is)

module _ {B : Type 0} where
  held_is : (fault : MetaFault) (b : Bool) (next : Result B MetaFault) (y : B) → held fault b next ≡ Ok y → next ≡ Ok y
  held_is fault true next y is = is
  held_is fault false next y is = cc

  no_text_is : (fault : List ℕ → MetaFault) (o : Option (List ℕ)) (next : Result B MetaFault) (y : B) → no_text fault o next ≡ Ok y → (o ≡ None) × (next ≡ Ok y)
  no_text_is fault None next y is = (refl, is)
  no_text_is fault (Some x) next y is = cc

none_unknown : (attrs texts : List (List ℕ)) → first_unknown attrs texts ≡ None → Each (λ t. IsTrue (is_among attrs t)) texts
none_unknown attrs [] none = tt
none_unknown attrs (t ∷ ts) none = at (is_among attrs t) refl none (none_unknown attrs ts)
  where
    at : (b : Bool) → is_among attrs t ≡ b → (if not b then Some t else find (λ t. not (is_among attrs t)) ts) ≡ None → (first_unknown attrs ts ≡ None → Each (λ t. IsTrue (is_among attrs t)) ts)
        → IsTrue (is_among attrs t) × Each (λ t. IsTrue (is_among attrs t)) ts
    at true is none more = (is, more none)
    at false is none more = cc

-- the lists of a simulator that isn't hybrid
no_texts : (kind : SimKind) (name : List ℕ) (tree : Json) (texts : List (List ℕ)) → hybrid_texts kind name tree ≡ Some texts → is_hybrid kind ≡ false → texts ≡ []
no_texts TimeBased name tree texts is other = cc
no_texts EventBased name tree texts is other = cc
no_texts Hybrid name tree texts is other = absurd (true≢false other)

known_so : (kind : SimKind) (model known : ModelMeta) → (is_hybrid kind ≡ false → model.trigger ≡ []) → (is_hybrid kind ≡ false → model.events ≡ []) → with_known model ≡ Ok known → HasKnownAttrs kind known
known_so kind model known trigger events is =
    let first = no_text_is (TriggerUnknown model.name) (if model.any_inputs then None else first_unknown model.attrs model.trigger) (no_text (TriggerUnknown model.name) (first_unknown model.attrs model.events) (Ok model)) known is in
    let second = no_text_is (TriggerUnknown model.name) (first_unknown model.attrs model.events) (Ok model) known first.1 in
    subst (HasKnownAttrs kind) (ok_same (Ok model) model known refl second.1) (record {
      trigger = trigger;
      events = events;
      triggers_known = λ some. none_unknown model.attrs model.trigger (sym (ap (λ b. if b then None else first_unknown model.attrs model.trigger) some) ∙ first.0);
      events_known = none_unknown model.attrs model.events second.0;
    })

-- a model that passes its tests
pub model_known : (kind : SimKind) (m : List ℕ × Json) (known : ModelMeta) → model_in kind m ≡ Ok known → HasKnownAttrs kind known
model_known kind m known is =
    let a = held_is (Model m.0 []) (is_object m.1) _ known is in
    let b = found_is (Model m.0 (codes "public")) (option_and_then bool_in (member (codes "public") m.1)) _ known a in
    let c = found_is (Model m.0 (codes "params")) (option_and_then texts_in (member (codes "params") m.1)) _ known b.2 in
    let d = found_is (Model m.0 (codes "attrs")) (option_and_then texts_in (member (codes "attrs") m.1)) _ known c.2 in
    let e = found_is (Model m.0 (codes "any_inputs")) (unless_missing false bool_in (member (codes "any_inputs") m.1)) _ known d.2 in
    let f = found_is (Model m.0 (codes "trigger")) (hybrid_texts kind (codes "trigger") m.1) _ known e.2 in
    let g = found_is (Model m.0 (codes "non-persistent")) (hybrid_texts kind (codes "non-persistent") m.1) _ known f.2 in
    known_so kind (record { name = m.0; public = b.0; params = c.0; attrs = d.0; any_inputs = e.0; trigger = f.0; events = g.0 }) known
    (no_texts kind (codes "trigger") m.1 f.0 f.1) (no_texts kind (codes "non-persistent") m.1 g.0 g.1) g.2

-- what holds of each model that passes holds of all that are listed
pub all_known : (kind : SimKind) (ms : List (List ℕ × Json)) (models : List ModelMeta) → all_well (map (model_in kind) ms) ≡ Ok models → Each (HasKnownAttrs kind) models
all_known kind [] models is = subst (Each (HasKnownAttrs kind)) (ok_same (Ok []) [] models refl is) tt
all_known kind (m ∷ ms) models is = at (model_in kind m) refl is (all_known kind ms)
  where
    at : (r : Result ModelMeta MetaFault) → model_in kind m ≡ r → all_well (r ∷ map (model_in kind) ms) ≡ Ok models → ((xs : List ModelMeta) → all_well (map (model_in kind) ms) ≡ Ok xs → Each (HasKnownAttrs kind) xs) → Each (HasKnownAttrs kind) models
    at (Err fault) here is more = cc
    at (Ok x) here is more = behind (all_well (map (model_in kind) ms)) refl is
      where
        behind : (r : Result (List ModelMeta) MetaFault) → all_well (map (model_in kind) ms) ≡ r → put_first x r ≡ Ok models → Each (HasKnownAttrs kind) models
        behind (Err fault) rest is = cc
        behind (Ok xs) rest is = subst (Each (HasKnownAttrs kind)) (ok_same (Ok (x ∷ xs)) (x ∷ xs) models refl is) (model_known kind m x here, more xs rest)
