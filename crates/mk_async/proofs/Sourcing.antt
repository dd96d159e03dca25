-- Each value that a request sets is the text of a value, under the full id of an entity of the
-- asking simulator.
use Rattle.std.proofs.Common.{◌≡◌, ℕ, zero, suc, Bool, true, List, [], ◌∷◌, Option, Some, None, unwrap_or, refl, sym, ap, subst, ◌∙◌, inl, inr, arith, true≢false, ◌==◌}
use Rattle.std.proofs.lemmas.Bool.{eqb-true}
use Rattle.std.specs.Prelude.{All}
use Rattle.mk_base.specs.declared.json.Json.{Json}
use Rattle.mk_base.specs.Data.{IsValueText}
use Rattle.mk_base.specs.Lists.{IsIn}
use Rattle.mk_base.specs.Texts.{text_of}
use Rattle.mk_base.specs.Trees.{members_in, nesting, members_of}
use Rattle.mk_base.proofs.Lists.{in_flat_map, in_map}
use Rattle.mk_plan.specs.declared.Plan.{Plan}
use Rattle.mk_plan.specs.declared.SetValue.{SetValue}
use Rattle.mk_plan.specs.Plans.{owner}
use Rattle.mk_async.specs.Asked.{IsGivenBy}
use Rattle.mk_async.specs.Forms.{each_passes, is_object_of, is_such, is_value}
use Rattle.mk_async.specs.inner.Given.{is_source, set_value, values_from, values_in, values_to}
use Rattle.mk_async.specs.inner.Known.{Members, knows_source, knows_sources}
use Rattle.mk_async.proofs.Entities.{entity_named}
use Rattle.mk_base.proofs.Counts.{test_at_most}
use Rattle.mk_base.proofs.Bools.{first_holds, second_holds}
use Rattle.mk_order.proofs.LateActs.{all_pass}

all_of : {X : Type 0} (Q : X → Type 0) (xs : List X) → ((x : X) → IsIn x xs → Q x) → All Q xs
all_of Q [] f k d h = absurd (omega arith)
all_of Q (x ∷ xs) f zero d h = f x (inl refl)
all_of Q (x ∷ xs) f (suc k) d h = all_of Q xs (λ y m. f y (inr m)) k d (omega arith)

object_members : (p : Json → Bool) (t : Json) → is_object_of p t ≡ true → each_passes p (members_of t) ≡ true
object_members p t h = by (members_in t) refl h
  where
    by : (o : Option Members) → members_in t ≡ o → is_such (each_passes p) o ≡ true → each_passes p (members_of t) ≡ true
    by None is h = absurd (true≢false (sym h))
    by (Some ms) is h = ap (λ (o : Option Members). each_passes p (unwrap_or o [])) is ∙ h

value_text : (t : Json) → is_value t ≡ true → IsValueText (text_of t)
value_text t h = let d = first_holds _ _ h in record {
  tree = t;
  whole = first_holds _ _ d;
  in_range = second_holds _ _ h;
  deep = test_at_most (nesting t) 100 (second_holds _ _ d);
  is = refl;
}

module _ (P : Plan) (s : ℕ) (ms : Members) (form : each_passes is_source ms ≡ true) (known : knows_sources P s ms ≡ true) where
  value_given : (w : SetValue) → IsIn w (values_in P ms) → IsGivenBy P s w
  value_given w mem =
      let v = in_flat_map (λ (m : List ℕ × Json). values_from P m.0 (members_of m.1)) w ms mem in
      let d = in_flat_map (λ (m : List ℕ × Json). values_to P v.0.0 m.0 (members_of m.1)) w (members_of v.0.1) v.2 in
      let a = in_map (λ (m : List ℕ × Json). set_value P v.0.0 d.0.0 m.0 m.1) w (members_of d.0.1) d.2 in
      let source = all_pass (λ (m : List ℕ × Json). is_source m.1) ms v.0 form v.1 in
      let values = all_pass (λ (m : List ℕ × Json). is_object_of is_value m.1) (members_of v.0.1) d.0 (object_members (is_object_of is_value) v.0.1 source) d.1 in
      let value = all_pass (λ (m : List ℕ × Json). is_value m.1) (members_of d.0.1) a.0 (object_members is_value d.0.1 values) a.1 in
      let e = entity_named P v.0.0 (λ e. owner P e == s) (first_holds _ _ (all_pass (λ (m : List ℕ × Json). knows_source P s m.0 m.1) ms v.0 known v.1)) in
      record {
        entity = e.0;
        owned = eqb-true (owner P e.0) s e.2;
        sourced = record {
          below = e.1;
          source = ap (λ (u : SetValue). u.source) a.2 ∙ e.3;
          text = subst IsValueText (sym (ap (λ (u : SetValue). u.value) a.2)) (value_text a.0.1 value);
        };
      }

  pub values_given : (sets : List SetValue) → sets ≡ values_in P ms → All (IsGivenBy P s) sets
  values_given sets is = all_of (IsGivenBy P s) sets (λ w m. value_given w (subst (IsIn w) is m))
