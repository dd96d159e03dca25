-- What is gathered from an argument are the values that its request sets.
use Rattle.std.proofs.Common.{◌≡◌, ℕ, Bool, true, false, cond, List, [], ◌∷◌, ◌++◌, map, flat_map, Option, Some, None, IsSome, option_map, option_and_then, unwrap_or, refl, ap, ◌∙◌, sym, true≢false}
use Rattle.std.specs.List.{list_all}
use Rattle.std.proofs.lemmas.List.Folds.{list_all-map}
use Rattle.mk_base.specs.declared.json.Json.{Json, Json-F, out-Json, map-Json}
use Rattle.mk_base.specs.Lists.{all_there}
use Rattle.mk_base.specs.Texts.{text_of}
use Rattle.mk_base.specs.Trees.{members_in, is_datum, is_in_range, range_step, members_of}
use Rattle.mk_base.proofs.FoldsAgree.{folded_out}
use Rattle.mk_base.proofs.Lists.{some_same, none_some}
use Rattle.mk_plan.specs.declared.Plan.{Plan}
use Rattle.mk_plan.specs.declared.SetValue.{SetValue}
use Rattle.mk_plan.specs.Asks.{Named, Set, members_by, datum_in, entity_of, sets_in}
use Rattle.mk_async.specs.Asked.{named_by}
use Rattle.mk_async.specs.Forms.{each_passes, is_destinations, is_object_of, is_such, is_value, is_values}
use Rattle.mk_async.specs.inner.Forms.{set_of}
use Rattle.mk_async.specs.inner.Given.{is_source, set_value, values_from, values_in, values_to}
use Rattle.mk_async.specs.inner.Known.{Members}
use Rattle.mk_async.proofs.Reading.{set_there}
use Rattle.mk_async.proofs.Testing.{made, parts, read}
use Rattle.mk_base.proofs.Bools.{and_holds, first_holds, second_holds}

-- ---- each value is one that may be given, and in range

all_both : {A : Type 0} (p r q : A → Bool) → ((x : A) → p x ≡ true → r x ≡ true → q x ≡ true) → (xs : List A) → list_all p xs ≡ true → list_all r xs ≡ true → list_all q xs ≡ true
all_both p r q f [] a b = refl
all_both p r q f (x ∷ xs) a b = and_holds (q x) (list_all q xs) (f x (first_holds _ _ a) (first_holds _ _ b)) (all_both p r q f xs (second_holds _ _ a) (second_holds _ _ b))

-- the members of a layer that is an object
abbrev layer_members : Json-F Json → Option Members
layer_members (Json-F.Object ms) = Some ms
layer_members _ = None

-- the members of a tree in range are in range
pub range_members : (t : Json) (ms : Members) → is_in_range t ≡ true → members_in t ≡ Some ms → each_passes is_in_range ms ≡ true
range_members t ms all is = at (out-Json t) (sym (folded_out Bool range_step t) ∙ all) is
  where
    at : (l : Json-F Json) → range_step (map-Json Json Bool is_in_range l) ≡ true → layer_members l ≡ Some ms → each_passes is_in_range ms ≡ true
    at Json-F.Null all is = absurd (none_some is)
    at (Json-F.Bool b) all is = absurd (none_some is)
    at (Json-F.Whole n) all is = absurd (none_some is)
    at Json-F.Odd all is = absurd (none_some is)
    at (Json-F.Text s) all is = absurd (none_some is)
    at (Json-F.List js) all is = absurd (none_some is)
    at (Json-F.Object ns) all is = ap (each_passes is_in_range) (sym (some_same is)) ∙ sym (list_all-map (λ (m : List ℕ × Bool). m.1) (λ (m : List ℕ × Json). let q : List ℕ × Bool = (m.0, is_in_range m.1) in q) ns) ∙ all

object_both : (p q : Json → Bool) → ((v : Json) → p v ≡ true → is_in_range v ≡ true → q v ≡ true) → (t : Json) → is_object_of p t ≡ true → is_in_range t ≡ true → is_object_of q t ≡ true
object_both p q f t a b = by (members_in t) refl a
  where
    by : (o : Option Members) → members_in t ≡ o → is_such (each_passes p) o ≡ true → is_such (each_passes q) o ≡ true
    by None e a = absurd (true≢false (sym a))
    by (Some ms) e a = all_both (λ (m : List ℕ × Json). p m.1) (λ (m : List ℕ × Json). is_in_range m.1) (λ (m : List ℕ × Json). q m.1) (λ m. f m.1) ms a (range_members t ms b e)

pub sources_pass : (ms : Members) → IsSome (set_of ms) → each_passes is_in_range ms ≡ true → each_passes is_source ms ≡ true
sources_pass ms form range = all_both (λ (m : List ℕ × Json). is_destinations m.1) (λ (m : List ℕ × Json). is_in_range m.1) (λ (m : List ℕ × Json). is_source m.1)
    (λ m. object_both is_values (is_object_of is_value) (object_both is_datum is_value (λ v. and_holds (is_datum v) (is_in_range v))) m.1) ms (sym (set_there ms) ∙ form) range

-- ---- what is gathered

module _ {A B C : Type 0} (g : A → Option B) where
  pub map_same : (h : A → C) (k : B → C) → ((x : A) (y : B) → g x ≡ Some y → h x ≡ k y) → (xs : List A) (ys : List B) → all_there (map g xs) ≡ Some ys → map h xs ≡ map k ys
  map_same h k same [] ys e = ap (map k) (some_same e)
  map_same h k same (x ∷ xs) ys e = let m = made g x xs ys e in
      ap (λ c. c ∷ map h xs) (same x m.0 m.2) ∙ ap (λ l. k m.0 ∷ l) (map_same h k same xs m.1 m.3) ∙ ap (map k) (sym m.4)

  pub flat_same : (h : A → List C) (k : B → List C) → ((x : A) (y : B) → g x ≡ Some y → h x ≡ k y) → (xs : List A) (ys : List B) → all_there (map g xs) ≡ Some ys → flat_map h xs ≡ flat_map k ys
  flat_same h k same [] ys e = ap (flat_map k) (some_same e)
  flat_same h k same (x ∷ xs) ys e = let m = made g x xs ys e in
      ap (λ c. c ++ flat_map h xs) (same x m.0 m.2) ∙ ap (λ l. k m.0 ++ l) (flat_same h k same xs m.1 m.3) ∙ ap (flat_map k) (sym m.4)

module _ {X C : Type 0} (f : Json → Option X) where
  pub named_map : (h : List ℕ → Json → C) (k : Named X → C) → ((t : Json) (n : Named X) → f t ≡ Some n.value → h n.name t ≡ k n) → (ms : Members) (ns : List (Named X)) → named_by f ms ≡ Some ns → map (λ (m : List ℕ × Json). h m.0 m.1) ms ≡ map k ns
  named_map h k same ms ns e = map_same (read f) (λ (m : List ℕ × Json). h m.0 m.1) k (λ m n r. let p = parts f m n r in ap (λ i. h i m.1) p.0 ∙ same m.1 n p.1) ms ns e

  pub named_flat : (h : List ℕ → Json → List C) (k : Named X → List C) → ((t : Json) (n : Named X) → f t ≡ Some n.value → h n.name t ≡ k n) → (ms : Members) (ns : List (Named X)) → named_by f ms ≡ Some ns → flat_map (λ (m : List ℕ × Json). h m.0 m.1) ms ≡ flat_map k ns
  named_flat h k same ms ns e = flat_same (read f) (λ (m : List ℕ × Json). h m.0 m.1) k (λ m n r. let p = parts f m n r in ap (λ i. h i m.1) p.0 ∙ same m.1 n p.1) ms ns e

  pub object_list : (h : Members → List C) (k : List (Named X) → List C) → ((ms : Members) (ns : List (Named X)) → named_by f ms ≡ Some ns → h ms ≡ k ns) → (t : Json) (ns : List (Named X)) → members_by f t ≡ Some ns → h (members_of t) ≡ k ns
  object_list h k same t ns e = by (members_in t) e
    where
      by : (o : Option Members) → option_and_then (λ ms. named_by f ms) o ≡ Some ns → h (unwrap_or o []) ≡ k ns
      by None e = absurd (none_some e)
      by (Some ms) e = same ms ns e

pub datum_is : (t v : Json) → datum_in t ≡ Some v → t ≡ v
datum_is t v e = elim (is_datum t) as (λ b. cond b (Some t) None ≡ Some v → t ≡ v) [ true ↦ λ e. some_same e | false ↦ λ e. absurd (none_some e) ] e

module _ (P : Plan) where
  -- a value, the values for a destination and those from a source, as the request has them
  abbrev value : List ℕ → List ℕ → Named Json → SetValue
  value source id a = record { source = source; entity = unwrap_or (entity_of P id) 0; attr = a.name; value = text_of a.value }

  abbrev to : List ℕ → Named (List (Named Json)) → List SetValue
  to source d = map (λ a. value source d.name a) d.value

  abbrev from : Named (List (Named (List (Named Json)))) → List SetValue
  from v = flat_map (λ d. to v.name d) v.value

  to_same : (source : List ℕ) (t : Json) (d : Named (List (Named Json))) → members_by datum_in t ≡ Some d.value → values_to P source d.name (members_of t) ≡ to source d
  to_same source t d = object_list datum_in (values_to P source d.name) (map (λ a. value source d.name a))
      (named_map datum_in (λ attr v. set_value P source d.name attr v) (λ a. value source d.name a) (λ v a e. ap (λ w. set_value P source d.name a.name w) (datum_is v a.value e))) t d.value

  from_same : (t : Json) (v : Named (List (Named (List (Named Json))))) → members_by (members_by datum_in) t ≡ Some v.value → values_from P v.name (members_of t) ≡ from v
  from_same t v = object_list (members_by datum_in) (values_from P v.name) (flat_map (λ d. to v.name d))
      (named_flat (members_by datum_in) (λ id u. values_to P v.name id (members_of u)) (λ d. to v.name d) (λ u d e. to_same v.name u d e)) t v.value

  pub sets_same : (ms : Members) (values : List (Named (List (Named (List (Named Json)))))) → named_by (members_by (members_by datum_in)) ms ≡ Some values → values_in P ms ≡ sets_in P (Set values)
  sets_same = named_flat (members_by (members_by datum_in)) (λ id t. values_from P id (members_of t)) from from_same

  pub gathered : (ms : Members) (sets : List SetValue) → IsSome (set_of ms) → sets ≡ values_in P ms → option_map (sets_in P) (set_of ms) ≡ Some sets
  gathered ms sets form so = by (named_by (members_by (members_by datum_in)) ms) refl form
    where
      by : (o : Option (List (Named (List (Named (List (Named Json))))))) → named_by (members_by (members_by datum_in)) ms ≡ o → IsSome (option_map Set o) → option_map (sets_in P) (option_map Set o) ≡ Some sets
      by None e there = absurd (true≢false (sym there))
      by (Some values) e there = ap Some (sym (so ∙ sets_same ms values e))
