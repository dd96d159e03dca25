-- The tests of names and pairs that go through the argument are those of the request that it is.
use Rattle.std.proofs.Common.{◌≡◌, ℕ, Bool, false, ◌&&◌, List, [], ◌∷◌, map, Option, Some, None, option_map, option_and_then, unwrap_or, refl, ap, ◌∙◌, sym, ◌==◌}
use Rattle.std.specs.List.{list_all}
use Rattle.mk_base.specs.declared.json.Json.{Json}
use Rattle.mk_base.specs.Lists.{all_there}
use Rattle.mk_base.specs.Trees.{text_in, items_in, members_in, texts_in}
use Rattle.mk_base.proofs.Lists.{some_same, none_some}
use Rattle.mk_plan.specs.declared.Plan.{Plan}
use Rattle.mk_plan.specs.Plans.{owner}
use Rattle.mk_plan.specs.Asks.{Named, Request, Get, Set, RelatedOfEach, members_by, datum_in, entity_of, of_entity, gives_attr, takes_attr, knows, permits}
use Rattle.mk_async.specs.Asked.{named_by, asked_in}
use Rattle.mk_async.specs.Forms.{is_such}
use Rattle.mk_async.specs.inner.Known.{Members, are_known, gives_each, is_known, knows_asked, knows_destination, knows_destinations, knows_source, knows_sources, knows_want, knows_wants, lends, lends_destinations, lends_each, lends_sources, permits_asked, takes_each}
use Rattle.mk_async.specs.declared.request.Asked.{Asked}
use Rattle.mk_async.specs.declared.request.Asked.TheVariants as as_asked

-- what is made of a list all of whose items are there
module _ {A B : Type 0} (g : A → Option B) where
  abbrev pub Made : A → List A → List B → Type 0
  Made x xs ys = (y : B) × (zs : List B) × (g x ≡ Some y) × (all_there (map g xs) ≡ Some zs) × (ys ≡ y ∷ zs)

  pub made : (x : A) (xs : List A) (ys : List B) → all_there (map g (x ∷ xs)) ≡ Some ys → Made x xs ys
  made x xs ys e = by (g x) (all_there (map g xs)) refl refl e
    where
      by : (o : Option B) (p : Option (List B)) → g x ≡ o → all_there (map g xs) ≡ p → option_and_then (λ y. option_map (λ ys. y ∷ ys) p) o ≡ Some ys → Made x xs ys
      by None p go pp e = absurd (none_some e)
      by (Some y) None go pp e = absurd (none_some e)
      by (Some y) (Some zs) go pp e = (y, zs, go, pp, sym (some_same e))

  pub all_same : (h : A → Bool) (test : B → Bool) → ((x : A) (y : B) → g x ≡ Some y → h x ≡ test y) → (xs : List A) (ys : List B) → all_there (map g xs) ≡ Some ys → list_all h xs ≡ list_all test ys
  all_same h test same [] ys e = ap (list_all test) (some_same e)
  all_same h test same (x ∷ xs) ys e = let m = made x xs ys e in
      ap (λ b. b && list_all h xs) (same x m.0 m.2) ∙ ap (λ b. test m.0 && b) (all_same h test same xs m.1 m.3) ∙ ap (list_all test) (sym m.4)

-- what is read of a member
module _ {X : Type 0} (f : Json → Option X) where
  abbrev pub read : List ℕ × Json → Option (Named X)
  read m = option_map (λ x. let p : Named X = record { name = m.0; value = x } in p) (f m.1)

  -- its name is the member's, and its value is read of the member's
  pub parts : (m : List ℕ × Json) (n : Named X) → read m ≡ Some n → (m.0 ≡ n.name) × (f m.1 ≡ Some n.value)
  parts m n e = by (f m.1) refl e
    where
      by : (o : Option X) → f m.1 ≡ o → option_map (λ x. let p : Named X = record { name = m.0; value = x } in p) o ≡ Some n → (m.0 ≡ n.name) × (f m.1 ≡ Some n.value)
      by None fo e = absurd (none_some e)
      by (Some x) fo e = (ap (λ k. k.name) (some_same e), fo ∙ ap (λ (k : Named X). Some k.value) (some_same e))

  pub named_same : (h : List ℕ → Json → Bool) (test : Named X → Bool) → ((t : Json) (n : Named X) → f t ≡ Some n.value → h n.name t ≡ test n) → (ms : Members) (ns : List (Named X)) → named_by f ms ≡ Some ns → list_all (λ (m : List ℕ × Json). h m.0 m.1) ms ≡ list_all test ns
  named_same h test same ms ns e = all_same read (λ (m : List ℕ × Json). h m.0 m.1) test (λ m n r. let p = parts m n r in ap (λ k. h k m.1) p.0 ∙ same m.1 n p.1) ms ns e

  -- the members of an object that is read
  pub object_same : (h : Members → Bool) (test : List (Named X) → Bool) → ((ms : Members) (ns : List (Named X)) → named_by f ms ≡ Some ns → h ms ≡ test ns) → (t : Json) (ns : List (Named X)) → members_by f t ≡ Some ns → is_such h (members_in t) ≡ test ns
  object_same h test same t ns e = by (members_in t) e
    where
      by : (o : Option Members) → option_and_then (λ ms. named_by f ms) o ≡ Some ns → is_such h o ≡ test ns
      by None e = absurd (none_some e)
      by (Some ms) e = same ms ns e

such_text : (test : List ℕ → Bool) (t : Json) (text : List ℕ) → text_in t ≡ Some text → is_such test (text_in t) ≡ test text
such_text test t text e = ap (λ o. is_such test o) e

-- the test of an entity goes with that of what is asked of it
of_entity_same : (P : Plan) (id : List ℕ) (p q : ℕ → Bool) → ((e : ℕ) → p e ≡ q e) → of_entity P id p ≡ of_entity P id q
of_entity_same P id p q same = elim (entity_of P id) as (λ o. unwrap_or (option_map p o) false ≡ unwrap_or (option_map q o) false) [ None ↦ refl | Some e ↦ same e ]

module _ (P : Plan) (s : ℕ) where
  gives_same : (e : ℕ) (t : Json) (attrs : List (List ℕ)) → texts_in t ≡ Some attrs → is_such (gives_each P e) (items_in t) ≡ list_all (gives_attr P e) attrs
  gives_same e t attrs r = by (items_in t) r
    where
      by : (o : Option (List Json)) → option_and_then (λ js. all_there (map text_in js)) o ≡ Some attrs → is_such (gives_each P e) o ≡ list_all (gives_attr P e) attrs
      by None r = absurd (none_some r)
      by (Some js) r = all_same text_in (λ t. is_such (gives_attr P e) (text_in t)) (gives_attr P e) (such_text (gives_attr P e)) js attrs r

  pub wants_same : (ms : Members) (wants : List (Named (List (List ℕ)))) → named_by texts_in ms ≡ Some wants → knows_wants P ms ≡ knows P s (Get wants)
  wants_same ms wants r = named_same texts_in (knows_want P) (λ w. of_entity P w.name (λ e. list_all (gives_attr P e) w.value)) (λ t w f. of_entity_same P w.name _ _ (λ e. gives_same e t w.value f)) ms wants r

  takes_same : (e : ℕ) (t : Json) (values : List (Named Json)) → members_by datum_in t ≡ Some values → is_such (takes_each P e) (members_in t) ≡ list_all (λ a. takes_attr P e a.name) values
  takes_same e = object_same datum_in (takes_each P e) (λ values. list_all (λ a. takes_attr P e a.name) values) (named_same datum_in (λ id t. takes_attr P e id) (λ a. takes_attr P e a.name) (λ t n f. refl))

  destinations_same : (t : Json) (ds : List (Named (List (Named Json)))) → members_by (members_by datum_in) t ≡ Some ds → is_such (knows_destinations P) (members_in t) ≡ list_all (λ d. of_entity P d.name (λ e. list_all (λ a. takes_attr P e a.name) d.value)) ds
  destinations_same = object_same (members_by datum_in) (knows_destinations P) (λ ds. list_all (λ d. of_entity P d.name (λ e. list_all (λ a. takes_attr P e a.name) d.value)) ds)
      (named_same (members_by datum_in) (knows_destination P) (λ d. of_entity P d.name (λ e. list_all (λ a. takes_attr P e a.name) d.value)) (λ t d f. of_entity_same P d.name _ _ (λ e. takes_same e t d.value f)))

  sources_same : (ms : Members) (values : List (Named (List (Named (List (Named Json)))))) → named_by (members_by (members_by datum_in)) ms ≡ Some values → knows_sources P s ms ≡ knows P s (Set values)
  sources_same ms values r = named_same (members_by (members_by datum_in)) (knows_source P s) (λ v. of_entity P v.name (λ e. owner P e == s) && list_all (λ d. of_entity P d.name (λ e. list_all (λ a. takes_attr P e a.name) d.value)) v.value)
      (λ t v f. ap (λ b. of_entity P v.name (λ e. owner P e == s) && b) (destinations_same t v.value f)) ms values r

  known_same : (ts : List Json) (texts : List (List ℕ)) → all_there (map text_in ts) ≡ Some texts → are_known P ts ≡ knows P s (RelatedOfEach texts)
  known_same ts texts r = all_same text_in (λ t. is_such (is_known P) (text_in t)) (is_known P) (such_text (is_known P)) ts texts r

  lends_wants : (ms : Members) (wants : List (Named (List (List ℕ)))) → named_by texts_in ms ≡ Some wants → lends_each P s ms ≡ permits P s (Get wants)
  lends_wants ms wants r = named_same texts_in (λ id t. lends P s id) (λ w. lends P s w.name) (λ t w f. refl) ms wants r

  lends_same : (t : Json) (ds : List (Named (List (Named Json)))) → members_by (members_by datum_in) t ≡ Some ds → lends_destinations P s t ≡ list_all (λ d. lends P s d.name) ds
  lends_same = object_same (members_by datum_in) (lends_each P s) (λ ds. list_all (λ d. lends P s d.name) ds) (named_same (members_by datum_in) (λ id t. lends P s id) (λ d. lends P s d.name) (λ t d f. refl))

  lends_values : (ms : Members) (values : List (Named (List (Named (List (Named Json)))))) → named_by (members_by (members_by datum_in)) ms ≡ Some values → lends_sources P s ms ≡ permits P s (Set values)
  lends_values ms values r = named_same (members_by (members_by datum_in)) (λ id t. lends_destinations P s t) (λ v. list_all (λ d. lends P s d.name) v.value) (λ t v f. lends_same t v.value f) ms values r

  -- both tests of a request, as they are made
  abbrev pub Both : Asked → Request → Type 0
  Both asked r = (knows_asked P s asked ≡ knows P s r) × (permits_asked P s asked ≡ permits P s r)

  pub both : (asked : Asked) (r : Request) → asked_in asked ≡ Some r → Both asked r
  both (as_asked.Get ms) r e = by (named_by texts_in ms.now) refl e
    where
      by : (o : Option (List (Named (List (List ℕ))))) → named_by texts_in ms.now ≡ o → option_map Get o ≡ Some r → Both (as_asked.Get ms) r
      by None n e = absurd (none_some e)
      by (Some wants) n e = (wants_same ms.now wants n ∙ ap (knows P s) (some_same e), lends_wants ms.now wants n ∙ ap (permits P s) (some_same e))
  both (as_asked.Set ms) r e = by (named_by (members_by (members_by datum_in)) ms.now) refl e
    where
      by : (o : Option (List (Named (List (Named (List (Named Json))))))) → named_by (members_by (members_by datum_in)) ms.now ≡ o → option_map Set o ≡ Some r → Both (as_asked.Set ms) r
      by None n e = absurd (none_some e)
      by (Some values) n e = (sources_same ms.now values n ∙ ap (knows P s) (some_same e), lends_values ms.now values n ∙ ap (permits P s) (some_same e))
  both (as_asked.Related text) r e = (ap (knows P s) (some_same e), ap (permits P s) (some_same e))
  both (as_asked.RelatedOfEach ts) r e = by (all_there (map text_in ts.now)) refl e
    where
      by : (o : Option (List (List ℕ))) → all_there (map text_in ts.now) ≡ o → option_map RelatedOfEach o ≡ Some r → Both (as_asked.RelatedOfEach ts) r
      by None n e = absurd (none_some e)
      by (Some texts) n e = (known_same ts.now texts n ∙ ap (knows P s) (some_same e), ap (permits P s) (some_same e))
