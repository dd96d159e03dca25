-- A request has its form exactly where each of its parts has.
use Rattle.std.proofs.Common.{◌≡◌, ℕ, Bool, true, false, ◌&&◌, List, [], ◌∷◌, cond, map, Option, Some, None, is_some, option_map, option_and_then, refl, ap, ◌∙◌, sym, IsSome, true≢false}
use Rattle.std.specs.List.{list_all}
use Rattle.mk_base.specs.declared.json.Json.{Json}
use Rattle.mk_base.specs.Lists.{all_there}
use Rattle.mk_base.specs.Trees.{text_in, items_in, members_in, is_datum, texts_in}
use Rattle.mk_plan.specs.Asks.{members_by, datum_in, Get, Set, RelatedOfEach}
use Rattle.mk_async.specs.Asked.{get_in, named_by}
use Rattle.mk_async.specs.Forms.{are_texts, each_passes, is_destinations, is_object_of, is_such, is_texts, is_values}
use Rattle.mk_async.specs.inner.Forms.{set_of, texts_of}

module _ {A : Type 0} where
  pub none_there : (b : Bool) (o : Option A) → b ≡ false → is_some o ≡ b → o ≡ None
  none_there b None e f = refl
  none_there b (Some x) e f = absurd (true≢false (f ∙ e))

  pub some_there : (b : Bool) (o : Option A) → b ≡ true → is_some o ≡ b → IsSome o
  some_there b None e f = absurd (true≢false (sym (f ∙ e)))
  some_there b (Some x) e f = search

module _ {A B : Type 0} where
  map_there : (f : A → B) (o : Option A) → is_some (option_map f o) ≡ is_some o
  map_there f None = refl
  map_there f (Some x) = refl

  -- nothing is missing exactly where nothing is missing of each
  all_forms : (g : A → Option B) (test : A → Bool) → ((x : A) → is_some (g x) ≡ test x) → (xs : List A) → is_some (all_there (map g xs)) ≡ list_all test xs
  all_forms g test same [] = refl
  all_forms g test same (x ∷ xs) = step (g x) (all_there (map g xs)) ∙ ap (λ b. b && is_some (all_there (map g xs))) (same x) ∙ ap (λ b. test x && b) (all_forms g test same xs)
    where
      step : (o : Option B) (p : Option (List B)) → is_some (option_and_then (λ y. option_map (λ ys. y ∷ ys) p) o) ≡ (is_some o && is_some p)
      step None p = refl
      step (Some y) None = refl
      step (Some y) (Some ys) = refl

pub texts_form : (ts : List Json) → is_some (all_there (map text_in ts)) ≡ are_texts ts
texts_form ts = all_forms text_in (λ t. is_some (text_in t)) (λ t. refl) ts

is_texts_form : (t : Json) → is_some (texts_in t) ≡ is_texts t
is_texts_form t = elim (items_in t) as (λ o. is_some (option_and_then (λ js. all_there (map text_in js)) o) ≡ is_such are_texts o) [ None ↦ refl | Some ts ↦ texts_form ts ]

module _ {X : Type 0} (f : Json → Option X) (test : Json → Bool) (same : (t : Json) → is_some (f t) ≡ test t) where
  named_form : (ms : List (List ℕ × Json)) → is_some (named_by f ms) ≡ each_passes test ms
  named_form ms = all_forms _ (λ (m : List ℕ × Json). test m.1) (λ m. map_there _ (f m.1) ∙ same m.1) ms

  object_form : (t : Json) → is_some (members_by f t) ≡ is_object_of test t
  object_form t = elim (members_in t) as (λ o. is_some (option_and_then (λ ms. named_by f ms) o) ≡ is_such (each_passes test) o) [ None ↦ refl | Some ms ↦ named_form ms ]

datum_form : (t : Json) → is_some (datum_in t) ≡ is_datum t
datum_form t = elim (is_datum t) as (λ b. is_some (cond b (Some t) None) ≡ b) [ true ↦ refl | false ↦ refl ]

sources_form : (ms : List (List ℕ × Json)) → is_some (named_by (members_by (members_by datum_in)) ms) ≡ each_passes is_destinations ms
sources_form ms = named_form (members_by (members_by datum_in)) is_destinations (object_form (members_by datum_in) is_values (object_form datum_in is_datum datum_form)) ms

-- the requests of each function: there exactly where the test passes
pub get_there : (ms : List (List ℕ × Json)) → is_some (get_in ms) ≡ each_passes is_texts ms
get_there ms = map_there Get (named_by texts_in ms) ∙ named_form texts_in is_texts is_texts_form ms

pub set_there : (ms : List (List ℕ × Json)) → is_some (set_of ms) ≡ each_passes is_destinations ms
set_there ms = map_there Set (named_by (members_by (members_by datum_in)) ms) ∙ sources_form ms

pub texts_there : (ts : List Json) → is_some (texts_of ts) ≡ are_texts ts
texts_there ts = map_there RelatedOfEach (all_there (map text_in ts)) ∙ texts_form ts
