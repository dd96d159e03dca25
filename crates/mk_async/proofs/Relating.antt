-- The trees of related entities have the texts of the answer, and are values.
use Rattle.std.proofs.Common.{◌≡◌, ℕ, ◌-◌, Bool, true, nat_le, nat_lt, List, [], ◌∷◌, map, fold, Option, Some, None, IsSome, option_map, codes, refl, ap, ◌∙◌, sym, arith, true≢false}
use Rattle.std.specs.BTreeMap.{insert_entry}
use Rattle.std.specs.Ordering.{match_ordering}
use Rattle.std.specs.declared.cmp.Ordering.{Ordering}
use Rattle.std.specs.declared.cmp.Ordering.TheVariants.{Less, Equal, Greater}
use Rattle.std.proofs.lemmas.Map.Lookups.{exact_bytes}
use Rattle.mk_base.specs.declared.json.Json as tree
use Rattle.mk_base.specs.Lists.{all_there, put, placed, text_order}
use Rattle.mk_base.specs.Texts.{text_of, text_step, object_text}
use Rattle.mk_base.specs.Trees.{text_in, is_whole, is_in_range, nesting}
use Rattle.mk_base.proofs.Levels.{whole_members, members_within}
use Rattle.mk_base.proofs.Lists.{some_same}
use Rattle.mk_base.proofs.OnTrees.{trees_compute}
use Rattle.mk_json.proofs.LevelTests.{range-Object}
use Rattle.mk_json.proofs.Layers.{folded-Object, folded-Text, folded-Null}
use Rattle.mk_plan.specs.declared.Plan.{Plan}
use Rattle.mk_plan.specs.Plans.{full_id}
use Rattle.mk_plan.specs.Asks.{Lookup, RelatedOfEach, content_text, model_name, ordered, related_text, related_to, type_text}
use Rattle.mk_async.specs.Forms.{each_passes, is_value}
use Rattle.mk_async.specs.inner.Forms.{texts_of}
use Rattle.mk_async.specs.inner.Known.{Members}
use Rattle.mk_async.specs.inner.Related.{described, each_read, each_text, fits, gathered_by, put_read, put_text, related_tree, texts, type_tree}
use Rattle.mk_async.proofs.Testing.{made}
use Rattle.mk_base.proofs.Bools.{and_holds, first_holds, second_holds}

-- ---- texts

abbrev pub by_name : List ℕ × List ℕ → List ℕ × List ℕ → Ordering
by_name a b = text_order a.0 b.0

abbrev pub put_in : List (List ℕ × List ℕ) → List ℕ × List ℕ → List (List ℕ × List ℕ)
put_in done m = put by_name m done

pub text_object : (ms : Members) → text_of (tree.Object ms) ≡ object_text (texts ms)
text_object ms = folded-Object (List ℕ) text_step ms

pub text_null : text_of tree.Null ≡ codes "null"
text_null = folded-Null (List ℕ) text_step

texts_put : (k : List ℕ) (v : tree.Json) (done : Members) → texts (insert_entry text_order done k v) ≡ put_in (texts done) (k, text_of v)
texts_put k v [] = refl
texts_put k v (m ∷ done) = by (text_order k m.0) refl (texts_put k v done)
  where
    by : (o : Ordering) → text_order k m.0 ≡ o → texts (insert_entry text_order done k v) ≡ put_in (texts done) (k, text_of v)
        → texts (match_ordering o ((k, v) ∷ m ∷ done) ((m.0, v) ∷ done) (m ∷ insert_entry text_order done k v)) ≡ placed o (k, text_of v) (m.0, text_of m.1) (texts done) (put_in (texts done) (k, text_of v))
    by Less e rest = refl
    by Equal e rest = ap (λ (n : List ℕ). let p : List ℕ × List ℕ = (n, text_of v) in p ∷ texts done) (sym (exact_bytes k m.0 e))
    by Greater e rest = ap (λ l. let p : List ℕ × List ℕ = (m.0, text_of m.1) in p ∷ l) rest

module _ {A : Type 0} (key : A → List ℕ) (value : A → tree.Json) where
  abbrev named : A → List ℕ × List ℕ
  named x = (key x, text_of (value x))

  texts_gathered : (xs : List A) (done : Members) → texts (gathered_by key value done xs) ≡ fold put_in (texts done) (map named xs)
  texts_gathered [] done = refl
  texts_gathered (x ∷ xs) done = texts_gathered xs (insert_entry text_order done (key x) (value x)) ∙ ap (λ l. fold put_in l (map named xs)) (texts_put (key x) (value x) done)

map_each : {A B : Type 0} (f g : A → B) → ((x : A) → f x ≡ g x) → (xs : List A) → map f xs ≡ map g xs
map_each f g same [] = refl
map_each f g same (x ∷ xs) = ap (λ y. y ∷ map f xs) (same x) ∙ ap (λ l. g x ∷ l) (map_each f g same xs)

module _ (P : Plan) where
  type_same : (e : ℕ) → text_of (type_tree P e) ≡ type_text P e
  type_same e = text_object ((codes "type", tree.Text (model_name P e)) ∷ []) ∙ ap (λ (t : List ℕ). let p : List ℕ × List ℕ = (codes "type", t) in object_text (p ∷ [])) (folded-Text (List ℕ) text_step (model_name P e))

  pub related_same : (id : List ℕ) → text_of (related_tree P id) ≡ related_text P id
  related_same id = text_object (described P (related_to P id)) ∙ ap object_text (texts_gathered (full_id P) (type_tree P) (related_to P id) [])
      ∙ ap (λ l. object_text (ordered l)) (map_each (named (full_id P) (type_tree P)) (λ e. (full_id P e, type_text P e)) (λ e. ap (λ (t : List ℕ). let p : List ℕ × List ℕ = (full_id P e, t) in p) (type_same e)) (related_to P id))

  each_gathered : (ts : List tree.Json) (ids : List (List ℕ)) (done : Members) → all_there (map text_in ts) ≡ Some ids → fold (put_read P) done ts ≡ gathered_by (λ id. id) (related_tree P) done ids
  each_gathered [] ids done e = ap (gathered_by (λ id. id) (related_tree P) done) (some_same e)
  each_gathered (t ∷ ts) ids done e = let m = made text_in t ts ids e in
      ap (λ o. fold (put_read P) (put_text P done o) ts) m.2 ∙ each_gathered ts m.1 (insert_entry text_order done m.0 (related_tree P m.0)) m.3 ∙ ap (gathered_by (λ id. id) (related_tree P) done) (sym m.4)

  pub each_same : (ts : List tree.Json) (ids : List (List ℕ)) → all_there (map text_in ts) ≡ Some ids → text_of (tree.Object (each_read P ts)) ≡ object_text (ordered (map (λ id. (id, related_text P id)) ids))
  each_same ts ids e = text_object (each_read P ts) ∙ ap (λ ms. object_text (texts ms)) (each_gathered ts ids [] e) ∙ ap object_text (texts_gathered (λ id. id) (related_tree P) ids [])
      ∙ ap (λ l. object_text (ordered l)) (map_each (named (λ id. id) (related_tree P)) (λ id. (id, related_text P id)) (λ id. ap (λ (t : List ℕ). let p : List ℕ × List ℕ = (id, t) in p) (related_same id)) ids)

-- ---- values

passes_more : (p q : tree.Json → Bool) → ((t : tree.Json) → p t ≡ true → q t ≡ true) → (ms : Members) → each_passes p ms ≡ true → each_passes q ms ≡ true
passes_more p q f [] h = refl
passes_more p q f (m ∷ ms) h = and_holds (q m.1) (each_passes q ms) (f m.1 (first_holds _ _ h)) (passes_more p q f ms (second_holds _ _ h))

-- an object fits where its members fit within one less
pub fits_object : (d : ℕ) → nat_lt 0 d ≡ true → (ms : Members) → each_passes (fits (d - 1)) ms ≡ true → fits d (tree.Object ms) ≡ true
fits_object d above ms h = and_holds _ _ (whole_members ms ∙ passes_more (fits (d - 1)) is_whole (λ t. first_holds _ _) ms h)
    (and_holds _ _ (members_within ms d above ∙ passes_more (fits (d - 1)) (λ t. nat_le (nesting t) (d - 1)) (λ t g. first_holds _ _ (second_holds _ _ g)) ms h)
    (range-Object ms ∙ passes_more (fits (d - 1)) is_in_range (λ t g. second_holds _ _ (second_holds _ _ g)) ms h))

module _ (p : tree.Json → Bool) where
  put_passes : (k : List ℕ) (v : tree.Json) → p v ≡ true → (done : Members) → each_passes p done ≡ true → each_passes p (insert_entry text_order done k v) ≡ true
  put_passes k v pv [] h = and_holds (p v) true pv refl
  put_passes k v pv (m ∷ done) h = by (text_order k m.0) (put_passes k v pv done (second_holds _ _ h))
    where
      by : (o : Ordering) → each_passes p (insert_entry text_order done k v) ≡ true → each_passes p (match_ordering o ((k, v) ∷ m ∷ done) ((m.0, v) ∷ done) (m ∷ insert_entry text_order done k v)) ≡ true
      by Less rest = and_holds (p v) (each_passes p (m ∷ done)) pv h
      by Equal rest = and_holds (p v) (each_passes p done) pv (second_holds (p m.1) (each_passes p done) h)
      by Greater rest = and_holds (p m.1) (each_passes p (insert_entry text_order done k v)) (first_holds (p m.1) (each_passes p done) h) rest

  gathered_passes : {A : Type 0} (key : A → List ℕ) (value : A → tree.Json) → ((x : A) → p (value x) ≡ true) → (xs : List A) (done : Members) → each_passes p done ≡ true → each_passes p (gathered_by key value done xs) ≡ true
  gathered_passes key value each [] done h = h
  gathered_passes key value each (x ∷ xs) done h = gathered_passes key value each xs (insert_entry text_order done (key x) (value x)) (put_passes (key x) (value x) (each x) done h)

text_fits : (s : List ℕ) → fits 0 (tree.Text s) ≡ true
unfolding trees_compute
text_fits s = refl

fits_value : (d : ℕ) (t : tree.Json) → nat_le d 100 ≡ true → fits d t ≡ true → is_value t ≡ true
fits_value d t small h = and_holds _ _ (and_holds _ _ (first_holds _ _ h) (within (nesting t) (first_holds _ _ (second_holds _ _ h)))) (second_holds _ _ (second_holds _ _ h))
  where
    within : (n : ℕ) → nat_le n d ≡ true → nat_le n 100 ≡ true
    within n e = grind arith

pub null_value : is_value tree.Null ≡ true
unfolding trees_compute
null_value = refl

module _ (P : Plan) where
  type_fits : (e : ℕ) → fits 1 (type_tree P e) ≡ true
  type_fits e = fits_object 1 refl ((codes "type", tree.Text (model_name P e)) ∷ []) (and_holds (fits 0 (tree.Text (model_name P e))) true (text_fits (model_name P e)) refl)

  related_fits : (id : List ℕ) → fits 2 (related_tree P id) ≡ true
  related_fits id = fits_object 2 refl (described P (related_to P id)) (gathered_passes (fits 1) (full_id P) (type_tree P) type_fits (related_to P id) [] refl)

  pub related_value : (id : List ℕ) → is_value (related_tree P id) ≡ true
  related_value id = fits_value 2 (related_tree P id) refl (related_fits id)

  read_passes : (ts : List tree.Json) (done : Members) → each_passes (fits 2) done ≡ true → each_passes (fits 2) (fold (put_read P) done ts) ≡ true
  read_passes [] done h = h
  read_passes (t ∷ ts) done h = read_passes ts (put_read P done t) (by (text_in t))
    where
      by : (o : Option (List ℕ)) → each_passes (fits 2) (put_text P done o) ≡ true
      by None = h
      by (Some id) = put_passes (fits 2) id (related_tree P id) (related_fits id) done h

  pub each_value : (ts : List tree.Json) → is_value (tree.Object (each_read P ts)) ≡ true
  each_value ts = fits_value 3 (tree.Object (each_read P ts)) refl (fits_object 3 refl (each_read P ts) (read_passes ts [] refl))

  pub each_content : (look : Lookup) (ts : List tree.Json) (text : List ℕ) → IsSome (texts_of ts) → text ≡ each_text P ts → option_map (content_text P look) (texts_of ts) ≡ Some text
  each_content look ts text there so = by (all_there (map text_in ts)) refl there
    where
      by : (o : Option (List (List ℕ))) → all_there (map text_in ts) ≡ o → IsSome (option_map RelatedOfEach o) → option_map (content_text P look) (option_map RelatedOfEach o) ≡ Some text
      by None e there = absurd (true≢false (sym there))
      by (Some ids) e there = ap Some (sym (so ∙ each_same P ts ids e))
