-- For proofs alone. The tree of what `serde_json` reads from a text in UTF-8 is proper.
use Rattle.std.proofs.Common.{◌≡◌, ℕ, Bool, true, List, [], ◌∷◌, Option, Some, None, option_map, option_and_then, Ordering, Less, Equal, Greater, refl, ap, ◌∙◌, subst}
use Rattle.std.specs.Prelude.{⊤, IsUtf8}
use Rattle.std.proofs.lemmas.Bool.{and_parts, and_from}
use Rattle.std.proofs.lemmas.Cmp.{nat_list_cmp_total}
use Rattle.std.proofs.lemmas.Str.{is_utf8-from_IsUtf8}
use Rattle.std.specs.List.{list_all}
use Rattle.std.specs.Map.{keys_of}
use Rattle.std.specs.Str.{is_utf8}
use Rattle.std.specs.Ordering.{nat_cmp, is_lt, ordering_reverse, match_ordering}
use Rattle.std.specs.Cmp.Lexicographic.{slice_cmp}
use Rattle.json.specs.Json as json
use Rattle.json.specs.Token.{Token}
use Rattle.json.specs.Lex.{tokens}
use Rattle.serde_json.specs.Data as value
use Rattle.serde_json.specs.Data.{Num, unsigned, negative, float, Data, Items, no_items, item, Members, no_members, member, put}
use Rattle.serde_json.specs.Read.{number_of, of_json, of_items, of_members, read, max_depth}
use Rattle.mk_base.specs.declared.json.Json as tree
use Rattle.mk_json.specs.Parsed as made
use Rattle.mk_json.specs.Parsed.{tree_of}
use Rattle.mk_base.specs.Proper.{is_proper, names_rise}
use Rattle.mk_json.proofs.LevelTests.{proper-List, proper-Object}
use Rattle.mk_json.proofs.OfOutlines.{proper-Null, proper-Bool, proper-Whole, proper-Odd, proper-Text}
use Rattle.mk_record_laws.proofs.Tokens.{ValueHasTexts, ItemsHaveTexts, MembersHaveTexts, Held, value_text}
use Rattle.mk_base.proofs.Bools.{less_is}

abbrev Fits : {A : Type 0} → (A → Type 0) → Option A → Type 0
Fits Q None = ⊤
Fits Q (Some x) = Q x

fits_map : {A B : Type 0} (Q : A → Type 0) (R : B → Type 0) (f : A → B) → ((x : A) → Q x → R (f x)) → (o : Option A) → Fits Q o → Fits R (option_map f o)
fits_map Q R f k None h = tt
fits_map Q R f k (Some x) h = k x h

fits_then : {A B : Type 0} (Q : A → Type 0) (R : B → Type 0) (f : A → Option B) → ((x : A) → Q x → Fits R (f x)) → (o : Option A) → Fits Q o → Fits R (option_and_then f o)
fits_then Q R f k None h = tt
fits_then Q R f k (Some x) h = k x h

abbrev IsProper : Data → Type 0
IsProper d = is_proper (tree_of d) ≡ true

abbrev AreProper : Items → Type 0
AreProper ds = list_all is_proper (made.items_of ds) ≡ true

abbrev names : Members → List (List ℕ)
names ms = keys_of (made.members_of ms)

record AreInOrder (ms : Members) : Type 0 where
  rise : names_rise (names ms) ≡ true
  texts : list_all is_utf8 (names ms) ≡ true
  values : list_all (λ (m : List ℕ × tree.Json). is_proper m.1) (made.members_of ms) ≡ true

-- ---- a member put among members

abbrev after : List ℕ → List ℕ → Bool
after k l = is_lt (slice_cmp nat_cmp k l)

module _ (k : List ℕ) (d : Data) where
  all_at : (p : List ℕ → Bool) (o : Ordering) (l : List ℕ) (e : Data) (ms : Members) → list_all p (names (member l e ms)) ≡ true → p k ≡ true → list_all p (names (put k d ms)) ≡ true
      → list_all p (names (match_ordering o (member k d (member l e ms)) (member l d ms) (member l e (put k d ms)))) ≡ true
  all_at p Less l e ms h q more = and_from _ _ q h
  all_at p Equal l e ms h q more = h
  all_at p Greater l e ms h q more = and_from _ _ (and_parts (p l) (list_all p (names ms)) h).0 more

  put_all : (p : List ℕ → Bool) (ms : Members) → list_all p (names ms) ≡ true → p k ≡ true → list_all p (names (put k d ms)) ≡ true
  put_all p no_members h q = and_from _ _ q refl
  put_all p (member l e ms) h q = all_at p _ l e ms h q (put_all p ms (and_parts (p l) (list_all p (names ms)) h).1 q)

  past : (l : List ℕ) (ks : List (List ℕ)) → slice_cmp nat_cmp k l ≡ Less → list_all (after l) ks ≡ true → list_all (after k) ks ≡ true
  past l [] h a = refl
  past l (m ∷ ks) h a =
      let t = and_parts (after l m) (list_all (after l) ks) a in
      and_from _ _ (ap is_lt (nat_list_cmp_total.trans k l m h (less_is (slice_cmp nat_cmp l m) t.0))) (past l ks h t.1)

  rise_at : (o : Ordering) (l : List ℕ) (e : Data) (ms : Members) → slice_cmp nat_cmp k l ≡ o → names_rise (names (member l e ms)) ≡ true → names_rise (names (put k d ms)) ≡ true
      → names_rise (names (match_ordering o (member k d (member l e ms)) (member l d ms) (member l e (put k d ms)))) ≡ true
  rise_at Less l e ms is h more = let t = and_parts (list_all (after l) (names ms)) (names_rise (names ms)) h in and_from _ _ (and_from _ _ (ap is_lt is) (past l (names ms) is t.0)) h
  rise_at Equal l e ms is h more = h
  rise_at Greater l e ms is h more =
      let t = and_parts (list_all (after l) (names ms)) (names_rise (names ms)) h in
      and_from _ _ (put_all (after l) ms t.0 (ap is_lt (nat_list_cmp_total.antisymm l k ∙ ap ordering_reverse is))) more

  put_rise : (ms : Members) → names_rise (names ms) ≡ true → names_rise (names (put k d ms)) ≡ true
  put_rise no_members h = refl
  put_rise (member l e ms) h = rise_at (slice_cmp nat_cmp k l) l e ms refl h (put_rise ms (and_parts (list_all (after l) (names ms)) (names_rise (names ms)) h).1)

  abbrev values_pass : Members → Bool
  values_pass ms = list_all (λ (m : List ℕ × tree.Json). is_proper m.1) (made.members_of ms)

  values_at : (o : Ordering) (l : List ℕ) (e : Data) (ms : Members) → IsProper d → values_pass (member l e ms) ≡ true → values_pass (put k d ms) ≡ true
      → values_pass (match_ordering o (member k d (member l e ms)) (member l d ms) (member l e (put k d ms))) ≡ true
  values_at Less l e ms p h more = and_from _ _ p h
  values_at Equal l e ms p h more = and_from _ _ p (and_parts (is_proper (tree_of e)) (values_pass ms) h).1
  values_at Greater l e ms p h more = and_from _ _ (and_parts (is_proper (tree_of e)) (values_pass ms) h).0 more

  put_values : (ms : Members) → IsProper d → values_pass ms ≡ true → values_pass (put k d ms) ≡ true
  put_values no_members p h = and_from _ _ p refl
  put_values (member l e ms) p h = values_at _ l e ms p h (put_values ms p (and_parts (is_proper (tree_of e)) (values_pass ms) h).1)

  put_in_order : (ms : Members) → is_utf8 k ≡ true → IsProper d → AreInOrder ms → AreInOrder (put k d ms)
  put_in_order ms t p h = record { rise = put_rise ms h.rise; texts = put_all is_utf8 ms h.texts t; values = put_values ms p h.values }

-- ---- values

number_proper : (n : Num) → IsProper (value.number n)
number_proper (unsigned n) = proper-Whole _
number_proper (negative z) = proper-Whole _
number_proper (float x) = proper-Odd

members_proper : (ms : Members) → AreInOrder ms → IsProper (value.object ms)
members_proper ms h = proper-Object (made.members_of ms) ∙ and_from _ _ (and_from _ _ h.rise h.texts) h.values

any : {A : Type 0} (o : Option A) → Fits (λ _. ⊤) o
any None = tt
any (Some x) = tt

mutual
  json_proper : (j : json.Json) → ValueHasTexts j → Fits IsProper (of_json j)
  json_proper json.null h = proper-Null
  json_proper (json.boolean b) h = proper-Bool b
  json_proper (json.number s) h = fits_map (λ _. ⊤) IsProper value.number (λ n _. number_proper n) (number_of s) (any (number_of s))
  json_proper (json.string s) h = proper-Text s ∙ is_utf8-from_IsUtf8 s h
  json_proper (json.array js) h = fits_map AreProper IsProper value.array (λ ds k. proper-List (made.items_of ds) ∙ k) (of_items js) (items_proper js h)
  json_proper (json.object ms) h = fits_map AreInOrder IsProper value.object members_proper (of_members ms no_members) (object_proper ms no_members h (record { rise = refl; texts = refl; values = refl }))

  items_proper : (js : json.Items) → ItemsHaveTexts js → Fits AreProper (of_items js)
  items_proper json.no_items h = refl
  items_proper (json.item j js) h =
      fits_then IsProper AreProper _ (λ d p. fits_map AreProper AreProper (item d) (λ ds k. and_from _ _ p k) (of_items js) (items_proper js h.1)) (of_json j) (json_proper j h.0)

  object_proper : (ms : json.Members) (found : Members) → MembersHaveTexts ms → AreInOrder found → Fits AreInOrder (of_members ms found)
  object_proper json.no_members found h k = k
  object_proper (json.member name j ms) found h k =
      fits_then IsProper AreInOrder _ (λ d p. object_proper ms (put name d found) h.2 (put_in_order name d found (is_utf8-from_IsUtf8 name h.0) p k)) (of_json j) (json_proper j h.1)

then_proper : (o : Option json.Json) → Held o → Fits IsProper (option_and_then of_json o)
then_proper None h = tt
then_proper (Some j) h = json_proper j h

pub read_proper : (bytes : List ℕ) (d : Data) → IsUtf8 bytes → read bytes ≡ Some d → is_proper (tree_of d) ≡ true
read_proper bytes d u e = subst (Fits IsProper) e (then_proper (option_and_then (λ (p : json.Json × List Token). json.if_last p.0 p.1) (json.value max_depth (tokens bytes))) (value_text max_depth bytes u))
