-- What is read: the trees of values, their numbers and their nesting.
use Rattle.std.proofs.Common.{◌≡◌, ℕ, zero, suc, pred, ◌<◌, ◌≤◌, ◌^◌, pos, ◌&&◌, List, [], ◌∷◌, drop, max, Bool, true, false, nat_lt, nat_le, if◌then◌else◌, Option, Some, None, option_map, option_and_then, Ordering, Less, Equal, Greater, refl, sym, ap, ap₂, ◌∙◌, subst, arith}
use Rattle.std.proofs.lemmas.Bool.{and_parts, and_from, ltb-true, leb-true}
use Rattle.std.proofs.lemmas.Int.{ints}
use Rattle.std.proofs.lemmas.Str.{IsUtf8-from_is_utf8, is_utf8-from_IsUtf8}
use Rattle.std.specs.Prelude.{⊤, IsUtf8}
use Rattle.std.specs.Str.{is_utf8}
use Rattle.std.specs.List.{list_all}
use Rattle.std.specs.Ordering.{match_ordering}
use Rattle.std.specs.Float.{binary64, float_is_finite}
use Rattle.fast_float.specs.Text.{Parts, scan, digits_of, nearest, with_sign}
use Rattle.json.specs.Json as json
use Rattle.json.specs.Token.{Token}
use Rattle.json.specs.Lex.{tokens}
use Rattle.serde_json.specs.Data as value
use Rattle.serde_json.specs.Data.{Num, unsigned, negative, float, Data, Items, no_items, item, Members, no_members, member, put}
use Rattle.serde_json.proofs.Nesting.{depth-read}
use Rattle.serde_json.specs.Read.{is_integer, float_of, number_from, number_of, of_json, of_items, of_members, read, max_depth}
use Rattle.mk_base.specs.declared.json.Json as tree
use Rattle.mk_base.specs.Trees.{in_range, is_in_range, nesting}
use Rattle.mk_base.proofs.Lists.{some_same}
use Rattle.mk_json.specs.Parsed as made
use Rattle.mk_json.specs.Parsed.{tree_of, parsed}
use Rattle.mk_json.proofs.LevelTests.{range-List, range-Object}
use Rattle.mk_json.proofs.Layers.{folded-Null, folded-Bool, folded-Whole, folded-Odd, folded-Text, folded-List, folded-Object}
use Rattle.mk_base.proofs.Counts.{pos_in_range}

-- ---- nesting

pub nesting-more : (t : tree.Json) (ts : List tree.Json) → nesting (tree.List (t ∷ ts)) ≡ suc (max (nesting t) (pred (nesting (tree.List ts))))
nesting-more t ts = folded-List _ _ (t ∷ ts) ∙ ap (λ n. suc (max (nesting t) (pred n))) (sym (folded-List _ _ ts))

pub nesting-more_members : (m : List ℕ × tree.Json) (ms : List (List ℕ × tree.Json)) → nesting (tree.Object (m ∷ ms)) ≡ suc (max (nesting m.1) (pred (nesting (tree.Object ms))))
nesting-more_members m ms = folded-Object _ _ (m ∷ ms) ∙ ap (λ n. suc (max (nesting m.1) (pred n))) (sym (folded-Object _ _ ms))

mutual
  pub nesting-tree_of : (d : Data) → nesting (tree_of d) ≡ value.depth d
  nesting-tree_of value.null = folded-Null _ _
  nesting-tree_of (value.boolean b) = folded-Bool _ _ b
  nesting-tree_of (value.number (unsigned n)) = folded-Whole _ _ (pos n)
  nesting-tree_of (value.number (negative z)) = folded-Whole _ _ z
  nesting-tree_of (value.number (float x)) = folded-Odd _ _
  nesting-tree_of (value.string s) = folded-Text _ _ s
  nesting-tree_of (value.array ds) = nesting-items_of ds
  nesting-tree_of (value.object ms) = nesting-members_of ms

  nesting-items_of : (ds : Items) → nesting (tree.List (made.items_of ds)) ≡ suc (value.items_depth ds)
  nesting-items_of no_items = folded-List _ _ []
  nesting-items_of (item d ds) = nesting-more (tree_of d) (made.items_of ds) ∙ ap₂ (λ m n. suc (max m (pred n))) (nesting-tree_of d) (nesting-items_of ds)

  nesting-members_of : (ms : Members) → nesting (tree.Object (made.members_of ms)) ≡ suc (value.members_depth ms)
  nesting-members_of no_members = folded-Object _ _ []
  nesting-members_of (member k d ms) = nesting-more_members (k, tree_of d) (made.members_of ms) ∙ ap₂ (λ m n. suc (max m (pred n))) (nesting-tree_of d) (nesting-members_of ms)

-- ---- whole numbers in range

-- what is there is in range
abbrev Fits : {A : Type 0} → (A → Bool) → Option A → Type 0
Fits p None = ⊤
Fits p (Some x) = p x ≡ true

Fits-map : {A B : Type 0} (p : A → Bool) (q : B → Bool) (f : A → B) → ((x : A) → p x ≡ true → q (f x) ≡ true) → (o : Option A) → Fits p o → Fits q (option_map f o)
Fits-map p q f k None h = tt
Fits-map p q f k (Some x) h = k x h

Fits-then : {A B : Type 0} (p : A → Bool) (q : B → Bool) (f : A → Option B) → ((x : A) → p x ≡ true → Fits q (f x)) → (o : Option A) → Fits p o → Fits q (option_and_then f o)
Fits-then p q f k None h = tt
Fits-then p q f k (Some x) h = k x h

abbrev number_fits : Num → Bool
number_fits n = is_in_range (made.tree_of_number n)

float_fits : (sign : Bool) (p : Parts) (b : Bool) → Fits number_fits (if b then Some (float (nearest binary64 sign p)) else None)
float_fits sign p true = folded-Odd _ _
float_fits sign p false = tt

chosen : (b : Bool) (n : Num) (rest : Option Num) → (b ≡ true → number_fits n ≡ true) → Fits number_fits rest → Fits number_fits (if b then Some n else rest)
chosen true n rest h k = h refl
chosen false n rest h k = k

negative_in_range : (n : ℕ) → 0 < n → n ≤ 2 ^ 63 → in_range (with_sign true n) ≡ true
negative_in_range zero h k = absurd (omega arith)
negative_in_range (suc n) h k = grind (arith, ints)

number_from_fits : (sign : Bool) (p : Parts) → Fits number_fits (number_from sign p)
number_from_fits false p =
    chosen (is_integer p && nat_lt (digits_of p) (2 ^ 64)) (unsigned (digits_of p)) (float_of false p) (λ e. folded-Whole _ _ (pos (digits_of p)) ∙ pos_in_range (digits_of p) (ltb-true _ _ (and_parts (is_integer p) _ e).1)) (float_fits false p (float_is_finite (nearest binary64 false p)))
number_from_fits true p =
    chosen (is_integer p && nat_lt 0 (digits_of p) && nat_le (digits_of p) (2 ^ 63)) (negative (with_sign true (digits_of p))) (float_of true p)
    (λ e. let q = and_parts (is_integer p && nat_lt 0 (digits_of p)) (nat_le (digits_of p) (2 ^ 63)) e in let r = and_parts (is_integer p) (nat_lt 0 (digits_of p)) q.0 in
    folded-Whole _ _ (with_sign true (digits_of p)) ∙ negative_in_range (digits_of p) (ltb-true _ _ r.1) (leb-true _ _ q.1))
    (float_fits true p (float_is_finite (nearest binary64 true p)))

either_fits : (b : Bool) (x y : Option Num) → Fits number_fits x → Fits number_fits y → Fits number_fits (if b then x else y)
either_fits true x y h k = h
either_fits false x y h k = k

number_of_fits : (s : List ℕ) → Fits number_fits (number_of s)
unfolding number_of
number_of_fits s = either_fits _ _ _ (number_from_fits true (scan (drop 1 s))) (number_from_fits false (scan s))

abbrev tree_fits : Data → Bool
tree_fits d = is_in_range (tree_of d)

abbrev items_fit : Items → Bool
items_fit ds = list_all is_in_range (made.items_of ds)

abbrev members_fit : Members → Bool
members_fit ms = list_all (λ (m : List ℕ × tree.Json). is_in_range m.1) (made.members_of ms)

put_at_fits : (o : Ordering) (k l : List ℕ) (d e : Data) (ms : Members) → tree_fits d ≡ true → members_fit (member l e ms) ≡ true → members_fit (put k d ms) ≡ true
    → members_fit (match_ordering o (member k d (member l e ms)) (member l d ms) (member l e (put k d ms))) ≡ true
put_at_fits Less k l d e ms s h more = and_from _ _ s h
put_at_fits Equal k l d e ms s h more = and_from _ _ s (and_parts _ _ h).1
put_at_fits Greater k l d e ms s h more = and_from _ _ (and_parts _ _ h).0 more

put_fits : (k : List ℕ) (d : Data) (ms : Members) → tree_fits d ≡ true → members_fit ms ≡ true → members_fit (put k d ms) ≡ true
put_fits k d no_members s h = and_from _ _ s refl
put_fits k d (member l e ms) s h = put_at_fits _ k l d e ms s h (put_fits k d ms s (and_parts _ _ h).1)

mutual
  of_json_fits : (j : json.Json) → Fits tree_fits (of_json j)
  of_json_fits json.null = folded-Null _ _
  of_json_fits (json.boolean b) = folded-Bool _ _ b
  of_json_fits (json.number s) = Fits-map number_fits tree_fits value.number (λ n h. h) (number_of s) (number_of_fits s)
  of_json_fits (json.string s) = folded-Text _ _ s
  of_json_fits (json.array js) = Fits-map items_fit tree_fits value.array (λ ds h. range-List (made.items_of ds) ∙ h) (of_items js) (of_items_fit js)
  of_json_fits (json.object ms) = Fits-map members_fit tree_fits value.object (λ ns h. range-Object (made.members_of ns) ∙ h) (of_members ms no_members) (of_members_fit ms no_members refl)

  of_items_fit : (js : json.Items) → Fits items_fit (of_items js)
  of_items_fit json.no_items = refl
  of_items_fit (json.item j js) =
      Fits-then tree_fits items_fit _ (λ d h. Fits-map items_fit items_fit (item d) (λ ds k. and_from _ _ h k) (of_items js) (of_items_fit js)) (of_json j) (of_json_fits j)

  of_members_fit : (ms : json.Members) (found : Members) → members_fit found ≡ true → Fits members_fit (of_members ms found)
  of_members_fit json.no_members found h = h
  of_members_fit (json.member k j ms) found h =
      Fits-then tree_fits members_fit _ (λ d s. of_members_fit ms (put k d found) (put_fits k d found s h)) (of_json j) (of_json_fits j)

abbrev anything : {A : Type 0} → A → Bool
anything x = true

any_fits : {A : Type 0} (o : Option A) → Fits anything o
any_fits None = tt
any_fits (Some x) = refl

pub read-in_range : (bytes : List ℕ) (d : Data) → read bytes ≡ Some d → is_in_range (tree_of d) ≡ true
read-in_range bytes d e =
    let o = option_and_then (λ (p : json.Json × List Token). json.if_last p.0 p.1) (json.value max_depth (tokens bytes)) in
    subst (Fits tree_fits) e (Fits-then anything tree_fits of_json (λ j _. of_json_fits j) o (any_fits o))

-- ---- what is parsed

pub parsed-in_range : (bytes : List ℕ) (t : tree.Json) → parsed bytes ≡ Some t → is_in_range t ≡ true
parsed-in_range bytes t e = of_text (is_utf8 bytes) e
  where
    of_read : (o : Option Data) → read bytes ≡ o → option_map tree_of o ≡ Some t → is_in_range t ≡ true
    of_read None is e = cc
    of_read (Some d) is e = subst (λ (u : tree.Json). is_in_range u ≡ true) (some_same e) (read-in_range bytes d is)

    of_text : (b : Bool) → (if b then option_map tree_of (read bytes) else None) ≡ Some t → is_in_range t ≡ true
    of_text true e = of_read (read bytes) refl e
    of_text false e = cc

pub parsed_is : (bytes : List ℕ) (d : Data) → IsUtf8 bytes → read bytes ≡ Some d → parsed bytes ≡ Some (tree_of d)
parsed_is bytes d text e = rw (is_utf8-from_IsUtf8 bytes text) (ap (option_map tree_of) e)

pub parsed_none : (bytes : List ℕ) → (IsUtf8 bytes → read bytes ≡ None) → parsed bytes ≡ None
parsed_none bytes h = elim (is_utf8 bytes) as (λ b. is_utf8 bytes ≡ b → (if b then option_map tree_of (read bytes) else None) ≡ None) [
  | true ↦ λ e. ap (option_map tree_of) (h (IsUtf8-from_is_utf8 bytes e))
  | false ↦ λ e. refl
] refl

-- the tree of what is read
abbrev pub IsRead : List ℕ → tree.Json → Type 0
IsRead bytes t = (d : Data) × (read bytes ≡ Some d) × (t ≡ tree_of d)

pub in_range-read : (bytes : List ℕ) (t : tree.Json) → IsRead bytes t → is_in_range t ≡ true
in_range-read bytes t w = ap is_in_range w.2 ∙ read-in_range bytes w.0 w.1

pub nesting-read : (bytes : List ℕ) (t : tree.Json) → IsRead bytes t → nesting t ≤ 127
nesting-read bytes t w = subst (λ (n : ℕ). n ≤ 127) (sym (ap nesting w.2 ∙ nesting-tree_of w.0)) (depth-read bytes w.0 w.1)

pub parsed-read : (bytes : List ℕ) (t : tree.Json) → IsUtf8 bytes → IsRead bytes t → parsed bytes ≡ Some t
parsed-read bytes t text w = parsed_is bytes w.0 text w.1 ∙ ap Some (sym w.2)
