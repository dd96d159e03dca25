-- For proofs alone. The trees of a line's fields: what they hold, and their texts.
use Rattle.std.proofs.Common.{◌≡◌, ℕ, suc, ◌^◌, ◌<◌, ◌≤◌, ℤ, pos, nat_abs, Bool, true, List, [], ◌∷◌, map, Some, None, refl, sym, ap, ◌∙◌, arith}
use Rattle.std.specs.Prelude.{option_and_then}
use Rattle.std.specs.List.{list_all}
use Rattle.std.specs.Str.{is_utf8}
use Rattle.std.specs.Fmt.{decimal, signed_decimal}
use Rattle.std.proofs.lemmas.Bool.{and_parts, and_from}
use Rattle.std.proofs.lemmas.Int.{ints}
use Rattle.mk_base.specs.declared.json.Json as tree
use Rattle.mk_base.specs.declared.json.Json.{Json}
use Rattle.mk_base.specs.declared.json.Json.TheVariants as v
use Rattle.mk_base.specs.Lists.{Each, all_there}
use Rattle.mk_base.specs.Texts.{quoted, list_text, text_of}
use Rattle.mk_base.specs.Trees.{in_range, is_in_range, nesting, deepest, whole_in, text_in, bool_in, items_in}
use Rattle.mk_json.specs.Parsed.{parsed}
use Rattle.mk_base.specs.Proper.{is_proper}
use Rattle.mk_json.proofs.Back.{parsed-text_of}
use Rattle.mk_json.proofs.LevelTests.{range-List, proper-List}
use Rattle.mk_json.proofs.OfOutlines.{range-Whole, proper-Bool, proper-Whole, proper-Text}
use Rattle.mk_json.proofs.Layers.{folded-Bool, folded-Whole, folded-Text, folded-List}
use Rattle.mk_base.proofs.Views.{items_in_list, text_in_text, whole_in_whole}

-- a tree that is read again from its text, and nests no deeper than this
pub record Field (depth : ℕ) (t : Json) : Type 0 where
  pub proper : is_proper t ≡ true
  pub ranges : is_in_range t ≡ true
  pub deep : nesting t ≤ depth

pub deeper : (d e : ℕ) (t : Json) → d ≤ e → Field d t → Field e t
deeper d e t le f = record { proper = f.proper; ranges = f.ranges; deep = (let h = f.deep in omega arith) }

pub text_field : (d : ℕ) (s : List ℕ) → is_utf8 s ≡ true → Field d (tree.Text s)
text_field d s h = record { proper = proper-Text s ∙ h; ranges = folded-Text _ _ s; deep = (let e : nesting (tree.Text s) ≡ 0 = folded-Text _ _ s in omega (arith, e)) }

pub whole_field : (d : ℕ) (n : ℤ) → in_range n ≡ true → Field d (tree.Whole n)
whole_field d n h = record { proper = proper-Whole n; ranges = range-Whole n ∙ h; deep = (let e : nesting (tree.Whole n) ≡ 0 = folded-Whole _ _ n in omega (arith, e)) }

pub bool_field : (d : ℕ) (b : Bool) → Field d (tree.Bool b)
bool_field d b = record { proper = proper-Bool b; ranges = folded-Bool _ _ b; deep = (let e : nesting (tree.Bool b) ≡ 0 = folded-Bool _ _ b in omega (arith, e)) }

all_proper : (d : ℕ) (ts : List Json) → Each (Field d) ts → list_all is_proper ts ≡ true
all_proper d [] h = refl
all_proper d (t ∷ ts) h = and_from (is_proper t) (list_all is_proper ts) h.0.proper (all_proper d ts h.1)

all_in_range : (d : ℕ) (ts : List Json) → Each (Field d) ts → list_all is_in_range ts ≡ true
all_in_range d [] h = refl
all_in_range d (t ∷ ts) h = and_from (is_in_range t) (list_all is_in_range ts) h.0.ranges (all_in_range d ts h.1)

no_deeper : (d : ℕ) (ts : List Json) → Each (Field d) ts → deepest (map nesting ts) ≤ d
no_deeper d [] h = omega arith
no_deeper d (t ∷ ts) h = let a = h.0.deep in let b = no_deeper d ts h.1 in omega (arith, a, b)

pub list_field : (d : ℕ) (ts : List Json) → Each (Field d) ts → Field (suc d) (tree.List ts)
list_field d ts h = record {
  proper = proper-List ts ∙ all_proper d ts h;
  ranges = range-List ts ∙ all_in_range d ts h;
  deep = (let e : nesting (tree.List ts) ≡ suc (deepest (map nesting ts)) = folded-List _ _ ts in let n = no_deeper d ts h in omega (arith, e, n));
}

-- ---- trees that are made, looked into

pub text_of_list : (ts : List Json) → text_in (tree.List ts) ≡ None
text_of_list ts = rw (v.outs-List ts) refl

pub bool_of : (b : Bool) → bool_in (tree.Bool b) ≡ Some b
bool_of b = rw (v.outs-Bool b) refl

-- the items that are read from the text of a list
pub read_items : (ts : List Json) → Each (Field 126) ts → option_and_then items_in (parsed (list_text (map text_of ts))) ≡ Some ts
read_items ts h =
    let f = list_field 126 ts h in
    ap (λ x. option_and_then items_in (parsed x)) (sym (folded-List _ _ ts)) ∙ ap (option_and_then items_in) (parsed-text_of (tree.List ts) f.proper f.ranges f.deep) ∙ items_in_list ts

-- ---- their texts

pub cons_same : {X : Type 0} {x y : X} {xs ys : List X} → x ≡ y → xs ≡ ys → x ∷ xs ≡ y ∷ ys
cons_same e f = λ i. e i ∷ f i

pub quoted_is : (s : List ℕ) → quoted s ≡ text_of (tree.Text s)
quoted_is s = sym (folded-Text _ _ s)

pub signed_is : (n : ℤ) → signed_decimal n ≡ text_of (tree.Whole n)
signed_is n = sym (folded-Whole _ _ n)

pub decimal_is : (n : ℕ) → decimal n ≡ text_of (tree.Whole (pos n))
decimal_is n = sym (folded-Whole _ _ (pos n))

pub list_is : (ts : List Json) (xs : List (List ℕ)) → xs ≡ map text_of ts → list_text xs ≡ text_of (tree.List ts)
list_is ts xs e = ap list_text e ∙ sym (folded-List _ _ ts)

-- whole numbers and texts, each as a tree
abbrev pub wholes : List ℤ → List Json
wholes = map (λ (n : ℤ). tree.Whole n)

abbrev pub naturals : List ℕ → List Json
naturals = map (λ (n : ℕ). tree.Whole (pos n))

abbrev pub texts : List (List ℕ) → List Json
texts = map (λ (s : List ℕ). tree.Text s)

pub signed_each : (ns : List ℤ) → map signed_decimal ns ≡ map text_of (wholes ns)
signed_each [] = refl
signed_each (n ∷ ns) = cons_same (signed_is n) (signed_each ns)

pub decimal_each : (ns : List ℕ) → map decimal ns ≡ map text_of (naturals ns)
decimal_each [] = refl
decimal_each (n ∷ ns) = cons_same (decimal_is n) (decimal_each ns)

pub quoted_each : (ss : List (List ℕ)) → map quoted ss ≡ map text_of (texts ss)
quoted_each [] = refl
quoted_each (s ∷ ss) = cons_same (quoted_is s) (quoted_each ss)

pub wholes_there : (ns : List ℤ) → all_there (map whole_in (wholes ns)) ≡ Some ns
wholes_there [] = refl
wholes_there (n ∷ ns) = rw (whole_in_whole n, wholes_there ns) refl

pub naturals_there : (ns : List ℕ) → all_there (map whole_in (naturals ns)) ≡ Some (map pos ns)
naturals_there [] = refl
naturals_there (n ∷ ns) = rw (whole_in_whole (pos n), naturals_there ns) refl

pub texts_there : (ss : List (List ℕ)) → all_there (map text_in (texts ss)) ≡ Some ss
texts_there [] = refl
texts_there (s ∷ ss) = rw (text_in_text s, texts_there ss) refl

pub same_naturals : (ns : List ℕ) → map nat_abs (map pos ns) ≡ ns
same_naturals [] = refl
same_naturals (n ∷ ns) = cons_same refl (same_naturals ns)

pub text_fields : (d : ℕ) (ss : List (List ℕ)) → list_all is_utf8 ss ≡ true → Each (Field d) (texts ss)
text_fields d [] h = tt
text_fields d (s ∷ ss) h = let p = and_parts (is_utf8 s) (list_all is_utf8 ss) h in (text_field d s p.0, text_fields d ss p.1)

pub natural_in_range : (n k : ℕ) → n ≤ k → k < 2 ^ 64 → in_range (pos n) ≡ true
natural_in_range n k low high = grind (arith, ints)

pub natural_field : (d n k : ℕ) → n ≤ k → k < 2 ^ 64 → Field d (tree.Whole (pos n))
natural_field d n k low high = whole_field d (pos n) (natural_in_range n k low high)
