-- For proofs alone. A tree is known by what is read off it, and what a sound tree holds is sound.
use Rattle.std.proofs.Common.{◌≡◌, ℕ, ◌≤◌, ℤ, true, List, [], ◌∷◌, map, Option, Some, None, option_and_then, option_map, refl, sym, ap, ◌∙◌, subst, arith, suc}
use Rattle.std.specs.List.{list_all}
use Rattle.std.specs.Str.{is_utf8}
use Rattle.std.proofs.lemmas.Bool.{and_parts}
use Rattle.mk_base.specs.declared.json.Json as tree
use Rattle.mk_base.specs.declared.json.Json.{Json}
use Rattle.mk_base.specs.declared.json.Json.TheVariants as v
use Rattle.mk_base.specs.Lists.{Each, all_there}
use Rattle.mk_base.specs.Trees.{whole_in, text_in, items_in, is_in_range, nesting, deepest}
use Rattle.mk_base.proofs.Lists.{some_same, none_some}
use Rattle.mk_base.proofs.Levels.{nesting_items}
use Rattle.mk_json.specs.Parsed.{parsed}
use Rattle.mk_base.specs.Proper.{is_proper}
use Rattle.mk_json.proofs.LevelTests.{range-List, proper-List}
use Rattle.mk_json.proofs.OfOutlines.{proper-Text}
use Rattle.mk_json.proofs.Layers as layers
use Rattle.mk_json.proofs.Layers.{Held, Steps, by_layers}
use Rattle.mk_record_laws.specs.Sound.{IsSoundTree}
use Rattle.mk_record_laws.proofs.Sound.{sound_tree}

-- what is read off a tree is the tree
record IsKnown (t : Json) : Type 0 where
  text : (s : List ℕ) → text_in t ≡ Some s → t ≡ tree.Text s
  whole : (n : ℤ) → whole_in t ≡ Some n → t ≡ tree.Whole n
  items : (ts : List Json) → items_in t ≡ Some ts → t ≡ tree.List ts

-- nothing of these is read
record IsOther (t : Json) : Type 0 where
  text : text_in t ≡ None
  whole : whole_in t ≡ None
  items : items_in t ≡ None

other_known : (t : Json) → IsOther t → IsKnown t
other_known t o = record { text = λ s e. absurd (none_some (sym o.text ∙ e)); whole = λ n e. absurd (none_some (sym o.whole ∙ e)); items = λ ts e. absurd (none_some (sym o.items ∙ e)) }

known_each : Steps IsKnown
known_each = record {
  null = other_known tree.Null (record { text = rw v.outs-Null refl; whole = rw v.outs-Null refl; items = rw v.outs-Null refl });
  bool = λ b. other_known (tree.Bool b) (record { text = rw (v.outs-Bool b) refl; whole = rw (v.outs-Bool b) refl; items = rw (v.outs-Bool b) refl });
  whole = λ n. record {
    text = λ s e. let none : text_in (tree.Whole n) ≡ None = rw (v.outs-Whole n) refl in absurd (none_some (sym none ∙ e));
    whole = λ m e. let here : whole_in (tree.Whole n) ≡ Some n = rw (v.outs-Whole n) refl in ap tree.Whole (some_same (sym here ∙ e));
    items = λ ts e. let none : items_in (tree.Whole n) ≡ None = rw (v.outs-Whole n) refl in absurd (none_some (sym none ∙ e));
  };
  odd = other_known tree.Odd (record { text = rw v.outs-Odd refl; whole = rw v.outs-Odd refl; items = rw v.outs-Odd refl });
  text = λ s. record {
    text = λ r e. let here : text_in (tree.Text s) ≡ Some s = rw (v.outs-Text s) refl in ap tree.Text (some_same (sym here ∙ e));
    whole = λ m e. let none : whole_in (tree.Text s) ≡ None = rw (v.outs-Text s) refl in absurd (none_some (sym none ∙ e));
    items = λ ts e. let none : items_in (tree.Text s) ≡ None = rw (v.outs-Text s) refl in absurd (none_some (sym none ∙ e));
  };
  list = λ hs. record {
    text = λ r e. let none : text_in (tree.List (layers.trees hs)) ≡ None = rw (v.outs-List (layers.trees hs)) refl in absurd (none_some (sym none ∙ e));
    whole = λ m e. let none : whole_in (tree.List (layers.trees hs)) ≡ None = rw (v.outs-List (layers.trees hs)) refl in absurd (none_some (sym none ∙ e));
    items = λ ts e. let here : items_in (tree.List (layers.trees hs)) ≡ Some (layers.trees hs) = rw (v.outs-List (layers.trees hs)) refl in ap tree.List (some_same (sym here ∙ e));
  };
  object = λ hs. other_known (tree.Object (layers.members hs)) (record { text = rw (v.outs-Object (layers.members hs)) refl; whole = rw (v.outs-Object (layers.members hs)) refl; items = rw (v.outs-Object (layers.members hs)) refl });
}

pub text_is : (t : Json) (s : List ℕ) → text_in t ≡ Some s → t ≡ tree.Text s
text_is t s e = (by_layers IsKnown known_each t).text s e

pub whole_is : (t : Json) (n : ℤ) → whole_in t ≡ Some n → t ≡ tree.Whole n
whole_is t n e = (by_layers IsKnown known_each t).whole n e

pub items_are : (t : Json) (ts : List Json) → items_in t ≡ Some ts → t ≡ tree.List ts
items_are t ts e = (by_layers IsKnown known_each t).items ts e

-- ---- sound fields

-- a field of a line: proper, in range, and nested so that a list around it may stand in a line
pub record IsSoundField (t : Json) : Type 0 where
  pub proper : is_proper t ≡ true
  pub in_range : is_in_range t ≡ true
  pub nests : nesting t ≤ 126

each_nests : (ts : List Json) → deepest (map nesting ts) ≤ 126 → Each (λ t. nesting t ≤ 126) ts
each_nests [] h = tt
each_nests (t ∷ ts) h = (omega (arith, h), each_nests ts (omega (arith, h)))

all_sound : (ts : List Json) → list_all is_proper ts ≡ true → list_all is_in_range ts ≡ true → Each (λ t. nesting t ≤ 126) ts → Each IsSoundField ts
all_sound [] p r n = tt
all_sound (t ∷ ts) p r n =
    let a = and_parts (is_proper t) (list_all is_proper ts) p in
    let b = and_parts (is_in_range t) (list_all is_in_range ts) r in
    (record { proper = a.0; in_range = b.0; nests = n.0 }, all_sound ts a.1 b.1 n.1)

items_sound : (t : Json) (ts : List Json) → items_in t ≡ Some ts → IsSoundTree t → Each IsSoundField ts
items_sound t ts e h =
    let is : t ≡ tree.List ts = items_are t ts e in
    let deep : suc (deepest (map nesting ts)) ≤ 127 = subst (λ (n : ℕ). n ≤ 127) (ap nesting is ∙ nesting_items ts) h.nests in
    all_sound ts (sym (proper-List ts) ∙ sym (ap is_proper is) ∙ h.proper) (sym (range-List ts) ∙ sym (ap is_in_range is) ∙ h.in_range) (each_nests ts (omega (arith, deep)))

items_at : (text : List ℕ) (o : Option Json) (ts : List Json) → parsed text ≡ o → option_and_then items_in o ≡ Some ts → Each IsSoundField ts
items_at text None ts is e = absurd (none_some e)
items_at text (Some t) ts is e = items_sound t ts e (sound_tree text t is)

-- the items of a list that a text is are sound
pub read_sound : (text : List ℕ) (ts : List Json) → option_and_then items_in (parsed text) ≡ Some ts → Each IsSoundField ts
read_sound text ts e = items_at text (parsed text) ts refl e

-- a text in a proper tree is UTF-8
pub text_utf8 : (t : Json) (s : List ℕ) → text_in t ≡ Some s → is_proper t ≡ true → is_utf8 s ≡ true
text_utf8 t s e p = sym (proper-Text s) ∙ sym (ap is_proper (text_is t s e)) ∙ p

texts_at : (ts : List Json) (ss : List (List ℕ)) → list_all is_proper ts ≡ true → all_there (map text_in ts) ≡ Some ss → list_all is_utf8 ss ≡ true
texts_at [] ss p e = subst (λ (l : List (List ℕ)). list_all is_utf8 l ≡ true) (some_same e) refl
texts_at (t ∷ ts) ss p e =
    let a = and_parts (is_proper t) (list_all is_proper ts) p in
    by (text_in t) (all_there (map text_in ts)) refl a.0 (λ rest k. texts_at ts rest a.1 k) e
  where
    by : (o : Option (List ℕ)) (q : Option (List (List ℕ))) → text_in t ≡ o → is_proper t ≡ true → ((rest : List (List ℕ)) → q ≡ Some rest → list_all is_utf8 rest ≡ true) → option_and_then (λ y. option_map (λ ys. y ∷ ys) q) o ≡ Some ss → list_all is_utf8 ss ≡ true
    by None q is p r e = absurd (none_some e)
    by (Some s) None is p r e = absurd (none_some e)
    by (Some s) (Some rest) is p r e = subst (λ (l : List (List ℕ)). list_all is_utf8 l ≡ true) (some_same e) (rw (text_utf8 t s is p, r rest refl) refl)

-- and so is each text of a list
pub texts_utf8 : (t : Json) (ss : List (List ℕ)) → option_and_then (λ (js : List Json). all_there (map text_in js)) (items_in t) ≡ Some ss → is_proper t ≡ true → list_all is_utf8 ss ≡ true
texts_utf8 t ss e p = by (items_in t) refl e
  where
    by : (o : Option (List Json)) → items_in t ≡ o → option_and_then (λ (js : List Json). all_there (map text_in js)) o ≡ Some ss → list_all is_utf8 ss ≡ true
    by None is e = absurd (none_some e)
    by (Some ts) is e = texts_at ts ss (sym (proper-List ts) ∙ sym (ap is_proper (items_are t ts is)) ∙ p) e
