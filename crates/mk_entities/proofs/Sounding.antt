-- What is added has a proper eid, and its related numbers rise and are of entities.
use Rattle.std.proofs.Common.{◌≡◌, ℕ, zero, suc, ◌+◌, ◌<◌, ◌≤◌, Bool, true, false, List, [], ◌∷◌, ◌++◌, map, filter, flat_map, length, Option, Some, None, refl, sym, ap, ◌∙◌, subst, arith, codes, if◌then◌else◌, unwrap_or, is_some, length-append, nat_lt, not, slice_get, take}
use Rattle.std.specs.Prelude.{IsTrue, option_and_then}
use Rattle.std.specs.List.{range_with_len}
use Rattle.std.specs.List.Sorted.{IsStrictlySortedBy}
use Rattle.std.specs.Ordering.{nat_cmp}
use Rattle.std.specs.List.{AllByRecursion}
use Rattle.std.specs.declared.cmp.Ordering.TheVariants.{Less}
use Rattle.std.proofs.lemmas.List.{length-map}
use Rattle.mk_base.specs.declared.SimNo.{SimNo}
use Rattle.mk_base.specs.declared.json.Json.{Json}
use Rattle.mk_base.specs.Lists.{Each}
use Rattle.mk_base.specs.Trees.{member, nesting, text_in}
use Rattle.mk_base.proofs.Lists.{none_some, some_same}
use Rattle.mk_base.specs.Names.{is_eid}
use Rattle.mk_base.specs.Verdicts.{fault_unless}
use Rattle.mk_meta.specs.declared.meta.Meta.{Meta}
use Rattle.mk_entities.specs.declared.described.Described.{Described}
use Rattle.mk_entities.specs.declared.entities.EntityInfo.{EntityInfo}
use Rattle.mk_entities.specs.declared.fault.CreateFault.TheVariants.{NoEid, TwiceEid, OfType, TooMany}
use Rattle.mk_entities.specs.Creation.{added, entity_fault, after_text, has_number, has_type}
use Rattle.mk_entities.specs.Descriptions.{below, children_in, described, family, if_eid, list_under}
use Rattle.mk_entities.specs.inner.Making.{fault_at, first_fault, named_from, number_in}
use Rattle.mk_entities.specs.Sound.{AreSound, IsSound}
use Rattle.mk_entities.proofs.Distinct.{none_at}
use Rattle.mk_base.specs.Limits.{most_entities}
use Rattle.mk_base.proofs.Items.{each_append, get_below, at_each}

-- ---- eids that are described

-- an eid, if there is one, is a proper one
abbrev pub IsNamed : Described → Type 0
IsNamed e = (text : List ℕ) → e.eid ≡ Some text → IsTrue (is_eid text)

eid_is : (o : Option (List ℕ)) (text : List ℕ) → option_and_then if_eid o ≡ Some text → IsTrue (is_eid text)
eid_is None text is = absurd (none_some is)
eid_is (Some t) text is = at (is_eid t) refl is
  where
    at : (b : Bool) → is_eid t ≡ b → (if b then Some t else None) ≡ Some text → IsTrue (is_eid text)
    at true proper same = subst (λ u. IsTrue (is_eid u)) (some_same same) proper
    at false improper same = absurd (none_some same)

described_named : (is_child : Bool) (tree : Json) → IsNamed (described is_child tree)
described_named is_child tree text is = at (is_some (list_under (codes "children") tree)) is
  where
    at : (b : Bool) → (if b then option_and_then if_eid (option_and_then text_in (member (codes "eid") tree)) else None) ≡ Some text → IsTrue (is_eid text)
    at true same = eid_is (option_and_then text_in (member (codes "eid") tree)) text same
    at false same = absurd (none_some same)

each_flat : {X Y : Type 0} (P : Y → Type 0) (f : X → List Y) (xs : List X) → ((x : X) → Each P (f x)) → Each P (flat_map f xs)
each_flat P f [] h = tt
each_flat P f (x ∷ xs) h = each_append P (f x) (flat_map f xs) (h x) (each_flat P f xs h)

below_named : (levels : ℕ) (tree : Json) → Each IsNamed (below levels tree)
below_named zero tree = tt
below_named (suc levels) tree = each_flat IsNamed (λ child. described true child ∷ below levels child) (children_in tree) (λ child. (described_named true child, below_named levels child))

pub families_named : (trees : List Json) → Each IsNamed (flat_map (family false) trees)
families_named trees = each_flat IsNamed (family false) trees (λ tree. (described_named false tree, below_named (nesting tree) tree))

-- ---- eids that pass their tests

eid_there : (number : List ℕ → Option ℕ) (count : ℕ) (model : List ℕ) (meta : Meta) (n : ℕ) (e : Described) → entity_fault number count model meta n e ≡ None → IsNamed e → IsTrue (is_eid (unwrap_or e.eid []))
eid_there number count model meta n e none named = at e.eid none named
  where
    at : (eid : Option (List ℕ)) → after_text (NoEid n) eid (λ t. fault_unless (TwiceEid t) (not (is_some (number t))) (fault_unless (OfType t) (has_type model meta e) (fault_unless (TooMany (most_entities + 1)) (nat_lt count most_entities) None))) ≡ None
        → ((text : List ℕ) → eid ≡ Some text → IsTrue (is_eid text)) → IsTrue (is_eid (unwrap_or eid []))
    at None none named = cc
    at (Some t) none named = named t refl

each_at : {X : Type 0} (P : X → Type 0) (xs : List X) → ((n : ℕ) (x : X) → slice_get xs n ≡ Some x → P x) → Each P xs
each_at P [] h = tt
each_at P (x ∷ xs) h = (h zero x refl, each_at P xs (λ n y is. h (suc n) y is))

pub eids_there : (names : List (List ℕ × ℕ)) (count : ℕ) (model : List ℕ) (meta : Meta) (es : List Described) → first_fault names count model meta es ≡ None → Each IsNamed es → Each (λ e. IsTrue (is_eid (unwrap_or e.eid []))) es
eids_there names count model meta es passed named = each_at (λ e. IsTrue (is_eid (unwrap_or e.eid []))) es (λ n e is.
    let number = number_in (names ++ named_from count (take n es)) in
    let below = get_below es n e is in
    let none = none_at (fault_at names count model meta es) 0 (length es) n passed (omega arith) (omega arith) in
    eid_there number (count + n) model meta n e (ap (option_and_then (entity_fault number (count + n) model meta n)) (sym is) ∙ none) (at_each IsNamed es n e named is))

-- ---- related numbers

module _ (p : ℕ → Bool) where
  above : (a b n : ℕ) → a < b → AllByRecursion (λ y. nat_cmp a y ≡ Less) (filter p (range_with_len b n))
  above a b zero h = tt
  above a b (suc n) h = at (p b) (above a (b + 1) n (omega arith))
    where
      less : (x y : ℕ) → x < y → nat_cmp x y ≡ Less
      less x y h = grind arith

      at : (c : Bool) → AllByRecursion (λ y. nat_cmp a y ≡ Less) (filter p (range_with_len (b + 1) n)) → AllByRecursion (λ y. nat_cmp a y ≡ Less) (if c then b ∷ filter p (range_with_len (b + 1) n) else filter p (range_with_len (b + 1) n))
      at true more = (less a b h, more)
      at false more = more

  rises : (a n : ℕ) → IsStrictlySortedBy nat_cmp (filter p (range_with_len a n))
  unfolding IsStrictlySortedBy
  rises a zero = tt
  rises a (suc n) = at (p a) (above a (a + 1) n (omega arith)) (rises (a + 1) n)
    where
      at : (c : Bool) → AllByRecursion (λ y. nat_cmp a y ≡ Less) (filter p (range_with_len (a + 1) n)) → IsStrictlySortedBy nat_cmp (filter p (range_with_len (a + 1) n)) → IsStrictlySortedBy nat_cmp (if c then a ∷ filter p (range_with_len (a + 1) n) else filter p (range_with_len (a + 1) n))
      at true first more = (first, more)
      at false first more = more

  stay_below : (a n most : ℕ) → a + n ≤ most → Each (λ i. i < most) (filter p (range_with_len a n))
  stay_below a zero most h = tt
  stay_below a (suc n) most h = at (p a) (stay_below (a + 1) n most (omega arith))
    where
      at : (c : Bool) → Each (λ i. i < most) (filter p (range_with_len (a + 1) n)) → Each (λ i. i < most) (if c then a ∷ filter p (range_with_len (a + 1) n) else filter p (range_with_len (a + 1) n))
      at true more = (omega arith, more)
      at false more = more

-- ---- all entities after the reply's are added

below_too : (m n : ℕ) → m ≤ n → (xs : List ℕ) → Each (λ i. i < m) xs → Each (λ i. i < n) xs
below_too m n le [] h = tt
below_too m n le (x ∷ xs) h = (let first = h.0 in omega arith, below_too m n le xs h.1)

sound_too : (m n : ℕ) → m ≤ n → (es : List EntityInfo) → Each (IsSound m) es → Each (IsSound n) es
sound_too m n le [] h = tt
sound_too m n le (e ∷ es) h = (record { eid = h.0.eid; rising = h.0.rising; below = below_too m n le e.related h.0.below }, sound_too m n le es h.1)

module _ (number : List ℕ → Option ℕ) (count : ℕ) (sim : SimNo) (group : ℕ) where
  made_sound : (es : List Described) → Each (λ e. IsTrue (is_eid (unwrap_or e.eid []))) es → Each (IsSound count) (map (added number count sim group) es)
  made_sound [] h = tt
  made_sound (e ∷ es) h = (
    record {
      eid = h.0;
      rising = rises (has_number number (unwrap_or e.rel [] ++ e.children)) 0 count;
      below = stay_below (has_number number (unwrap_or e.rel [] ++ e.children)) 0 count count (omega arith);
    },
    made_sound es h.1,
  )

pub still_sound : (old : List EntityInfo) (number : List ℕ → Option ℕ) (sim : SimNo) (group : ℕ) (es : List Described) → AreSound old → Each (λ e. IsTrue (is_eid (unwrap_or e.eid []))) es
    → AreSound (old ++ map (added number (length old + length es) sim group) es)
still_sound old number sim group es sound named =
    let make = added number (length old + length es) sim group in
    let long : length (old ++ map make es) ≡ length old + length es = length-append old (map make es) ∙ ap (λ n. length old + n) (length-map es make) in
    subst (λ n. Each (IsSound n) (old ++ map make es)) (sym long)
    (each_append (IsSound (length old + length es)) old (map make es) (sound_too (length old) (length old + length es) (omega arith) old sound) (made_sound number (length old + length es) sim group es named))
