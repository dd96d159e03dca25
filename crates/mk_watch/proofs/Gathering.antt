-- The values of inputs and the rows of items, one more at a time.
use Rattle.std.proofs.Common.{◌≡◌, ℕ, ℤ, ◌+◌, ◌<◌, ◌≤◌, List, [], ◌∷◌, ◌++◌, length, map, flat_map, fold, take, get_or, Option, Some, None, refl, sym, ap, ◌∙◌, arith, length-append, append_assoc}
use Rattle.std.specs.List.{cons_option}
use Rattle.std.proofs.lemmas.List.{take_more, take_all}
use Rattle.mk_base.proofs.Lists.{append_nil, filter_map_append, flat_map_append, map_append}
use Rattle.mk_plan.specs.declared.Input.{Input}
use Rattle.mk_plan.specs.declared.Item.{Item}
use Rattle.mk_plan.specs.declared.Item.TheVariants.{Step, GetData, Answer, Refuse}
use Rattle.mk_plan.specs.Journals.{bare}
use Rattle.mk_watch_read.specs.declared.rule.Fold.{Fold}
use Rattle.mk_watch.specs.declared.rows.Row.{Row}
use Rattle.mk_watch.specs.Values.{with_number, number_at, numbers_at, folded, row_of, rows_of}
use Rattle.mk_watch.specs.Tables.{row_text}
use Rattle.mk_watch.specs.inner.Folding.{add_number, after_input}
use Rattle.mk_base.proofs.Items.{fold_push}

-- ---- values

module _ (f : Fold) (eid attr : List ℕ) where
  -- the value after the first inputs
  abbrev pub value_after : List Input → Option ℤ
  value_after inputs = fold (after_input f eid attr) None inputs

  one_number : (v : Option ℤ) (o : Option ℤ) (ns : List ℤ) → fold (with_number f) (add_number f v o) ns ≡ fold (with_number f) v (cons_option o ns)
  one_number v None ns = refl
  one_number v (Some n) ns = refl

  value_is : (inputs : List Input) (v : Option ℤ) → fold (after_input f eid attr) v inputs ≡ fold (with_number f) v (numbers_at eid attr inputs)
  value_is [] v = refl
  value_is (i ∷ inputs) v = value_is inputs (after_input f eid attr v i) ∙ one_number v (number_at eid attr i) (numbers_at eid attr inputs)

  pub value_all : (inputs : List Input) (k : ℕ) (value : Option ℤ) → length inputs ≤ k → value ≡ value_after (take k inputs) → value ≡ folded f (numbers_at eid attr inputs)
  value_all inputs k value end is = is ∙ ap value_after (take_all k inputs end) ∙ value_is inputs None

-- ---- items that are seen through references

-- ---- rows

module _ (f : Fold) (eid attr : List ℕ) where
  one_row : (item : Item) → rows_of f eid attr (item ∷ []) ≡ cons_option (row_of f eid attr item) []
  one_row item = refl

  more_rows : (xs : List Item) (k : ℕ) (x : Item) → k < length xs → x ≡ get_or xs k x → rows_of f eid attr (take (k + 1) xs) ≡ rows_of f eid attr (take k xs) ++ cons_option (row_of f eid attr x) []
  more_rows xs k x low is =
      ap (rows_of f eid attr) (take_more xs k x low ∙ ap (λ y. take k xs ++ y ∷ []) (sym is))
      ∙ filter_map_append (row_of f eid attr) (take k xs) (x ∷ [])

  -- what stands when the first k items were gone through
  pub record IsSoFar (xs : List Item) (k : ℕ) (before out : List ℕ) (count : ℕ) (total : Option ℤ) : Type 0 where
    pub text : out ≡ before ++ flat_map row_text (rows_of f eid attr (take k xs))
    pub number : count ≡ length (rows_of f eid attr (take k xs))
    pub value : total ≡ folded f (map (λ r. r.value) (rows_of f eid attr (take k xs)))
    pub small : count ≤ k

  module _ (xs : List Item) (k : ℕ) (before out : List ℕ) (count : ℕ) (total : Option ℤ) (x : Item) (low : k < length xs) (is : x ≡ get_or xs k x) (so : IsSoFar xs k before out count total) where
    pub rows_same : row_of f eid attr x ≡ None → IsSoFar xs (k + 1) before out count total
    rows_same none =
        let R = rows_of f eid attr (take k xs) in
        let same : R ≡ rows_of f eid attr (take (k + 1) xs) = sym (more_rows xs k x low is ∙ ap (λ (o : Option Row). R ++ cons_option o []) none ∙ append_nil R) in record {
          text = so.text ∙ ap (λ (l : List Row). before ++ flat_map row_text l) same;
          number = so.number ∙ ap length same;
          value = so.value ∙ ap (λ (l : List Row). folded f (map (λ r. r.value) l)) same;
          small = let s = so.small in omega (arith, s);
        }

    pub rows_more : (r : Row) (new : List ℕ) → row_of f eid attr x ≡ Some r → new ≡ out ++ row_text r → IsSoFar xs (k + 1) before new (count + 1) (with_number f total r.value)
    rows_more r new some text =
        let R = rows_of f eid attr (take k xs) in
        let more : rows_of f eid attr (take (k + 1) xs) ≡ R ++ r ∷ [] = more_rows xs k x low is ∙ ap (λ (o : Option Row). R ++ cons_option o []) some in record {
          text = text ∙ ap (λ (l : List ℕ). l ++ row_text r) so.text ∙ append_assoc before (flat_map row_text R) (row_text r)
              ∙ ap (λ (l : List ℕ). before ++ l) (sym (ap (flat_map row_text) more ∙ flat_map_append row_text R (r ∷ []) ∙ ap (λ (l : List ℕ). flat_map row_text R ++ l) (append_nil (row_text r))));
          number = ap (λ n. n + 1) so.number ∙ sym (ap length more ∙ length-append R (r ∷ []));
          value = ap (λ v. with_number f v r.value) so.value ∙ sym (fold_push (with_number f) None (map (λ (q : Row). q.value) R) r.value)
              ∙ sym (ap (λ (l : List Row). folded f (map (λ q. q.value) l)) more ∙ ap (folded f) (map_append (λ (q : Row). q.value) R (r ∷ [])));
          small = let s = so.small in omega (arith, s);
        }

  -- the same by other names
  pub rows_named : (xs : List Item) (k : ℕ) (before out new : List ℕ) (count number : ℕ) (total value : Option ℤ) → new ≡ out → number ≡ count → value ≡ total → IsSoFar xs k before out count total → IsSoFar xs k before new number value
  rows_named xs k before out new count number total value a b c so = record {
    text = a ∙ so.text;
    number = b ∙ so.number;
    value = c ∙ so.value;
    small = let s = so.small in omega (arith, s, b);
  }

-- ---- sequential execution says the same

same_row : (f : Fold) (eid attr : List ℕ) (item : Item) → row_of f eid attr (bare item) ≡ row_of f eid attr item
same_row f eid attr (Step at inputs advance) = refl
same_row f eid attr (GetData wants) = refl
same_row f eid attr (Answer id content) = refl
same_row f eid attr (Refuse id reason) = refl

pub same_rows : (f : Fold) (eid attr : List ℕ) (items : List Item) → rows_of f eid attr (map bare items) ≡ rows_of f eid attr items
same_rows f eid attr [] = refl
same_rows f eid attr (item ∷ items) = ap (λ (o : Option Row). cons_option o (rows_of f eid attr (map bare items))) (same_row f eid attr item) ∙ ap (cons_option (row_of f eid attr item)) (same_rows f eid attr items)
