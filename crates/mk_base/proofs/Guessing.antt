-- Where names rise, an entry that has a name is the one that has it.
use Rattle.std.proofs.Common.{◌≡◌, ℕ, zero, suc, Bool, true, false, List, [], ◌∷◌, nat_eq, true≢false, Some, None, slice_get, refl, sym, ap, ◌∙◌, subst, if◌then◌else◌}
use Rattle.std.specs.Cmp.Lexicographic.{slice_cmp}
use Rattle.std.specs.List.{AllByRecursion}
use Rattle.std.specs.List.Sorted.{IsStrictlySortedBy}
use Rattle.std.specs.Map.{keys_of}
use Rattle.std.specs.Ordering.{nat_cmp, is_eq}
use Rattle.std.specs.declared.cmp.Ordering.TheVariants.{Less}
use Rattle.std.proofs.lemmas.Bool.{eqb-true}
use Rattle.std.proofs.lemmas.Map.Text.{is_eq-slice_cmp}
use Rattle.mk_base.specs.Lists.{same_text, value_under}
use Rattle.mk_base.specs.inner.Lists.{value_if_named}
use Rattle.mk_base.proofs.Lists.{none_some, some_same}
use Rattle.mk_base.proofs.Searching.{value_by}
use Rattle.mk_base.proofs.Bools.{both_hold}
use Rattle.mk_base.proofs.Items.{same_text_self}

pub text_is : (x y : List ℕ) → same_text x y ≡ true → x ≡ y
text_is [] [] h = refl
text_is [] (b ∷ y) h = absurd (true≢false (sym h))
text_is (a ∷ x) [] h = absurd (true≢false (sym h))
text_is (a ∷ x) (b ∷ y) h = let t = both_hold (nat_eq a b) (same_text x y) h in λ i. eqb-true a b t.0 i ∷ text_is x y t.1 i

module _ {V : Type 0} (k : List ℕ) (v : V) where
  has_name : (e : List ℕ × V) → value_if_named k (Some e) ≡ Some v → (k ≡ e.0) × (e.1 ≡ v)
  has_name e is = by (same_text k e.0) refl is
    where
      by : (b : Bool) → same_text k e.0 ≡ b → (if b then Some e.1 else None) ≡ Some v → (k ≡ e.0) × (e.1 ≡ v)
      by true same is = (text_is k e.0 same, some_same is)
      by false other is = absurd (none_some is)

  holds_of_name : (Q : List ℕ → Type 0) (es : List (List ℕ × V)) (i : ℕ) → AllByRecursion Q (keys_of es) → value_if_named k (slice_get es i) ≡ Some v → Q k
  holds_of_name Q [] i all is = absurd (none_some is)
  holds_of_name Q (e ∷ es) zero all is = subst Q (sym (has_name e is).0) all.0
  holds_of_name Q (e ∷ es) (suc i) all is = holds_of_name Q es i all.1 is

  pub guessed : (es : List (List ℕ × V)) (i : ℕ) → IsStrictlySortedBy (slice_cmp nat_cmp) (keys_of es) → value_if_named k (slice_get es i) ≡ Some v → Some v ≡ value_under k es
  unfolding IsStrictlySortedBy
  guessed [] i sorted is = absurd (none_some is)
  guessed (e ∷ es) zero sorted is =
      let t = has_name e is in
      ap Some (sym t.1) ∙ sym (ap (λ b. value_by k b e es) (ap (λ n. same_text n k) (sym t.0) ∙ same_text_self k))
  guessed (e ∷ es) (suc i) sorted is =
      guessed es i sorted.1 is
      ∙ sym (ap (λ b. value_by k b e es) (sym (is_eq-slice_cmp e.0 k) ∙ ap is_eq (holds_of_name (λ x. slice_cmp nat_cmp e.0 x ≡ Less) es i sorted.0 is)))
