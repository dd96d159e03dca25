-- What is wanted of a simulator: in order, each once, and found by a search.
use Rattle.std.proofs.Common.{◌≡◌, ℕ, zero, suc, ◌<◌, ◌≤◌, Bool, true, false, ◌&&◌, List, [], ◌∷◌, ◌++◌, length, flat_map, get_or, slice_get, Some, refl, sym, ap, ◌∙◌, subst, ◌⊎◌, inl, inr, ◌+◌, arith, ◌==◌, if◌then◌else◌}
use Rattle.std.specs.List.{AllByRecursion, HoldsAt}
use Rattle.std.specs.List.Sorted.{IsStrictlySortedBy, IsPartitionPoint, IsNonDecreasingBy}
use Rattle.std.specs.Ordering.{ordering_index, ordering_reverse, is_lt}
use Rattle.std.specs.declared.cmp.Ordering.{Ordering}
use Rattle.std.specs.declared.cmp.Ordering.TheVariants.{Less, Equal, Greater}
use Rattle.std.proofs.lemmas.List.Sorted.{searchable_from_sorted}
use Rattle.mk_base.specs.Lists.{IsIn, same_text}
use Rattle.mk_base.proofs.Lists.{in_at, get_is, some_passes, append_nil}
use Rattle.mk_plan.specs.declared.Plan.{Plan}
use Rattle.mk_plan.specs.declared.Conn.{Conn}
use Rattle.mk_plan.specs.declared.Want.{Want}
use Rattle.mk_plan.specs.Plans.{owner, eid_of}
use Rattle.mk_plan.specs.Turns.{wanted, want_order}
use Rattle.mk_plan.specs.Asks.{gives_attr}
use Rattle.mk_plan_judge.proofs.Putting.{names_total}
use Rattle.mk_plan_judge.proofs.Puts.{all_has}
use Rattle.mk_plan_judge.proofs.Taken.{same_names, taken_is_wanted}
use Rattle.std.proofs.lemmas.Bool.{eqb-true}
use Rattle.mk_base.proofs.Items.{get_default, same_text_self}
use Rattle.mk_base.proofs.Bools.{both_hold}
use Rattle.mk_base.proofs.Guessing.{text_is}

-- ---- equal names

not_itself : (w : Want) → want_order w w ≡ Less → ⊥
not_itself w h = let k : Less ≡ Greater = sym h ∙ names_total.antisymm w w ∙ ap ordering_reverse h in cc

equal_itself : (w : Want) → want_order w w ≡ Equal
equal_itself w = go (want_order w w) refl
  where
    go : (o : Ordering) → want_order w w ≡ o → o ≡ Equal
    go Less e = absurd (not_itself w e)
    go Equal e = refl
    go Greater e = let k : Greater ≡ Less = sym e ∙ names_total.antisymm w w ∙ ap ordering_reverse e in cc

-- ---- the one want of those names

-- the want is of these names
abbrev pub is_want : Want → Want → Bool
is_want v w = same_text w.eid v.eid && same_text w.attr v.attr

is_want_same : (v w : Want) → is_want v w ≡ true → w ≡ v
is_want_same v w h = let t = both_hold (same_text w.eid v.eid) (same_text w.attr v.attr) h in λ i. record { eid = text_is w.eid v.eid t.0 i; attr = text_is w.attr v.attr t.1 i }

is_want_itself : (v : Want) → is_want v v ≡ true
is_want_itself v = rw (same_text_self v.eid, same_text_self v.attr) refl

module _ {Y : Type 0} (f : Want → List Y) (v : Want) where
  abbrev pub of_want : Want → List Y
  of_want w = if is_want v w then f w else []

  none_of : (ws : List Want) → ((w : Want) → IsIn w ws → is_want v w ≡ false) → flat_map of_want ws ≡ []
  none_of [] none = refl
  none_of (w ∷ ws) none = ap (λ (b : Bool). (if b then f w else []) ++ flat_map of_want ws) (none w (inl refl)) ∙ none_of ws (λ u m. none u (inr m))

  not_want : (w : Want) → (w ≡ v → ⊥) → is_want v w ≡ false
  not_want w n = elim (is_want v w) as (λ b. is_want v w ≡ b → b ≡ false) [ true ↦ λ e. absurd (n (is_want_same v w e)) | false ↦ λ e. refl ] refl

  pub one_of : (ws : List Want) → IsStrictlySortedBy want_order ws → IsIn v ws → flat_map of_want ws ≡ f v
  unfolding IsStrictlySortedBy
  one_of [] sorted m = absurd m
  one_of (w ∷ ws) sorted (inl e) = ap (λ (l : List Y). of_want w ++ l) (none_of ws (λ u m. not_want u (λ q. not_itself w (subst (λ (x : Want). want_order w x ≡ Less) (q ∙ e) (all_has (λ u. want_order w u ≡ Less) ws u sorted.0 m)))))
      ∙ ap (λ (u : Want). (if is_want v u then f u else []) ++ []) (sym e) ∙ ap (λ (b : Bool). (if b then f v else []) ++ []) (is_want_itself v) ∙ append_nil (f v)
  one_of (w ∷ ws) sorted (inr m) = ap (λ (b : Bool). (if b then f w else []) ++ flat_map of_want ws) (not_want w (λ q. not_itself w (subst (λ (x : Want). want_order w x ≡ Less) (sym q) (all_has (λ u. want_order w u ≡ Less) ws v sorted.0 m)))) ∙ one_of ws sorted.1 m

-- what some connection takes is wanted of its simulator
pub given_is_wanted : (P : Plan) (e : ℕ) (attr : List ℕ) → gives_attr P e attr ≡ true → IsIn (let w : Want = record { eid = eid_of P e; attr = attr } in w) (wanted P (owner P e))
given_is_wanted P e attr given =
    let t = some_passes (λ (c : Conn). (c.from == e) && same_text c.from_attr attr) P.conns given in
    let u = both_hold (t.0.from == e) (same_text t.0.from_attr attr) t.2 in
    let from : t.0.from ≡ e = eqb-true t.0.from e u.0 in
    let same : t.0.from_attr ≡ attr = text_is t.0.from_attr attr u.1 in
    subst (λ (w : Want). IsIn w (wanted P (owner P e))) (λ i. record { eid = eid_of P (from i); attr = same i }) (taken_is_wanted P t.0 (owner P e) t.1 (ap (owner P) from))

-- ---- found by a search

rising : (ws : List Want) (v : Want) → IsStrictlySortedBy want_order ws → IsNonDecreasingBy (λ w. ordering_index (want_order w v)) ws
unfolding IsStrictlySortedBy
rising ws v sorted = searchable_from_sorted names_total (λ w. w) ws v (λ k d low below. not_less (get_or ws k d) (get_or ws (k + 1) d) (next ws k d sorted below))
  where
    not_less : (x y : Want) → want_order x y ≡ Less → is_lt (want_order y x) ≡ false
    not_less x y h = ap is_lt (names_total.antisymm y x ∙ ap ordering_reverse h)

    all_at : (Q : Want → Type 0) (xs : List Want) (d : Want) → AllByRecursion Q xs → 0 < length xs → Q (get_or xs 0 d)
    all_at Q [] d all low = absurd (omega arith)
    all_at Q (x ∷ xs) d all low = all.0

    next : (xs : List Want) (k : ℕ) (d : Want) → IsStrictlySortedBy want_order xs → k + 1 < length xs → want_order (get_or xs k d) (get_or xs (k + 1) d) ≡ Less
    next [] k d sorted below = absurd (omega arith)
    next (x ∷ xs) zero d sorted below = all_at (λ y. want_order x y ≡ Less) xs d sorted.0 (omega arith)
    next (x ∷ xs) (suc k) d sorted below = subst (λ (n : ℕ). want_order (get_or xs k d) (get_or (x ∷ xs) n d) ≡ Less) {x = suc (k + 1)} {y = suc k + 1} (omega arith) (next xs k d sorted.1 (omega arith))

pub found_at : (ws : List Want) (v : Want) (i : ℕ) → i < length ws → HoldsAt (λ w. want_order w v ≡ Equal) ws i → slice_get ws i ≡ Some v
found_at ws v i low holds = get_default ws i v low ∙ ap Some (same_names (get_or ws i v) v (holds v))

pub not_missing : (ws : List Want) (v : Want) (i : ℕ) → (IsNonDecreasingBy (λ w. ordering_index (want_order w v)) ws → IsPartitionPoint (λ w. want_order w v ≡ Less) (λ w. want_order w v ≡ Greater) ws i) → IsStrictlySortedBy want_order ws → IsIn v ws → slice_get ws i ≡ Some v
not_missing ws v i parts sorted m =
    let p = parts (rising ws v sorted) in
    let t = in_at v ws m in
    let g = get_is ws t.0 v t.1 in
    absurd (elim (below_or t.0 i) [
      | inl low ↦ not_itself v (subst (λ (w : Want). want_order w v ≡ Less) g.1 (p.0 t.0 v (omega arith) low))
      | inr high ↦ let k : Greater ≡ Equal = sym (subst (λ (w : Want). want_order w v ≡ Greater) g.1 (p.1 t.0 v high g.0)) ∙ equal_itself v in cc
    ])
  where
    below_or : (a b : ℕ) → (a < b) ⊎ (b ≤ a)
    below_or a b = grind arith
