-- Sorted takings, put one after the other into a list for each simulator, give what is wanted of each.
use Rattle.std.proofs.Common.{◌≡◌, inl, inr, ℕ, ◌+◌, ◌<◌, ◌≤◌, Bool, true, false, true≢false, cond, List, [], ◌∷◌, ◌++◌, length, filter, fold, take, Option, Some, slice_get, slice_set, get_or, ◌==◌, refl, sym, ap, subst, ◌∙◌, arith}
use Rattle.std.specs.Prelude.{unwrap_or}
use Rattle.std.specs.List.Sorted.{IsPermutation, IsSortedBy, IsStrictlySortedBy}
use Rattle.std.specs.Ordering.{is_lt, ordering_reverse}
use Rattle.std.proofs.lemmas.Bool.{eqb-true, eq-eqb}
use Rattle.std.proofs.lemmas.List.{take_all, take_more}
use Rattle.std.proofs.lemmas.List.Sorted.{sorted_far, ranks_by, IsPermutation-sym}
use Rattle.std.proofs.lemmas.List.Sums.{fold-append}
use Rattle.mk_base.specs.Lists.{IsIn, put}
use Rattle.mk_base.proofs.Lists.{all_in, some_same, in_front, in_back, in_either, in_filter, filter_in, filter_append, get_is, below_get, at_in, length_set, set_here, set_else}
use Rattle.mk_plan.specs.declared.Plan.{Plan}
use Rattle.mk_plan.specs.declared.Conn.{Conn}
use Rattle.mk_plan.specs.declared.Want.{Want}
use Rattle.mk_plan.specs.Plans.{owner, RefersInside}
use Rattle.mk_plan.specs.Turns.{wanted, want_order, want_of}
use Rattle.mk_plan.proofs.Owners.{owner_is_below}
use Rattle.mk_plan_judge.specs.declared.all_wants.Taking.{Taking}
use Rattle.mk_plan_judge.specs.inner.Takings.{AreTakings, AreWantsOf, IsTakenBy, NoneIsBehind, taking_order, want_taken, wants_of, with_want}
use Rattle.mk_plan_judge.proofs.AtPlaces.{get_any, permuted, take_in}
use Rattle.mk_plan_judge.proofs.Putting.{names_total}
use Rattle.mk_plan_judge.proofs.Puts.{puts_sorted, puts_from, same_puts}
use Rattle.mk_plan_judge.proofs.Taken.{same_names}

-- ---- what all connections take

module _ (P : Plan) where
  pub takings_more : (cs : List Conn) (n : ℕ) (c : Conn) (t : Taking) (ts new : List Taking) → AreTakings P (take n cs) ts → n < length cs → c ≡ get_or cs n c → IsTakenBy P c t → new ≡ ts ++ t ∷ [] → AreTakings P (take (n + 1) cs) new
  takings_more cs n c t ts new are low is by whole = subst (λ (ds : List Conn). AreTakings P ds new) (sym more) (subst (AreTakings P (take n cs ++ c ∷ [])) (sym whole) (record {
    each = λ u m. elim (in_either u ts (t ∷ []) m) [
      | inl r ↦ let d = are.each u r in (d.0, in_front d.0 (take n cs) (c ∷ []) d.1, d.2)
      | inr r ↦ elim r [ inl q ↦ (c, in_back c (take n cs) (c ∷ []) (inl refl), subst (IsTakenBy P c) (sym q) by) | inr z ↦ absurd z ]
    ];
    all = λ d m. elim (in_either d (take n cs) (c ∷ []) m) [
      | inl r ↦ let u = are.all d r in (u.0, in_front u.0 ts (t ∷ []) u.1, u.2)
      | inr r ↦ elim r [ inl q ↦ (t, in_back t ts (t ∷ []) (inl refl), subst (λ (e : Conn). IsTakenBy P e t) (sym q) by) | inr z ↦ absurd z ]
    ];
  }))
    where
      more : take (n + 1) cs ≡ take n cs ++ c ∷ []
      more = take_more cs n c low ∙ ap (λ (d : Conn). take n cs ++ d ∷ []) (sym is)

  pub takings_sorted : (cs : List Conn) (xs ys : List Taking) → AreTakings P cs xs → IsPermutation xs ys → AreTakings P cs ys
  takings_sorted cs xs ys are p = record {
    each = λ t m. are.each t (permuted ys xs t (IsPermutation-sym xs ys p) m);
    all = λ c m. let t = are.all c m in (t.0, permuted xs ys t.0 p t.1, t.2);
  }

  pub takings_all : (cs : List Conn) (n : ℕ) (ts : List Taking) → cs ≡ P.conns → length cs ≤ n → AreTakings P (take n cs) ts → AreTakings P P.conns ts
  takings_all cs n ts same all are = subst (λ (ds : List Conn). AreTakings P ds ts) (take_all n cs all ∙ same) are

  -- each is taken of one of the simulators
  pub takings_inside : (ts : List Taking) → RefersInside P → AreTakings P P.conns ts → (t : Taking) → IsIn t ts → t.sim < length P.sims
  takings_inside ts refers are t m = let c = are.each t m in
      let ends : (c.0.from < length P.entities) × (c.0.to < length P.entities) = all_in (λ (d : Conn). (d.from < length P.entities) × (d.to < length P.entities)) P.conns c.0 refers.conns c.1 in
      subst (λ (i : ℕ). i < length P.sims) (sym c.2.sim) (owner_is_below P refers c.0.from ends.0)

  want_is : (c : Conn) (t : Taking) → IsTakenBy P c t → want_taken t ≡ want_of P c
  want_is c t by = λ i. record { eid = by.eid i; attr = by.attr i }

  -- what they take of a simulator is what is wanted of it
  pub wants_whole : (ts : List Taking) (s : ℕ) → AreTakings P P.conns ts → wants_of s ts ≡ wanted P s
  wants_whole ts s are = same_puts want_order names_total same_names want_taken (want_of P) (filter (λ t. t.sim == s) ts) (filter (λ c. owner P c.from == s) P.conns)
      (λ t m. let u = in_filter (λ (t : Taking). t.sim == s) t ts m in let c = are.each t u.0 in
      (c.0, filter_in (λ (c : Conn). owner P c.from == s) c.0 P.conns c.1 (eq-eqb _ _ (sym c.2.sim ∙ eqb-true _ _ u.1)), want_is c.0 t c.2))
      (λ c m. let u = in_filter (λ (c : Conn). owner P c.from == s) c P.conns m in let t = are.all c u.0 in
      (t.0, filter_in (λ (t : Taking). t.sim == s) t.0 ts t.1 (eq-eqb _ _ (t.2.sim ∙ eqb-true _ _ u.1)), want_is c t.0 t.2))

-- ---- a list for each simulator

pub wants_none : (n : ℕ) (lists : List (List Want)) → length lists ≡ n → ((ws : List Want) → IsIn ws lists → ws ≡ []) → AreWantsOf n [] lists
wants_none n lists count none = record { count = count; each = λ s ws at. none ws (at_in ws lists s at) }

pub empty_more : (lists : List (List Want)) (one : List Want) (new : List (List Want)) → ((ws : List Want) → IsIn ws lists → ws ≡ []) → one ≡ [] → new ≡ lists ++ one ∷ [] → (ws : List Want) → IsIn ws new → ws ≡ []
empty_more lists one new none is whole ws m = elim (in_either ws lists (one ∷ []) (subst (IsIn ws) whole m)) [
  | inl r ↦ none ws r
  | inr r ↦ elim r [ inl q ↦ q ∙ is | inr z ↦ absurd z ]
]

wants_more : (s : ℕ) (ts : List Taking) (t : Taking) (b : Bool) → (t.sim == s) ≡ b → wants_of s (ts ++ t ∷ []) ≡ cond b (put want_order (want_taken t) (wants_of s ts)) (wants_of s ts)
wants_more s ts t b is = ap (fold (λ ws u. put want_order (want_taken u) ws) []) (filter_append (λ (u : Taking). u.sim == s) ts (t ∷ []) ∙ ap (λ (b : Bool). filter (λ (u : Taking). u.sim == s) ts ++ cond b (t ∷ []) []) is)
    ∙ fold-append (λ ws u. put want_order (want_taken u) ws) [] (filter (λ (u : Taking). u.sim == s) ts) (cond b (t ∷ []) [])
    ∙ (elim b as (λ (b : Bool). fold (λ ws u. put want_order (want_taken u) ws) (wants_of s ts) (cond b (t ∷ []) []) ≡ cond b (put want_order (want_taken t) (wants_of s ts)) (wants_of s ts)) [ true ↦ refl | false ↦ refl ])

wants_added : (n : ℕ) (ts : List Taking) (t : Taking) (lists : List (List Want)) → AreWantsOf n ts lists → AreWantsOf n (ts ++ t ∷ []) (with_want t lists)
wants_added n ts t lists are = record { count = length_set lists t.sim new ∙ are.count; each = λ s ws at. by s ws at (t.sim == s) refl }
  where
    new : List Want
    new = put want_order (want_taken t) (unwrap_or (slice_get lists t.sim) [])

    here : (ws : List Want) → slice_get (slice_set lists t.sim new) t.sim ≡ Some ws → ws ≡ put want_order (want_taken t) (wants_of t.sim ts)
    here ws at =
        let old = below_get lists t.sim (omega (arith, (get_is (slice_set lists t.sim new) t.sim ws at).0, length_set lists t.sim new)) in
        some_same (sym at ∙ set_here lists t.sim new old.0 old.1) ∙ ap (λ (o : Option (List Want)). put want_order (want_taken t) (unwrap_or o [])) old.1 ∙ ap (put want_order (want_taken t)) (are.each t.sim old.0 old.1)

    by : (s : ℕ) (ws : List Want) → slice_get (slice_set lists t.sim new) s ≡ Some ws → (b : Bool) → (t.sim == s) ≡ b → ws ≡ wants_of s (ts ++ t ∷ [])
    by s ws at true e = let q : t.sim ≡ s = eqb-true t.sim s e in
        subst (λ (i : ℕ). ws ≡ wants_of i (ts ++ t ∷ [])) q (here ws (ap (slice_get (slice_set lists t.sim new)) q ∙ at) ∙ sym (wants_more t.sim ts t true (eq-eqb t.sim t.sim refl)))
    by s ws at false e = are.each s ws (sym (set_else lists t.sim s new (λ q. true≢false (sym (eq-eqb t.sim s (sym q)) ∙ e))) ∙ at) ∙ sym (wants_more s ts t false e)

-- what stands at the place of its simulator takes the want in
pub want_put : (t : Taking) (lists : List (List Want)) (old new : List Want) (w : Want) → slice_get lists t.sim ≡ Some old → w ≡ want_taken t → new ≡ put want_order w old → slice_set lists t.sim new ≡ with_want t lists
want_put t lists old new w at of is = ap (slice_set lists t.sim) (is ∙ (λ i. put want_order (of i) (unwrap_or (sym at i) [])))

-- the next list, by the takings up to the place
pub wants_next : (n : ℕ) (ts : List Taking) (k : ℕ) (t : Taking) (lists new : List (List Want)) → k < length ts → t ≡ get_or ts k t → AreWantsOf n (take k ts) lists → new ≡ with_want t lists → AreWantsOf n (take (k + 1) ts) new
wants_next n ts k t lists new low is are whole = subst (λ us. AreWantsOf n us new) (ap (λ (u : Taking). take k ts ++ u ∷ []) is ∙ sym (take_more ts k t low)) (subst (AreWantsOf n (take k ts ++ t ∷ [])) (sym whole) (wants_added n (take k ts) t lists are))

-- ---- none of those before comes behind the next

next_is_last : (ts : List Taking) (k : ℕ) (t : Taking) → IsSortedBy (λ t u. is_lt (taking_order t u)) ts → k < length ts → t ≡ get_or ts k t → (s : ℕ) → NoneIsBehind (want_taken t) (wants_of s (take k ts))
next_is_last ts k t sorted low is s v m behind = elim (puts_from want_order names_total want_taken v (filter (λ t. t.sim == s) (take k ts)) [] m) [
  | inl r ↦ let i = take_in r.0 k ts (in_filter (λ (t : Taking). t.sim == s) r.0 (take k ts) r.1).0 in
      let far : is_lt (taking_order (get_or ts k t) (get_or ts i.0 t)) ≡ false = sorted_far (λ t u. is_lt (taking_order t u)) (ranks_by names_total want_taken) ts sorted i.0 k t (omega (arith, i.1)) low in
      let apart : is_lt (want_order (want_taken t) v) ≡ false = (λ j. is_lt (want_order (want_taken (is j)) ((r.2 ∙ ap want_taken (sym (get_any ts i.0 t r.0 i.2))) j))) ∙ far in
      true≢false (sym (ap is_lt (names_total.antisymm (want_taken t) v ∙ ap ordering_reverse behind)) ∙ apart)
  | inr r ↦ absurd r
]

wants_sorted : (s : ℕ) (ts : List Taking) → IsStrictlySortedBy want_order (wants_of s ts)
unfolding IsStrictlySortedBy
wants_sorted s ts = puts_sorted want_order names_total want_taken (filter (λ t. t.sim == s) ts) [] tt

-- what the next is put to
pub next_fits : (n : ℕ) (ts : List Taking) (k : ℕ) (t : Taking) (lists : List (List Want)) → IsSortedBy (λ t u. is_lt (taking_order t u)) ts → k < length ts → t ≡ get_or ts k t → AreWantsOf n (take k ts) lists
    → (ws : List Want) → slice_get lists t.sim ≡ Some ws → IsStrictlySortedBy want_order ws × NoneIsBehind (want_taken t) ws
next_fits n ts k t lists sorted low is are ws at = let e = are.each t.sim ws at in
    (subst (IsStrictlySortedBy want_order) (sym e) (wants_sorted t.sim (take k ts)), subst (NoneIsBehind (want_taken t)) (sym e) (next_is_last ts k t sorted low is t.sim))
