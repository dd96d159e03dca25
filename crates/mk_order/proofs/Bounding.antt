-- There always is a least end of walks: simulators are let in one by one, and none lets a walk end
-- sooner by coming back to it.
use Rattle.std.proofs.Common.{◌≡◌, ℕ, zero, suc, ◌≤◌, Bool, true, false, List, [], ◌++◌, flat_map, Option, Some, None, option_map, refl, sym, ap, ◌∙◌, subst, ◌⊎◌, inl, inr, true≢false, arith, ◌==◌, if◌then◌else◌}
use Rattle.std.specs.Prelude.{option_to_list}
use Rattle.std.proofs.lemmas.Bool.{eqb-true, eq-eqb}
use Rattle.mk_base.specs.declared.tier.Tier.{Tier}
use Rattle.mk_base.specs.declared.tier.Via.{Via}
use Rattle.mk_base.specs.Lists.{IsIn}
use Rattle.mk_base.specs.Tiers.{delayed, HasWidth, IsUpTo}
use Rattle.mk_base.proofs.Lists.{none_some, in_flat_map, flat_map_in, in_either, in_front, in_back}
use Rattle.mk_base.proofs.TierOrder.{up_to_trans, delayed_keeps, delayed_no_earlier}
use Rattle.mk_plan.specs.declared.Plan.{Plan}
use Rattle.mk_plan.specs.Plans.{Link, trigger_links}
use Rattle.mk_plan.specs.Walks.{link, IsEdge, Reach, from_start, along}
use Rattle.mk_plan.specs.Ready.{least}
use Rattle.mk_order.proofs.Reasons.{least_is, is_least}
use Rattle.mk_order.proofs.Exact.{IsBoundBy, bounded}

-- those that a walk may not touch: those of a set, and all from k on
abbrev pub Barred : (ℕ → Bool) → ℕ → ℕ → Type 0
Barred z k i = (z i ≡ true) ⊎ (k ≤ i)

-- one at most has an end
abbrev only : ℕ → Option Tier → ℕ → Option Tier
only k o j = if j == k then o else None

only_here : (k j : ℕ) (o : Option Tier) (e : Tier) → only k o j ≡ Some e → (j ≡ k) × (o ≡ Some e)
only_here k j o e h = go (j == k) refl h
  where
    go : (b : Bool) → (j == k) ≡ b → (if b then o else None) ≡ Some e → (j ≡ k) × (o ≡ Some e)
    go true is h = (eqb-true j k is, h)
    go false is h = absurd (none_some h)

only_is : (k : ℕ) (o : Option Tier) → only k o k ≡ o
only_is k o = ap (λ (b : Bool). if b then o else None) (eq-eqb k k refl)

of_option : (o : Option Tier) (y : Tier) → IsIn y (option_to_list o) → o ≡ Some y
of_option None y m = absurd m
of_option (Some x) y (inl e) = ap Some (sym e)
of_option (Some x) y (inr m) = absurd m

option_of : (o : Option Tier) (y : Tier) → o ≡ Some y → IsIn y (option_to_list o)
option_of o y e = subst (λ (p : Option Tier). IsIn y (option_to_list p)) (sym e) (inl refl)

module _ (P : Plan) where
  -- a walk that may touch more
  pub reach_wider : (starts : ℕ → Option Tier) (Y Z : ℕ → Type 0) → ((i : ℕ) → Z i → Y i) → (i : ℕ) (y : Tier) → Reach P starts Y i y → Reach P starts Z i y
  reach_wider starts Y Z fewer i y (from_start _ _ out is) = from_start i y (λ z. out (fewer i z)) is
  reach_wider starts Y Z fewer i z (along j v _ y _ walk edge out is) = along j v i y z (reach_wider starts Y Z fewer j y walk) edge (λ k. out (fewer i k)) is

  -- what comes to i over one edge, from the ends of a table
  ends_into : (ℕ → Option Tier) → ℕ → Link → List Tier
  ends_into table i l = if l.to == i then option_to_list (option_map (λ e. delayed e l.via) (table l.from)) else []

  into : (ℕ → Option Tier) → ℕ → List Tier
  into table i = flat_map (ends_into table i) (trigger_links P)

  into_has : (table : ℕ → Option Tier) (j : ℕ) (v : Via) (i : ℕ) (e : Tier) → IsEdge P j v i → table j ≡ Some e → IsIn (delayed e v) (into table i)
  unfolding into ends_into
  into_has table j v i e edge is = flat_map_in (ends_into table i) (link j v i) (delayed e v) (trigger_links P) edge
      (subst (λ (l : List Tier). IsIn (delayed e v) l) (sym (ap (λ (b : Bool). if b then option_to_list (option_map (λ e. delayed e v) (table j)) else []) (eq-eqb i i refl) ∙ ap (λ (o : Option Tier). option_to_list (option_map (λ e. delayed e v) o)) is)) (inl refl))

  record CameOver (table : ℕ → Option Tier) (i : ℕ) (y : Tier) : Type 0 where
    from : ℕ
    via : Via
    at : Tier
    edge : IsEdge P from via i
    is : table from ≡ Some at
    end : y ≡ delayed at via

  has_into : (table : ℕ → Option Tier) (i : ℕ) (y : Tier) → IsIn y (into table i) → CameOver table i y
  unfolding into ends_into
  has_into table i y m = let t = in_flat_map (ends_into table i) y (trigger_links P) m in go t.0 t.1 (t.0.to == i) refl t.2
    where
      over : (l : Link) → IsIn l (trigger_links P) → l.to ≡ i → (o : Option Tier) → table l.from ≡ o → IsIn y (option_to_list (option_map (λ e. delayed e l.via) o)) → CameOver table i y
      over l k to None is m = absurd m
      over l k to (Some e) is (inr m) = absurd m
      over l k to (Some e) is (inl h) = record { from = l.from; via = l.via; at = e; edge = subst (λ (n : ℕ). IsIn (link l.from l.via n) (trigger_links P)) to k; is = is; end = h }

      go : (l : Link) → IsIn l (trigger_links P) → (b : Bool) → (l.to == i) ≡ b → IsIn y (if b then option_to_list (option_map (λ e. delayed e l.via) (table l.from)) else []) → CameOver table i y
      go l k true to m = over l k (eqb-true l.to i to) (table l.from) refl m
      go l k false to m = absurd m

  -- the table has the least ends of the walks that touch nobody barred
  pub record IsTable (starts : ℕ → Option Tier) (z : ℕ → Bool) (k : ℕ) (table : ℕ → Option Tier) : Type 0 where
    pub reached : (i : ℕ) (e : Tier) → table i ≡ Some e → Reach P starts (Barred z k) i e
    pub bounding : (i : ℕ) (y : Tier) → Reach P starts (Barred z k) i y → IsBoundBy (table i) y

  module _ (wide : (j : ℕ) (v : Via) (i : ℕ) → IsEdge P j v i → HasWidth v) (z : ℕ → Bool) where
    -- one more simulator is let in
    module _ (k : ℕ) (inside : z k ≡ false) (starts first : ℕ → Option Tier) (table : IsTable starts z k first) where
      -- its own least end
      own_ends : List Tier
      own_ends = option_to_list (starts k) ++ into first k

      own : Option Tier
      own = least own_ends

      -- what starts at the others with what comes from it
      start_ends : ℕ → List Tier
      start_ends i = option_to_list (starts i) ++ into (only k own) i

      again : ℕ → Option Tier
      again i = least (start_ends i)

      still_out : (i : ℕ) → Barred z (suc k) i → Barred z k i
      still_out i (inl h) = inl h
      still_out i (inr h) = inr (omega (arith, h))

      not_out : Barred z (suc k) k → ⊥
      not_out (inl h) = true≢false (sym h ∙ inside)
      not_out (inr h) = omega (arith, h)

      others_out : (i : ℕ) → (i ≡ k → ⊥) → (Barred z (suc k) i → ⊥) → Barred z k i → ⊥
      others_out i n out (inl h) = out (inl h)
      others_out i n out (inr h) = out (inr (omega (arith, h, n)))

      own_reached : (e : Tier) → own ≡ Some e → Reach P starts (Barred z (suc k)) k e
      unfolding own own_ends
      own_reached e is = elim (in_either e (option_to_list (starts k)) (into first k) (least_is own_ends e is).0) [
        | inl m ↦ from_start k e not_out (of_option (starts k) e m)
        | inr m ↦ let c = has_into first k e m in along c.from c.via k c.at e (reach_wider starts (Barred z k) (Barred z (suc k)) still_out c.from c.at (table.reached c.from c.at c.is)) c.edge not_out c.end
      ]

      lifted : (i : ℕ) (y : Tier) → Reach P again (Barred z k) i y → Reach P starts (Barred z (suc k)) i y
      unfolding again start_ends
      lifted i y (from_start _ _ out is) = elim (in_either y (option_to_list (starts i)) (into (only k own) i) (least_is (start_ends i) y is).0) [
        | inl m ↦ from_start i y (λ b. out (still_out i b)) (of_option (starts i) y m)
        | inr m ↦ let c = has_into (only k own) i y m in
            let h = only_here k c.from own c.at c.is in
            along c.from c.via i c.at y (subst (λ (j : ℕ). Reach P starts (Barred z (suc k)) j c.at) (sym h.0) (own_reached c.at h.1)) c.edge (λ b. out (still_out i b)) c.end
      ]
      lifted i w (along j v _ y _ walk edge out is) = along j v i y w (lifted j y walk) edge (λ b. out (still_out i b)) is

      -- an end over those starts is bounded by the first table, or by the own end
      lower : (i : ℕ) (y : Tier) → Reach P again (Barred z k) i y → IsBoundBy (first i) y ⊎ IsBoundBy own y
      unfolding again start_ends
      lower i y (from_start _ _ out is) = elim (in_either y (option_to_list (starts i)) (into (only k own) i) (least_is (start_ends i) y is).0) [
        | inl m ↦ inl (table.bounding i y (from_start i y out (of_option (starts i) y m)))
        | inr m ↦ let c = has_into (only k own) i y m in
            let h = only_here k c.from own c.at c.is in
            inr (c.at, h.1, subst (λ (t : Tier). IsUpTo c.at t) (sym c.end) (delayed_no_earlier c.at c.via (wide c.from c.via i c.edge)))
      ]
      lower i w (along j v _ y _ walk edge out is) = elim (lower j y walk) [
        | inl b ↦ let c = table.bounding i (delayed b.0 v) (along j v i b.0 (delayed b.0 v) (table.reached j b.0 b.1) edge out refl) in
            inl (c.0, c.1, up_to_trans c.0 (delayed b.0 v) w c.2 (subst (λ (t : Tier). IsUpTo (delayed b.0 v) t) (sym is) (delayed_keeps b.0 y v b.2)))
        | inr b ↦ inr (b.0, b.1, up_to_trans b.0 y w b.2 (subst (λ (t : Tier). IsUpTo y t) (sym is) (delayed_no_earlier y v (wide j v i edge))))
      ]

      module _ (second : ℕ → Option Tier) (table' : IsTable again z k second) where
        joined : ℕ → Option Tier
        joined i = if i == k then own else second i

        joined_here : (i : ℕ) → i ≡ k → joined i ≡ own
        unfolding joined
        joined_here i e = ap (λ (b : Bool). if b then own else second i) (eq-eqb i k e)

        joined_apart : (i : ℕ) → (i ≡ k → ⊥) → joined i ≡ second i
        unfolding joined
        joined_apart i n = ap (λ (b : Bool). if b then own else second i) (go (i == k) refl)
          where
            go : (b : Bool) → (i == k) ≡ b → (i == k) ≡ false
            go true e = absurd (n (eqb-true i k e))
            go false e = e

        same_or : (i : ℕ) → (i ≡ k) ⊎ (i ≡ k → ⊥)
        same_or i = elim (i == k) as (λ b. (i == k) ≡ b → (i ≡ k) ⊎ (i ≡ k → ⊥)) [ true ↦ λ e. inl (eqb-true i k e) | false ↦ λ e. inr (λ q. true≢false (sym (eq-eqb i k q) ∙ e)) ] refl

        by : (o : Option Tier) (p : Option Tier) (y : Tier) → p ≡ o → IsBoundBy o y → IsBoundBy p y
        by o p y e b = subst (λ (q : Option Tier). IsBoundBy q y) (sym e) b

        -- the second table's ends bound what starts over those starts
        from_again : (i : ℕ) (y : Tier) → (Barred z k i → ⊥) → IsIn y (start_ends i) → IsBoundBy (second i) y
        unfolding again
        from_again i y out m =
            let t = is_least (start_ends i) y m in
            let b = table'.bounding i t.0 (from_start i t.0 out t.1) in
            (b.0, b.1, up_to_trans b.0 t.0 y b.2 t.2)

        from_own : (y : Tier) → IsIn y own_ends → IsBoundBy own y
        unfolding own
        from_own y m = is_least own_ends y m

        joined_starts : (i : ℕ) (y : Tier) → (Barred z (suc k) i → ⊥) → starts i ≡ Some y → IsBoundBy (joined i) y
        unfolding own_ends start_ends
        joined_starts i y out is = elim (same_or i) [
          | inl e ↦ by own (joined i) y (joined_here i e) (from_own y (in_front y (option_to_list (starts k)) (into first k) (option_of (starts k) y (ap starts (sym e) ∙ is))))
          | inr n ↦ by (second i) (joined i) y (joined_apart i n) (from_again i y (others_out i n out) (in_front y (option_to_list (starts i)) (into (only k own) i) (option_of (starts i) y is)))
        ]

        joined_settled : (j : ℕ) (v : Via) (i : ℕ) (e : Tier) → (Barred z (suc k) i → ⊥) → IsEdge P j v i → joined j ≡ Some e → IsBoundBy (joined i) (delayed e v)
        unfolding own_ends start_ends
        joined_settled j v i e out edge is = elim (same_or j) [
          | inl a ↦ elim (same_or i) [
            | inl b ↦ by own (joined i) (delayed e v) (joined_here i b) (e, sym (joined_here j a) ∙ is, delayed_no_earlier e v (wide j v i edge))
            | inr n ↦ by (second i) (joined i) (delayed e v) (joined_apart i n) (from_again i (delayed e v) (others_out i n out)
                (in_back (delayed e v) (option_to_list (starts i)) (into (only k own) i) (into_has (only k own) j v i e edge (ap (only k own) a ∙ only_is k own ∙ sym (joined_here j a) ∙ is))))
          ]
          | inr m ↦
              let walk : Reach P again (Barred z k) j e = table'.reached j e (sym (joined_apart j m) ∙ is) in
              elim (same_or i) [
                | inl b ↦ by own (joined i) (delayed e v) (joined_here i b) (elim (lower j e walk) [
                  | inl c ↦
                      let t = from_own (delayed c.0 v) (in_back (delayed c.0 v) (option_to_list (starts k)) (into first k) (into_has first j v k c.0 (subst (IsEdge P j v) b edge) c.1)) in
                      (t.0, t.1, up_to_trans t.0 (delayed c.0 v) (delayed e v) t.2 (delayed_keeps c.0 e v c.2))
                  | inr c ↦ (c.0, c.1, up_to_trans c.0 e (delayed e v) c.2 (delayed_no_earlier e v (wide j v i edge)))
                ])
                | inr n ↦ by (second i) (joined i) (delayed e v) (joined_apart i n) (table'.bounding i (delayed e v) (along j v i e (delayed e v) walk edge (others_out i n out) refl))
              ]
        ]

        joined_table : IsTable starts z (suc k) joined
        joined_table = record {
          reached = λ i e is. elim (same_or i) [
            | inl h ↦ subst (λ (j : ℕ). Reach P starts (Barred z (suc k)) j e) (sym h) (own_reached e (sym (joined_here i h) ∙ is))
            | inr n ↦ lifted i e (table'.reached i e (sym (joined_apart i n) ∙ is))
          ];
          bounding = bounded P starts (Barred z (suc k)) joined joined_starts joined_settled;
        }

    -- one that is in the set changes nothing
    kept_table : (k : ℕ) → z k ≡ true → (starts table : ℕ → Option Tier) → IsTable starts z k table → IsTable starts z (suc k) table
    kept_table k barred starts table t = record {
      reached = λ i e is. reach_wider starts (Barred z k) (Barred z (suc k)) narrower i e (t.reached i e is);
      bounding = λ i y walk. t.bounding i y (reach_wider starts (Barred z (suc k)) (Barred z k) wider i y walk);
    }
      where
        narrower : (i : ℕ) → Barred z (suc k) i → Barred z k i
        narrower i (inl h) = inl h
        narrower i (inr h) = inr (omega (arith, h))

        wider : (i : ℕ) → Barred z k i → Barred z (suc k) i
        wider i (inl h) = inl h
        wider i (inr h) = elim (at_or_above i h) [ inl e ↦ inl (ap z (sym e) ∙ barred) | inr l ↦ inr l ]
          where
            at_or_above : (i : ℕ) → k ≤ i → (k ≡ i) ⊎ (suc k ≤ i)
            at_or_above i h = grind (arith, h)

    -- for each starts there is a table
    pub some_table : (k : ℕ) (starts : ℕ → Option Tier) → (table : ℕ → Option Tier) × IsTable starts z k table
    some_table zero starts = (λ i. None, record { reached = λ i e is. absurd (none_some is); bounding = λ i y walk. absurd (no_walk i y walk) })
      where
        no_walk : (i : ℕ) (y : Tier) → Reach P starts (Barred z zero) i y → ⊥
        no_walk i y (from_start _ _ out is) = out (inr (omega arith))
        no_walk i w (along j v _ y _ walk edge out is) = out (inr (omega arith))
    some_table (suc k) starts = go (z k) refl (λ f. some_table k f)
      where
        go : (b : Bool) → z k ≡ b → ((f : ℕ → Option Tier) → (table : ℕ → Option Tier) × IsTable f z k table) → (table : ℕ → Option Tier) × IsTable starts z (suc k) table
        go true e tables = let t = tables starts in (t.0, kept_table k e starts t.0 t.1)
        go false e tables =
            let t = tables starts in
            let u = tables (again k e starts t.0 t.1) in
            (joined k e starts t.0 t.1 u.0 u.1, joined_table k e starts t.0 t.1 u.0 u.1)
