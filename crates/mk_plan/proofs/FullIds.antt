-- Of what a full id is made, and that it names one entity.
use Rattle.std.proofs.Common.{◌≡◌, ◌≢◌, ◌⊎◌, inl, inr, ℕ, zero, suc, ◌<◌, List, [], ◌∷◌, ◌++◌, length, All, Option, Some, unwrap_or, option_map, slice_get, refl, sym, ap, ◌∙◌, arith, append_assoc, get_or}
use Rattle.mk_base.proofs.Lists.{below_get, all_at, some_same}
use Rattle.mk_plan.specs.declared.Plan.{Plan}
use Rattle.mk_plan.specs.declared.PlanSim.{PlanSim}
use Rattle.mk_plan.specs.declared.PlanModel.{PlanModel}
use Rattle.mk_plan.specs.declared.PlanEntity.{PlanEntity}
use Rattle.mk_plan.specs.Plans.{owner, eid_of, full_id, sim_id, dot, RefersInside, HasDistinctNames}
use Rattle.mk_base.proofs.Items.{get_below}

tail_all : (b : ℕ) (bs : List ℕ) → All (λ (c : ℕ). c ≢ dot) (b ∷ bs) → All (λ (c : ℕ). c ≢ dot) bs
tail_all b bs all = λ i d low. all (suc i) d (omega (arith, low))

head_all : (b : ℕ) (bs : List ℕ) → All (λ (c : ℕ). c ≢ dot) (b ∷ bs) → b ≢ dot
head_all b bs all = all 0 b (omega arith)

heads : {x y : ℕ} {xs ys : List ℕ} → x ∷ xs ≡ y ∷ ys → (x ≡ y) × (xs ≡ ys)
heads e = (cc, cc)

-- what stands before the first dot, and what after it
parts : (xs ys us vs : List ℕ) → All (λ (b : ℕ). b ≢ dot) xs → All (λ (b : ℕ). b ≢ dot) ys → xs ++ dot ∷ us ≡ ys ++ dot ∷ vs → (xs ≡ ys) × (us ≡ vs)
parts [] [] us vs f g e = (refl, (heads e).1)
parts [] (y ∷ ys) us vs f g e = absurd (head_all y ys g (sym (heads e).0))
parts (x ∷ xs) [] us vs f g e = absurd (head_all x xs f (heads e).0)
parts (x ∷ xs) (y ∷ ys) us vs f g e = let h = heads e in let rest = parts xs ys us vs (tail_all x xs f) (tail_all y ys g) h.1 in ((λ k. h.0 k ∷ rest.0 k), rest.1)

pub order_of : (d e : ℕ) → (d ≡ e) ⊎ ((d < e) ⊎ (e < d))
order_of zero zero = inl refl
order_of zero (suc e) = inr (inl (omega arith))
order_of (suc d) zero = inr (inr (omega arith))
order_of (suc d) (suc e) = elim (order_of d e) [ inl q ↦ inl (ap suc q) | inr r ↦ elim r [ inl l ↦ inr (inl (omega (arith, l))) | inr l ↦ inr (inr (omega (arith, l))) ] ]

got : {X : Type 0} (xs : List X) (i : ℕ) (d x : X) → slice_get xs i ≡ Some x → get_or xs i d ≡ x
got [] i d x at = cc
got (y ∷ ys) zero d x at = some_same at
got (y ∷ ys) (suc i) d x at = got ys i d x at

module _ (P : Plan) (names : HasDistinctNames P) where
  -- an entity is told by its simulator and its name there
  pub same_entity : (d e : ℕ) → d < length P.entities → e < length P.entities → owner P d ≡ owner P e → eid_of P d ≡ eid_of P e → d ≡ e
  same_entity d e low high sims eids = by (order_of d e)
    where
      by : (d ≡ e) ⊎ ((d < e) ⊎ (e < d)) → d ≡ e
      by (inl q) = q
      by (inr (inl l)) = absurd (names.eids d e l high sims eids)
      by (inr (inr l)) = absurd (names.eids e d l low (sym sims) (sym eids))

  same_sim : (i j : ℕ) (s t : PlanSim) → slice_get P.sims i ≡ Some s → slice_get P.sims j ≡ Some t → s.id ≡ t.id → i ≡ j
  same_sim i j s t at to same = by (order_of i j)
    where
      by : (i ≡ j) ⊎ ((i < j) ⊎ (j < i)) → i ≡ j
      by (inl q) = q
      by (inr (inl l)) = absurd (names.sims i j s l (get_below P.sims j t to) (ap (λ (u : PlanSim). u.id) (got P.sims i s s at) ∙ same ∙ sym (ap (λ (u : PlanSim). u.id) (got P.sims j s t to))))
      by (inr (inr l)) = absurd (names.sims j i s l (get_below P.sims i s at) (ap (λ (u : PlanSim). u.id) (got P.sims j s t to) ∙ sym same ∙ sym (ap (λ (u : PlanSim). u.id) (got P.sims i s s at))))

module _ (P : Plan) (names : HasDistinctNames P) (refs : RefersInside P) where
  pub owner_there : (e : ℕ) → e < length P.entities → owner P e < length P.sims
  owner_there e low =
      let n = below_get P.entities e low in
      let m = below_get P.models n.0.model (all_at (λ (n : PlanEntity). (n.model < length P.models) × All (λ (r : ℕ). r < length P.entities) n.related) P.entities e n.0 refs.entities n.1).0 in
      let sim = all_at (λ (m : PlanModel). m.sim.0 < length P.sims) P.models n.0.model m.0 refs.models m.1 in
      rw (n.1, m.1) sim

  pub same_full : (d e : ℕ) → d < length P.entities → e < length P.entities → full_id P d ≡ full_id P e → d ≡ e
  same_full d e low high same =
      let s = below_get P.sims (owner P d) (owner_there d low) in
      let t = below_get P.sims (owner P e) (owner_there e high) in
      let si : sim_id P (owner P d) ≡ s.0.id = ap (λ (o : Option PlanSim). unwrap_or (option_map (λ (u : PlanSim). u.id) o) []) s.1 in
      let ti : sim_id P (owner P e) ≡ t.0.id = ap (λ (o : Option PlanSim). unwrap_or (option_map (λ (u : PlanSim). u.id) o) []) t.1 in
      let no_dots = λ (i : ℕ) (u : PlanSim) (at : slice_get P.sims i ≡ Some u). all_at (λ (u : PlanSim). All (λ (b : ℕ). b ≢ dot) u.id) P.sims i u names.no_dots at in
      let both = parts s.0.id t.0.id (eid_of P d) (eid_of P e) (no_dots (owner P d) s.0 s.1) (no_dots (owner P e) t.0 t.1) (sym (ap (λ (x : List ℕ). x ++ dot ∷ eid_of P d) si) ∙ sym (append_assoc (sim_id P (owner P d)) (dot ∷ []) (eid_of P d))
      ∙ same ∙ append_assoc (sim_id P (owner P e)) (dot ∷ []) (eid_of P e) ∙ ap (λ (x : List ℕ). x ++ dot ∷ eid_of P e) ti) in
      same_entity P names d e low high (same_sim P names (owner P d) (owner P e) s.0 t.0 s.1 t.1 both.0) both.1
