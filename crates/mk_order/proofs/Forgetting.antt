-- A value that is overtaken by another up to a mark is chosen at no time from the mark on.
use Rattle.std.proofs.Common.{◌≡◌, Bool, true, false, List, [], ◌∷◌, fold, Option, Some, refl, sym, ap, ◌∙◌, subst, ◌⊎◌, inl, inr, true≢false, if◌then◌else◌}
use Rattle.mk_base.specs.Lists.{IsIn}
use Rattle.mk_base.specs.Tiers.{up_to, IsUpTo, IsBefore}
use Rattle.mk_base.proofs.TierOrder.{up_to_self, up_to_total, up_to_trans}
use Rattle.mk_plan.specs.Deliveries.{Timed}
use Rattle.mk_plan.specs.Inputs.{later, latest}

-- the best so far is at or after all
best_after : (ts : List Timed) (u e : Timed) → IsIn e ts ⊎ IsUpTo e.at u.at → (best : Timed) × (fold later (Some u) ts ≡ Some best) × IsUpTo e.at best.at
best_after [] u e (inl m) = absurd m
best_after [] u e (inr h) = (u, refl, h)
best_after (f ∷ ts) u e h = go (λ x k. best_after ts x e k) (up_to u.at f.at) refl h
  where
    go : ((x : Timed) → IsIn e ts ⊎ IsUpTo e.at x.at → (best : Timed) × (fold later (Some x) ts ≡ Some best) × IsUpTo e.at best.at)
        → (a : Bool) → up_to u.at f.at ≡ a → IsIn e (f ∷ ts) ⊎ IsUpTo e.at u.at → (best : Timed) × (fold later (if a then Some f else Some u) ts ≡ Some best) × IsUpTo e.at best.at
    go rest true p (inl (inl q)) = rest f (inr (subst (λ (w : Timed). up_to e.at w.at ≡ true) q (up_to_self e.at)))
    go rest true p (inl (inr m)) = rest f (inl m)
    go rest true p (inr k) = rest f (inr (up_to_trans e.at u.at f.at k p))
    go rest false p (inl (inl q)) = rest u (inr (subst (λ (w : Timed). up_to w.at u.at ≡ true) (sym q) (up_to_total f.at u.at p)))
    go rest false p (inl (inr m)) = rest u (inl m)
    go rest false p (inr k) = rest u (inr k)

lesser : (ts : List Timed) (e d : Timed) → IsIn e ts → IsBefore d.at e.at → later (latest ts) d ≡ latest ts
lesser [] e d m h = absurd m
lesser (f ∷ ts) e d m h =
    let t = best_after ts f e (first m) in
    let not : up_to t.0.at d.at ≡ false = below t.0 (up_to t.0.at d.at) refl t.2 in
    ap (λ (o : Option Timed). later o d) t.1 ∙ ap (λ (c : Bool). if c then Some d else Some t.0) not ∙ sym t.1
  where
    first : IsIn e (f ∷ ts) → IsIn e ts ⊎ IsUpTo e.at f.at
    first (inl q) = inr (subst (λ (w : Timed). up_to e.at w.at ≡ true) q (up_to_self e.at))
    first (inr m) = inl m

    below : (best : Timed) (c : Bool) → up_to best.at d.at ≡ c → IsUpTo e.at best.at → up_to best.at d.at ≡ false
    below best true p k = absurd (true≢false (sym (up_to_trans e.at best.at d.at k p) ∙ h))
    below best false p k = p
