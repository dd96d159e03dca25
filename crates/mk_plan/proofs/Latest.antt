-- The latest of several deliveries: one that another overtakes does not matter.
use Rattle.std.proofs.Common.{◌≡◌, Bool, true, false, List, [], ◌∷◌, fold, Option, Some, None, refl, sym, ap, ◌∙◌, subst, inl, inr, true≢false, if◌then◌else◌}
use Rattle.mk_base.specs.declared.tier.Tier.{Tier}
use Rattle.mk_base.specs.Lists.{IsIn}
use Rattle.mk_base.specs.Tiers.{up_to, IsUpTo}
use Rattle.mk_base.proofs.TierOrder.{up_to_total, up_to_trans}
use Rattle.mk_plan.specs.Deliveries.{Timed}
use Rattle.mk_plan.specs.Inputs.{later}

above : (x y z : Tier) → up_to x y ≡ false → IsUpTo x z → IsUpTo y z
above x y z h k = up_to_trans y x z (up_to_total y x h) k

-- both are overtaken by d, so it doesn't matter which was best
either : (ts : List Timed) (u v d : Timed) → IsIn d ts → IsUpTo u.at d.at → IsUpTo v.at d.at → fold later (Some u) ts ≡ fold later (Some v) ts
either [] u v d m h k = absurd m
either (f ∷ ts) u v d (inl e) h k =
    let a : up_to u.at f.at ≡ true = subst (λ (w : Timed). up_to u.at w.at ≡ true) e h in
    let b : up_to v.at f.at ≡ true = subst (λ (w : Timed). up_to v.at w.at ≡ true) e k in
    ap (λ (c : Bool). fold later (if c then Some f else Some u) ts) a ∙ sym (ap (λ (c : Bool). fold later (if c then Some f else Some v) ts) b)
either (f ∷ ts) u v d (inr m) h k = go (λ x y p q. either ts x y d m p q) (up_to u.at f.at) (up_to v.at f.at) refl refl
  where
    go : ((x y : Timed) → IsUpTo x.at d.at → IsUpTo y.at d.at → fold later (Some x) ts ≡ fold later (Some y) ts)
        → (a b : Bool) → up_to u.at f.at ≡ a → up_to v.at f.at ≡ b → fold later (if a then Some f else Some u) ts ≡ fold later (if b then Some f else Some v) ts
    go rest true true p q = refl
    go rest true false p q = rest f v (above v.at f.at d.at q k) k
    go rest false true p q = rest u f h (above u.at f.at d.at p h)
    go rest false false p q = rest u v h k

-- a delivery that one of the list overtakes changes nothing
pub overtaken : (o : Option Timed) (ts : List Timed) (d e : Timed) → IsIn e ts → IsUpTo d.at e.at → fold later (later o d) ts ≡ fold later o ts
overtaken None [] d e m h = absurd m
overtaken None (f ∷ ts) d e m h = go (up_to d.at f.at) refl m
  where
    go : (a : Bool) → up_to d.at f.at ≡ a → IsIn e (f ∷ ts) → fold later (if a then Some f else Some d) ts ≡ fold later (Some f) ts
    go true p m = refl
    go false p (inl q) = absurd (true≢false (sym (subst (λ (w : Timed). up_to d.at w.at ≡ true) q h) ∙ p))
    go false p (inr m) = either ts d f e m h (above d.at f.at e.at p h)
overtaken (Some best) ts d e m h = go (up_to best.at d.at) refl
  where
    go : (a : Bool) → up_to best.at d.at ≡ a → fold later (if a then Some d else Some best) ts ≡ fold later (Some best) ts
    go true p = either ts d best e m h (up_to_trans best.at d.at e.at p h)
    go false p = refl
