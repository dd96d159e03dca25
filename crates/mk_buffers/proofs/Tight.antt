-- Outlets that hold few outputs go on to do so while nothing of them changes, and as the mark rises.
use Rattle.std.proofs.Common.{◌≡◌, ◌≢◌, inl, inr, ℕ, zero, suc, ◌+◌, ◌<◌, ◌≤◌, ℤ, false, List, [], ◌∷◌, length, Option, Some, None, slice_get, slice_set, unwrap_or, sym, ap, subst, ◌∙◌, arith}
use Rattle.std.specs.List.{sum_by}
use Rattle.std.proofs.lemmas.List.Sums.{sum_by-cons}
use Rattle.mk_base.specs.declared.tier.Tier.{Tier}
use Rattle.mk_base.specs.Lists.{IsIn}
use Rattle.mk_base.specs.Tiers.{IsUpTo}
use Rattle.mk_base.proofs.TierOrder.{up_to_self, up_to_trans}
use Rattle.mk_base.proofs.Lists.{some_same, set_here, set_else, below_get}
use Rattle.mk_plan.specs.declared.Plan.{Plan}
use Rattle.mk_buffers.specs.declared.outlets.Outlet.{Outlet}
use Rattle.mk_buffers.specs.declared.buffers.Buffers.{Buffers}
use Rattle.mk_buffers_log.specs.Logs.{IsFew, StaysFew, is_due}
use Rattle.mk_buffers.specs.Bounds.{HasShape}
use Rattle.mk_buffers.specs.Standing.{IsSwept, next_of}
use Rattle.mk_buffers_log.proofs.Places.{below_or_same}

pub swept_same : (b n : Buffers) (mark : Tier) (k : ℕ) → n.outlets.items ≡ b.outlets.items → n.feeds ≡ b.feeds → n.next_marks ≡ b.next_marks → n.until ≡ b.until → IsSwept mark k b → IsSwept mark k n
swept_same b n mark k outs feeds next ends s = record {
  few = λ i o at low. subst (λ (u : ℤ). IsFew o.vias.items u mark o.log) (sym ends) (s.few i o (back i o at) low);
  stays = λ i o at. subst (λ (u : ℤ). StaysFew o.vias.items u mark (next_of n o.sim) o.log) (sym ends)
      (subst (λ (q : Option Tier). StaysFew o.vias.items b.until mark q o.log) (sym (λ j. unwrap_or (slice_get (next j).items o.sim) None)) (s.stays i o (back i o at)));
  looked = λ i o at. let l = s.looked i o (back i o at) in record {
    part = l.part;
    at_sim = (λ j. slice_get (feeds j).items o.sim) ∙ l.at_sim;
    first = l.first;
    end = l.end;
    noted = let count : length n.next_marks.items ≡ length b.next_marks.items = (λ j. length (next j).items) in omega (arith, l.noted, count);
  };
}
  where
    back : (i : ℕ) (o : Outlet) → slice_get n.outlets.items i ≡ Some o → slice_get b.outlets.items i ≡ Some o
    back i o at = sym (λ j. slice_get (outs j) i) ∙ at

pub swept_rises : (b : Buffers) (mark up : Tier) (k : ℕ) → IsUpTo mark up → IsSwept mark k b → IsSwept up 0 b
swept_rises b mark up k h s = record {
  few = λ i o at low. absurd (omega (arith, low));
  stays = λ i o at m above due. s.stays i o at m (up_to_trans mark up m h above) due;
  looked = s.looked;
}

pub swept_less : (b : Buffers) (mark : Tier) (k l : ℕ) → l ≤ k → IsSwept mark k b → IsSwept mark l b
swept_less b mark k l h s = record { few = λ i o at low. s.few i o at (omega (arith, h, low)); stays = s.stays; looked = s.looked }

pub swept_at : (b : Buffers) (mark now : Tier) (k : ℕ) → now ≡ mark → IsSwept mark k b → IsSwept now k b
swept_at b mark now k same s = subst (λ (m : Tier). IsSwept m k b) (sym same) s

-- where nothing of a simulator is due, nothing needs to be done
pub swept_skip : (b : Buffers) (mark : Tier) (s : ℕ) → is_due (next_of b s) mark ≡ false → IsSwept mark s b → IsSwept mark (s + 1) b
swept_skip b mark s due w = record {
  few = λ i o at low. elim (below_or_same o.sim s low) [
    | inl q ↦ w.stays i o at mark (up_to_self mark) (ap (λ (r : ℕ). is_due (next_of b r) mark) q ∙ due)
    | inr l ↦ w.few i o at l
  ];
  stays = w.stays;
  looked = w.looked;
}

-- outlets of the same attributes with the same delays
pub shape_same : (P : Plan) (os ns : List Outlet) → ((i : ℕ) (n : Outlet) → slice_get ns i ≡ Some n → (o : Outlet) × (slice_get os i ≡ Some o) × (n.entity ≡ o.entity) × (n.attr ≡ o.attr) × (n.vias.items ≡ o.vias.items))
    → sum_by (λ o. length o.vias.items) ns ≡ sum_by (λ o. length o.vias.items) os → HasShape P os → HasShape P ns
shape_same P os ns back total h = record {
  taken = λ i n at. let o = back i n at in let c = h.taken i o.0 o.1 in (c.0, c.1, o.2 ∙ c.2, o.3 ∙ c.3);
  delays = λ i n v at m. let o = back i n at in let c = h.delays i o.0 v o.1 (subst (IsIn v) o.4 m) in (c.0, c.1, o.2 ∙ c.2, o.3 ∙ c.3, c.4);
  few = omega (arith, total, h.few);
}

pub sum_set : {X : Type 0} (f : X → ℕ) (xs : List X) (i : ℕ) (x y : X) → slice_get xs i ≡ Some x → f y ≡ f x → sum_by f (slice_set xs i y) ≡ sum_by f xs
sum_set f [] i x y at h = cc
sum_set f (z ∷ zs) zero x y at h = let own = ap f (some_same at) in omega (arith, sum_by-cons f y zs, sum_by-cons f z zs, h, own)
sum_set f (z ∷ zs) (suc i) x y at h = omega (arith, sum_by-cons f z (slice_set zs i y), sum_by-cons f z zs, sum_set f zs i x y at h)

pub sum_set_more : {X : Type 0} (f : X → ℕ) (xs : List X) (i : ℕ) (x y : X) → slice_get xs i ≡ Some x → f y ≤ f x + 1 → sum_by f (slice_set xs i y) ≤ sum_by f xs + 1
sum_set_more f [] i x y at h = cc
sum_set_more f (z ∷ zs) zero x y at h = let own = ap f (some_same at) in omega (arith, sum_by-cons f y zs, sum_by-cons f z zs, h, own)
sum_set_more f (z ∷ zs) (suc i) x y at h = omega (arith, sum_by-cons f z (slice_set zs i y), sum_by-cons f z zs, sum_set_more f zs i x y at h)

-- the next mark of a simulator, once it is set
pub next_here : (b n : Buffers) (s : ℕ) (next : Option Tier) → s < length b.next_marks.items → n.next_marks.items ≡ slice_set b.next_marks.items s next → next_of n s ≡ next
next_here b n s next low set = let old = below_get b.next_marks.items s low in ap (λ l. unwrap_or (slice_get l s) None) set ∙ ap (λ (o : Option (Option Tier)). unwrap_or o None) (set_here b.next_marks.items s next old.0 old.1)

pub next_else : (b n : Buffers) (s r : ℕ) (next : Option Tier) → r ≢ s → n.next_marks.items ≡ slice_set b.next_marks.items s next → next_of n r ≡ next_of b r
next_else b n s r next apart set = ap (λ l. unwrap_or (slice_get l r) None) set ∙ ap (λ (o : Option (Option Tier)). unwrap_or o None) (set_else b.next_marks.items s r next apart)
