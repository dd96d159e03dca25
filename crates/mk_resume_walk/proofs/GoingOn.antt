-- What is free goes on with each message, and at last is all.
use Rattle.std.proofs.Common.{◌≡◌, ℕ, zero, suc, ◌+◌, ◌<◌, ◌≤◌, List, [], ◌∷◌, length, take, refl, sym, ap, ◌∙◌, subst, arith}
use Rattle.mk_plan.specs.declared.Entry.{Entry}
use Rattle.mk_plan.specs.Journals.{sent, got}
use Rattle.mk_resume_walk.specs.Talks.{up_to, free_items}
use Rattle.mk_resume_walk.specs.Laws.{FreeItemsGoOn, WalksGoOn}
use Rattle.mk_resume_walk.specs.Walks.{IsGoneTo}
use Rattle.mk_resume_walk.proofs.Passing.{walk_begins, walk_ends, walk_goes_on, walk_sends, walk_waits}
use Rattle.mk_resume_walk.proofs.UpTo.{IsNextAfter, free_all, free_front, free_next, next_after, up_to_got}

pub take_counted : {X : Type 0} (n : ℕ) (xs : List X) → n ≤ length xs → length (take n xs) ≡ n
take_counted zero xs few = refl
take_counted (suc n) [] few = absurd (let g : suc n ≤ 0 = few in omega (arith, g))
take_counted (suc n) (x ∷ xs) few = ap suc (take_counted n xs (let g : suc n ≤ suc (length xs) = few in omega (arith, g)))

-- the part up to the next message has so many messages
pub up_to_counted : (J : List Entry) (i n : ℕ) → n < length (got J i) → n ≡ length (got (up_to i n J) i)
up_to_counted J i n more = sym (ap length (up_to_got i n J) ∙ take_counted n (got J i) (omega (arith, more)))

pub free_go_on : FreeItemsGoOn
free_go_on = record {
  next = λ J i n more. let t : IsNextAfter i n J = next_after i n J more in
      (sent (up_to i 0 t.later) i, ap (free_items J i) (let one : n + 1 ≡ suc n = omega arith in one) ∙ free_next J i n t (up_to_counted J i n more));
  all = free_all;
  first = free_front;
}

pub walk_laws : WalksGoOn
walk_laws = record {
  begins = λ J i. walk_begins i J;
  sends = λ J i n from g between later s item is none own. walk_sends i J n from g between s item later is none own;
  waits = λ J i n from g between later s m is none own. walk_waits i J n from g between s m later is none own;
  goes_on = λ J i n p t more. let h = walk_goes_on i J n p t (up_to_counted J i n more) in
      subst (λ (k : ℕ). (h : IsGoneTo J i k (p + 1)) × (sent h.gone i ≡ free_items J i n)) (let one : suc n ≡ n + 1 = omega arith in one) h;
  ends = λ J i n from g none. walk_ends i J n from g none;
}
