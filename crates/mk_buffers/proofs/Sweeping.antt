-- Outlets hold few outputs after they have given up what they may.
use Rattle.std.proofs.Common.{◌≡◌, ◌≢◌, ◌⊎◌, inl, inr, ℕ, ◌+◌, ◌<◌, ◌≤◌, ℤ, false, List, length, Option, Some, None, slice_get, slice_set, unwrap_or, refl, sym, ap, subst, ◌∙◌, arith}
use Rattle.mk_base.specs.declared.tier.Tier.{Tier}
use Rattle.mk_base.specs.declared.tier.Via.{Via}
use Rattle.mk_base.proofs.Lists.{some_same, get_is, set_here, set_else, length_set}
use Rattle.mk_buffers.specs.declared.outlets.Outlet.{Outlet}
use Rattle.mk_buffers.specs.declared.outlets.Part.{Part}
use Rattle.mk_buffers.specs.declared.buffers.Buffers.{Buffers}
use Rattle.mk_buffers.specs.inner.Held.{AreThinned, IsThinned}
use Rattle.mk_buffers_log.specs.Logs.{IsFew, StaysFew, is_due}
use Rattle.mk_buffers.specs.Standing.{IsSwept, next_of}
use Rattle.mk_buffers.specs.inner.Standing.{IsPartSwept, IsSweptAt, IsLookedAgain, IsNoted, HasNoted, HasThinned}
use Rattle.mk_buffers_log.proofs.Places.{apart_or_same, below_or_same}
use Rattle.mk_buffers_log.proofs.Keeping.{few_among}
use Rattle.mk_buffers.proofs.Standing.{thinned_at}
use Rattle.mk_buffers.proofs.Tight.{next_here, next_else}

-- what is noted changes no outlet
pub thinned_noted : (mark : Tier) (a b n : Buffers) → HasThinned mark a b → IsNoted b n → HasThinned mark a n
thinned_noted mark a b n f g = record {
  outlets = subst (λ v. AreThinned a.until mark a.outlets.items v.items) (sym g.outlets) f.outlets;
  homes = g.homes ∙ f.homes;
  until = g.until ∙ f.until;
  marks = g.marks ∙ f.marks;
  inlets = g.inlets ∙ f.inlets;
  sets = g.sets ∙ f.sets;
  feeds = g.feeds ∙ f.feeds;
}

-- what has been given up leaves few
few_thinned : (until : ℤ) (mark m : Tier) (o n : Outlet) → IsThinned until mark o n → IsFew o.vias.items until m o.log → IsFew n.vias.items until m n.log
few_thinned until mark m o n t few = subst (λ (vs : List Via). IsFew vs until m n.log) (sym t.vias) (few_among o.vias.items until m n.log o.log t.among few)

-- the outlets of a simulator have given up what they may
pub swept_part : (mark : Tier) (s : ℕ) (old mid new : Buffers) (part : Part) (next : Option Tier) → HasThinned mark old mid → mid.next_marks ≡ old.next_marks → IsPartSwept mark part next mid → slice_get old.feeds.items s ≡ Some part
    → IsNoted mid new → IsLookedAgain s next mid new → IsSwept mark s old → IsSwept mark (s + 1) new
swept_part mark s old mid new part next thin marks swept at_part noted again w = record {
  few = λ i o at low. let p = was i o at in subst (λ (u : ℤ). IsFew o.vias.items u mark o.log) (sym ends) (few_of i o at low p.0 p.1 p.2 (apart_or_same o.sim s));
  stays = λ i o at. let p = was i o at in subst (λ (u : ℤ). StaysFew o.vias.items u mark (next_of new o.sim) o.log) (sym ends) (stays_of i o at p.0 p.1 p.2 (apart_or_same o.sim s));
  looked = λ i o at. let p = was i o at in let l = w.looked i p.0 p.1 in record {
    part = l.part;
    at_sim = (λ j. slice_get (feeds j).items (p.2.sim j)) ∙ l.at_sim;
    first = l.first;
    end = l.end;
    noted = let count = length_now in omega (arith, l.noted, count, p.2.sim);
  };
}
  where
    feeds : new.feeds ≡ old.feeds
    feeds = noted.feeds ∙ thin.feeds

    ends : new.until ≡ old.until
    ends = noted.until ∙ thin.until

    mid_at : (i : ℕ) (o : Outlet) → slice_get new.outlets.items i ≡ Some o → slice_get mid.outlets.items i ≡ Some o
    mid_at i o at = sym (λ j. slice_get (noted.outlets j).items i) ∙ at

    was : (i : ℕ) (o : Outlet) → slice_get new.outlets.items i ≡ Some o → (p : Outlet) × (slice_get old.outlets.items i ≡ Some p) × IsThinned old.until mark p o
    was i o at = thinned_at old.until mark old.outlets.items mid.outlets.items i o thin.outlets (mid_at i o at)

    low_or : (n k : ℕ) → (k < n) ⊎ (n ≤ k)
    low_or n k = grind arith

    mid_count : length mid.next_marks.items ≡ length old.next_marks.items
    mid_count = λ j. length (marks j).items

    length_now : length new.next_marks.items ≡ length old.next_marks.items
    length_now = elim (low_or (length mid.next_marks.items) s) [
      | inl l ↦ ap length (again.here l) ∙ length_set mid.next_marks.items s next ∙ mid_count
      | inr l ↦ (λ j. length (again.past l j).items) ∙ mid_count
    ]

    inside : (i : ℕ) (o p : Outlet) → slice_get old.outlets.items i ≡ Some p → IsThinned old.until mark p o → o.sim ≡ s → (part.first ≤ i) × (i < part.end) × (s < length mid.next_marks.items)
    inside i o p at t q =
        let l = w.looked i p at in
        let sim : p.sim ≡ s = sym t.sim ∙ q in
        let one : l.part ≡ part = some_same (sym l.at_sim ∙ ap (slice_get old.feeds.items) sim ∙ at_part) in
        (subst (λ (r : Part). r.first ≤ i) one l.first, subst (λ (r : Part). i < r.end) one l.end, omega (arith, l.noted, sim, mid_count))

    few_of : (i : ℕ) (o : Outlet) → slice_get new.outlets.items i ≡ Some o → o.sim < s + 1 → (p : Outlet) → slice_get old.outlets.items i ≡ Some p → IsThinned old.until mark p o → (o.sim ≡ s) ⊎ (o.sim ≢ s) → IsFew o.vias.items old.until mark o.log
    few_of i o at low p before t (inl q) = let r = inside i o p before t q in subst (λ (u : ℤ). IsFew o.vias.items u mark o.log) thin.until (swept.few i o (mid_at i o at) r.0 r.1)
    few_of i o at low p before t (inr a) = few_thinned old.until mark mark p o t (w.few i p before (elim (below_or_same o.sim s low) [ inl q ↦ absurd (a q) | inr l ↦ omega (arith, l, t.sim) ]))

    next_apart : (r : ℕ) → r ≢ s → next_of new r ≡ next_of old r
    next_apart r away = elim (low_or (length mid.next_marks.items) s) [
      | inl l ↦ next_else mid new s r next away (again.here l) ∙ (λ j. unwrap_or (slice_get (marks j).items r) None)
      | inr l ↦ (λ j. unwrap_or (slice_get (again.past l j).items r) None) ∙ (λ j. unwrap_or (slice_get (marks j).items r) None)
    ]

    stays_of : (i : ℕ) (o : Outlet) → slice_get new.outlets.items i ≡ Some o → (p : Outlet) → slice_get old.outlets.items i ≡ Some p → IsThinned old.until mark p o → (o.sim ≡ s) ⊎ (o.sim ≢ s) → StaysFew o.vias.items old.until mark (next_of new o.sim) o.log
    stays_of i o at p before t (inl q) =
        let r = inside i o p before t q in
        let now : next_of new o.sim ≡ next = ap (next_of new) q ∙ next_here mid new s next r.2 (again.here r.2) in
        subst (λ (n : Option Tier). StaysFew o.vias.items old.until mark n o.log) (sym now) (subst (λ (u : ℤ). StaysFew o.vias.items u mark next o.log) thin.until (swept.stays i o (mid_at i o at) r.0 r.1))
    stays_of i o at p before t (inr a) = λ m above due.
        let now : next_of new o.sim ≡ next_of old p.sim = next_apart o.sim a ∙ ap (next_of old) t.sim in
        few_thinned old.until mark m p o t (w.stays i p before m above (ap (λ (n : Option Tier). is_due n m) (sym now) ∙ due))

-- an outlet is noted
pub noted_here : (b n : Buffers) (i s : ℕ) (o : Outlet) (left next : Option Tier) → IsLookedAgain s next b n → slice_get b.outlets.items i ≡ Some o → o.sim ≡ s
    → ((m : Tier) → is_due next m ≡ false → is_due (next_of b s) m ≡ false) → ((m : Tier) → is_due next m ≡ false → is_due left m ≡ false)
    → (IsFew o.vias.items b.until b.marks.least o.log → StaysFew o.vias.items b.until b.marks.least left o.log) → HasNoted i b n
noted_here b n i s o left next again at sim old new stays = record {
  count = elim (low_or (length b.next_marks.items) s) [
    | inl l ↦ ap length (again.here l) ∙ length_set b.next_marks.items s next
    | inr l ↦ (λ j. length (again.past l j).items)
  ];
  earlier = λ r m due. elim (low_or (length b.next_marks.items) s) [
    | inl l ↦ by_place r m l due (apart_or_same r s)
    | inr l ↦ sym (λ j. is_due (unwrap_or (slice_get (again.past l j).items r) None) m) ∙ due
  ];
  here = λ q place low few. let same : o ≡ q = some_same (sym at ∙ place) in
      subst (λ (p : Outlet). StaysFew p.vias.items b.until b.marks.least (next_of n p.sim) p.log) same
      (λ m above due. stays (subst (λ (p : Outlet). IsFew p.vias.items b.until b.marks.least p.log) (sym same) few) m above
      (new m (ap (λ (t : Option Tier). is_due t m) (sym (ap (next_of n) sim ∙ next_here b n s next (here_low q same low) (again.here (here_low q same low)))) ∙ due)));
}
  where
    low_or : (n k : ℕ) → (k < n) ⊎ (n ≤ k)
    low_or n k = grind arith

    here_low : (q : Outlet) → o ≡ q → q.sim < length b.next_marks.items → s < length b.next_marks.items
    here_low q same low = let one : q.sim ≡ s = sym (ap (λ (p : Outlet). p.sim) same) ∙ sim in omega (arith, low, one)

    by_place : (r : ℕ) (m : Tier) → s < length b.next_marks.items → is_due (next_of n r) m ≡ false → (r ≡ s) ⊎ (r ≢ s) → is_due (next_of b r) m ≡ false
    by_place r m l due (inl q) = ap (λ (k : ℕ). is_due (next_of b k) m) q ∙ old m (sym (ap (λ (t : Option Tier). is_due t m) (ap (next_of n) q ∙ next_here b n s next l (again.here l))) ∙ due)
    by_place r m l due (inr a) = sym (ap (λ (t : Option Tier). is_due t m) (next_else b n s r next a (again.here l))) ∙ due

-- what stands at a place behind all has given up what it may
pub swept_past : (mark : Tier) (i : ℕ) (next : Option Tier) (b : Buffers) → length b.outlets.items ≤ i → IsSweptAt mark i next b b
swept_past mark i next b past = record {
  few = λ o at. absurd (let low = (get_is b.outlets.items i o at).0 in omega (arith, low, past));
  stays = λ o at. absurd (let low = (get_is b.outlets.items i o at).0 in omega (arith, low, past));
  others = λ j apart. refl;
  next_marks = refl;
}

-- an outlet that has given up what it may stands at its place
pub swept_place : (mark : Tier) (i : ℕ) (next : Option Tier) (b n : Buffers) (o p : Outlet) → slice_get b.outlets.items i ≡ Some o → n.outlets.items ≡ slice_set b.outlets.items i p → n.next_marks ≡ b.next_marks
    → IsFew p.vias.items n.until mark p.log → StaysFew p.vias.items n.until mark next p.log → IsSweptAt mark i next b n
swept_place mark i next b n o p old set marks few stays = record {
  few = λ q at. subst (λ (r : Outlet). IsFew r.vias.items n.until mark r.log) (it q at) few;
  stays = λ q at. subst (λ (r : Outlet). StaysFew r.vias.items n.until mark next r.log) (it q at) stays;
  others = λ j apart. ap (λ (l : List Outlet). slice_get l j) set ∙ set_else b.outlets.items i j p apart;
  next_marks = marks;
}
  where
    it : (q : Outlet) → slice_get n.outlets.items i ≡ Some q → p ≡ q
    it q at = some_same (sym (ap (λ (l : List Outlet). slice_get l i) set ∙ set_here b.outlets.items i p o old) ∙ at)

-- an outlet after the other of a part
pub part_none : (mark : Tier) (first : ℕ) (next : Option Tier) (b : Buffers) → IsPartSwept mark (record { first = first; end = first }) next b
part_none mark first next b = record { few = λ i o at low high. absurd (omega (arith, low, high)); stays = λ i o at low high. absurd (omega (arith, low, high)) }

pub part_more : (mark : Tier) (first place : ℕ) (next one both : Option Tier) (b n : Buffers) → n.until ≡ b.until → IsSweptAt mark place one b n
    → ((m : Tier) → is_due both m ≡ false → is_due next m ≡ false) → ((m : Tier) → is_due both m ≡ false → is_due one m ≡ false)
    → IsPartSwept mark (record { first = first; end = place }) next b → IsPartSwept mark (record { first = first; end = place + 1 }) both n
part_more mark first place next one both b n ends swept before own part = record {
  few = λ i o at low high. few_of i o at low high (apart_or_same i place);
  stays = λ i o at low high. stays_of i o at low high (apart_or_same i place);
}
  where
    below : (i : ℕ) → i < place + 1 → i ≢ place → i < place
    below i h a = elim (below_or_same i place h) [ inl q ↦ absurd (a q) | inr l ↦ l ]

    few_of : (i : ℕ) (o : Outlet) → slice_get n.outlets.items i ≡ Some o → first ≤ i → i < place + 1 → (i ≡ place) ⊎ (i ≢ place) → IsFew o.vias.items n.until mark o.log
    few_of i o at low high (inl q) = swept.few o (ap (slice_get n.outlets.items) (sym q) ∙ at)
    few_of i o at low high (inr a) = subst (λ (u : ℤ). IsFew o.vias.items u mark o.log) (sym ends) (part.few i o (sym (swept.others i a) ∙ at) low (below i high a))

    stays_of : (i : ℕ) (o : Outlet) → slice_get n.outlets.items i ≡ Some o → first ≤ i → i < place + 1 → (i ≡ place) ⊎ (i ≢ place) → StaysFew o.vias.items n.until mark both o.log
    stays_of i o at low high (inl q) = λ m above due. swept.stays o (ap (slice_get n.outlets.items) (sym q) ∙ at) m above (own m due)
    stays_of i o at low high (inr a) = λ m above due. subst (λ (u : ℤ). IsFew o.vias.items u m o.log) (sym ends) (part.stays i o (sym (swept.others i a) ∙ at) low (below i high a) m above (before m due))

pub part_all : (mark : Tier) (first place end : ℕ) (next : Option Tier) (b : Buffers) → end ≤ place → IsPartSwept mark (record { first = first; end = place }) next b → IsPartSwept mark (record { first = first; end = end }) next b
part_all mark first place end next b all part = record { few = λ i o at low high. part.few i o at low (omega (arith, high, all)); stays = λ i o at low high. part.stays i o at low (omega (arith, high, all)) }
