-- The least mark, found one by one and kept as marks rise.
use Rattle.std.proofs.Common.{◌≡◌, inl, inr, ℕ, zero, suc, ◌+◌, ◌<◌, ◌≤◌, if◌then◌else◌, Bool, true, false, List, [], ◌∷◌, ◌++◌, pos, length, Option, Some, None, slice_get, slice_set, get_or, unwrap_or, refl, sym, ap, subst, ◌∙◌, arith, true≢false}
use Rattle.mk_base.specs.declared.tier.Tier.{Tier}
use Rattle.mk_base.specs.Tiers.{up_to, IsUpTo, moment}
use Rattle.mk_base.proofs.TierOrder.{up_to_self, up_to_total, up_to_trans, up_to_antisym}
use Rattle.mk_base.proofs.Lists.{some_same, below_get, get_is, set_here, set_else, length_set}
use Rattle.mk_buffers.specs.Marking.{Marked, IsLow, IsLeastMark}
use Rattle.mk_buffers.specs.inner.Marking.{AreStarts, IsLeastOf, IsNoneOf, IsBest, Raised, HoldsLeast}
use Rattle.mk_buffers_log.proofs.Places.{apart_or_same, below_or_same, get_some}

pub low_lifted : (marks : List Tier) (asks : List Bool) (least : Tier) (sim : ℕ) (x : Tier) → IsLow marks asks least → sim < length marks → ((m : Tier) → slice_get marks sim ≡ Some m → IsUpTo m x) → IsLow (slice_set marks sim x) asks least
low_lifted marks asks least sim x low there higher s m asking is = elim (apart_or_same s sim) [
  | inl same ↦ let old = below_get marks sim there in
      let at : slice_get (slice_set marks sim x) sim ≡ Some x = set_here marks sim x old.0 old.1 in
      subst (IsUpTo least) (some_same (sym at ∙ ap (slice_get (slice_set marks sim x)) (sym same) ∙ is))
      (up_to_trans least old.0 x (low sim old.0 (ap (slice_get asks) (sym same) ∙ asking) old.1) (higher old.0 old.1))
  | inr apart ↦ low s m asking (sym (set_else marks sim s x apart) ∙ is)
]

pub skipped : (marks : List Tier) (asks : List Bool) (n : ℕ) (o : Option ℕ) → IsBest marks asks n o → slice_get asks n ≡ Some false → IsBest marks asks (n + 1) o
skipped marks asks n None best off = λ s h. elim (below_or_same s n h) [ inl same ↦ ap (slice_get asks) same ∙ off | inr less ↦ best s less ]
skipped marks asks n (Some i) best off = record {
  asking = best.asking;
  below = let b = best.below in omega arith;
  least = λ s m k h asking is own. elim (below_or_same s n h) [
    | inl same ↦ absurd (true≢false (some_same (sym asking ∙ ap (slice_get asks) same ∙ off)))
    | inr less ↦ best.least s m k less asking is own
  ];
}

pub next_best : (marks : List Tier) (asks : List Bool) (n i : ℕ) (m k : Tier) → slice_get asks n ≡ Some true → IsLeastOf marks asks n i → slice_get marks n ≡ Some m → slice_get marks i ≡ Some k → up_to m k ≡ true → IsLeastOf marks asks (n + 1) n
next_best marks asks n i m k on best here there less = record {
  asking = on;
  below = omega arith;
  least = λ s l j h asking is own. let mine : m ≡ j = some_same (sym here ∙ own) in elim (below_or_same s n h) [
    | inl same ↦ subst (IsUpTo j) (some_same (sym own ∙ ap (slice_get marks) (sym same) ∙ is)) (up_to_self j)
    | inr low ↦ subst (λ (t : Tier). IsUpTo t l) mine (up_to_trans m k l less (best.least s l k low asking is there))
  ];
}

pub kept_best : (marks : List Tier) (asks : List Bool) (n i : ℕ) (m k : Tier) → IsLeastOf marks asks n i → slice_get marks n ≡ Some m → slice_get marks i ≡ Some k → up_to m k ≡ false → IsLeastOf marks asks (n + 1) i
kept_best marks asks n i m k best here there more = record {
  asking = best.asking;
  below = let b = best.below in omega arith;
  least = λ s l j h asking is own. let mine : k ≡ j = some_same (sym there ∙ own) in elim (below_or_same s n h) [
    | inl same ↦ subst (λ (t : Tier). IsUpTo t l) mine (subst (IsUpTo k) (some_same (sym here ∙ ap (slice_get marks) (sym same) ∙ is)) (up_to_total k m more))
    | inr low ↦ best.least s l j low asking is own
  ];
}

-- the least of all that ask is low
pub low_least : (marks : List Tier) (asks : List Bool) (n i : ℕ) (k : Tier) → IsLeastOf marks asks n i → n ≡ length marks → slice_get marks i ≡ Some k → IsLow marks asks k
low_least marks asks n i k best all own s m asking is = best.least s m k (subst (λ (l : ℕ). s < l) (sym all) (get_is marks s m is).0) asking is own

pub raised_not : (sim : ℕ) (x : Tier) (old : Marked) (m : Tier) → IsLeastMark old → slice_get old.marks sim ≡ Some m → up_to x m ≡ true → Raised sim x false old old
raised_not sim x old m exact is h = record {
  asks = refl;
  count = refl;
  others = λ s apart. refl;
  here = λ k at. let same : m ≡ k = some_same (sym is ∙ at) in at ∙ ap Some (sym (ap (λ (c : Bool). if c then k else x) (ap (up_to x) (sym same) ∙ h)));
  exact = exact;
  up = up_to_self old.least;
  same = λ e. refl;
}

pub raised : (sim : ℕ) (x : Tier) (rose : Bool) (old new : Marked) (m : Tier) → IsLeastMark new → sim < length old.marks → slice_get old.marks sim ≡ Some m → up_to x m ≡ false → new.marks ≡ slice_set old.marks sim x → new.asks ≡ old.asks → IsUpTo old.least new.least → (rose ≡ false → new.least ≡ old.least) → Raised sim x rose old new
raised sim x rose old new m exact there is more marks asks up same = record {
  asks = asks;
  count = ap length marks ∙ length_set old.marks sim x;
  others = λ s apart. ap (λ (l : List Tier). slice_get l s) marks ∙ set_else old.marks sim s x apart;
  here = λ k at. let one : m ≡ k = some_same (sym is ∙ at) in
      ap (λ (l : List Tier). slice_get l sim) marks ∙ set_here old.marks sim x m is ∙ ap Some (sym (ap (λ (c : Bool). if c then k else x) (ap (up_to x) (sym one) ∙ more)));
  exact = exact;
  up = up;
  same = same;
}

-- ---- the least mark is exact

pub exact_lifted : (marks : List Tier) (asks : List Bool) (least : Tier) (holder sim : ℕ) (x : Tier) → (holder ≡ sim → ⊥) → HoldsLeast marks asks least holder → HoldsLeast (slice_set marks sim x) asks least holder
exact_lifted marks asks least holder sim x apart h s on = let t = h s on in (t.0, set_else marks sim holder x apart ∙ t.1)

pub exact_of : (marks : List Tier) (asks : List Bool) (least : Tier) (holder : ℕ) → IsLow marks asks least → HoldsLeast marks asks least holder → IsLeastMark (record { marks = marks; asks = asks; least = least })
exact_of marks asks least holder low h = record { low = low; held = λ s on. let t = h s on in (holder, t.0, t.1) }

-- the best of all holds the least mark, which its own is
pub holds_best : (marks : List Tier) (asks : List Bool) (n i : ℕ) (k : Tier) → IsLeastOf marks asks n i → slice_get marks i ≡ Some k → HoldsLeast marks asks k i
holds_best marks asks n i k best is s on = (best.asking, is)

pub holds_none : (marks : List Tier) (asks : List Bool) (n : ℕ) (least : Tier) (holder : ℕ) → IsNoneOf asks n → length asks ≤ n → HoldsLeast marks asks least holder
holds_none marks asks n least holder none all s on = absurd (true≢false (some_same (sym on ∙ none s (let g = (get_is asks s true on).0 in omega (arith, g, all)))))

-- where the lowest mark is no higher than a low one, it is that
pub low_is : (marks : List Tier) (asks : List Bool) (n i : ℕ) (k least : Tier) → IsLeastOf marks asks n i → slice_get marks i ≡ Some k → IsLow marks asks least → up_to k least ≡ true → k ≡ least
low_is marks asks n i k least best is low less = up_to_antisym k least less (low i k best.asking is)

pub low_starts : (marks : List Tier) (asks : List Bool) → AreStarts marks → IsLow marks asks (moment (pos 0))
low_starts marks asks all s m asking is = subst (IsUpTo (moment (pos 0))) (sym (all s m is)) (up_to_self (moment (pos 0)))

pub holds_starts : (marks : List Tier) (asks : List Bool) (n : ℕ) (o : Option ℕ) (holder : ℕ) → AreStarts marks → n ≡ length marks → length asks ≤ n → IsBest marks asks n o → holder ≡ unwrap_or o 0 → HoldsLeast marks asks (moment (pos 0)) holder
holds_starts marks asks n None holder all count low best is = holds_none marks asks n (moment (pos 0)) holder best low
holds_starts marks asks n (Some i) holder all count low best is = let at = below_get marks i (let b = best.below in omega (arith, b, count)) in λ s on.
    (ap (slice_get asks) is ∙ best.asking, ap (slice_get marks) is ∙ at.1 ∙ ap Some (all i at.0 at.1))

pub starts_more : (marks : List Tier) → AreStarts marks → AreStarts (marks ++ moment (pos 0) ∷ [])
starts_more [] all zero m is = sym (some_same is)
starts_more [] all (suc s) m is = cc
starts_more (k ∷ ks) all zero m is = all zero m is
starts_more (k ∷ ks) all (suc s) m is = starts_more ks (λ t l at. all (suc t) l at) s m is

pub starts_none : AreStarts []
starts_none s m is = cc

-- ---- a mark is raised

module _ (marks : List Tier) (asks : List Bool) (least : Tier) (holder sim : ℕ) (x m : Tier) (low : IsLow marks asks least) (holds : HoldsLeast marks asks least holder) (there : sim < length marks) (is : m ≡ get_or marks sim m) where
  abbrev before : Marked
  before = record { marks = marks; asks = asks; least = least }

  is_there : slice_get marks sim ≡ Some m
  is_there = get_some marks sim m there is

  pub stays : up_to x m ≡ true → Raised sim x false before before
  stays h = raised_not sim x before m (exact_of marks asks least holder low holds) is_there h

  module _ (more : up_to x m ≡ false) where
    pub lifted_low : IsLow (slice_set marks sim x) asks least
    lifted_low = low_lifted marks asks least sim x low there (λ k at. subst (λ (t : Tier). IsUpTo t x) (some_same (sym is_there ∙ at)) (up_to_total m x more))

    pub lifted_holds : (holder ≡ sim → ⊥) → HoldsLeast (slice_set marks sim x) asks least holder
    lifted_holds apart = exact_lifted marks asks least holder sim x apart holds

    pub lifted_else : (holder ≡ sim → ⊥) → Raised sim x false before (record { marks = slice_set marks sim x; asks = asks; least = least })
    lifted_else apart = raised sim x false before (record { marks = slice_set marks sim x; asks = asks; least = least }) m (exact_of (slice_set marks sim x) asks least holder lifted_low (lifted_holds apart)) there is_there more refl refl (up_to_self least) (λ e. refl)

    pub lifted_then : (rose : Bool) (new : Tier) (next : ℕ) → IsLow (slice_set marks sim x) asks new → HoldsLeast (slice_set marks sim x) asks new next → IsUpTo least new → (rose ≡ false → new ≡ least) → Raised sim x rose before (record { marks = slice_set marks sim x; asks = asks; least = new })
    lifted_then rose new next l h up same = raised sim x rose before (record { marks = slice_set marks sim x; asks = asks; least = new }) m (exact_of (slice_set marks sim x) asks new next l h) there is_there more refl refl up same
