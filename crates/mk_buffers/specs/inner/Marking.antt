-- For proofs alone. Beside `Marking`, which has what a reader needs.
use Rattle.std.specs.Prelude.{◌≡◌, ◌≢◌, ℕ, ◌<◌, Bool, true, false, List, slice_get, Some, Option, MatchOption, pos, length}
use Rattle.mk_base.specs.declared.tier.Tier.{Tier}
use Rattle.mk_base.specs.Tiers.{IsUpTo, moment}
use Rattle.mk_buffers.specs.Marking.{Marked, greater, IsLeastMark}

-- each is the start
abbrev pub AreStarts : List Tier → Type 0
AreStarts marks = (s : ℕ) (m : Tier) → slice_get marks s ≡ Some m → m ≡ moment (pos 0)

-- of the first n, this one asks, and its mark is up to those of all that ask
pub record IsLeastOf (marks : List Tier) (asks : List Bool) (n i : ℕ) : Type 0 where
  pub below : i < n
  pub asking : slice_get asks i ≡ Some true
  pub least : (s : ℕ) (m k : Tier) → s < n → slice_get asks s ≡ Some true
      → slice_get marks s ≡ Some m → slice_get marks i ≡ Some k → IsUpTo k m

-- none of the first n asks
abbrev pub IsNoneOf : List Bool → ℕ → Type 0
IsNoneOf asks n = (s : ℕ) → s < n → slice_get asks s ≡ Some false

-- the best of the first n, if one of them asks
abbrev pub IsBest : List Tier → List Bool → ℕ → Option ℕ → Type 0
IsBest marks asks n o = MatchOption o (IsNoneOf asks n) (λ i. IsLeastOf marks asks n i)

-- if one asks, this one does, and this time is its mark
abbrev pub HoldsLeast : List Tier → List Bool → Tier → ℕ → Type 0
HoldsLeast marks asks least holder = (s : ℕ) → slice_get asks s ≡ Some true
    → (slice_get asks holder ≡ Some true) × (slice_get marks holder ≡ Some least)

-- a simulator's mark has become the greater of it and x, no other mark has changed, and the least
-- mark may have risen
pub record Raised (sim : ℕ) (x : Tier) (rose : Bool) (old new : Marked) : Type 0 where
  pub asks : new.asks ≡ old.asks
  pub count : length new.marks ≡ length old.marks
  pub others : (s : ℕ) → s ≢ sim → slice_get new.marks s ≡ slice_get old.marks s
  pub here : (m : Tier) → slice_get old.marks sim ≡ Some m
      → slice_get new.marks sim ≡ Some (greater m x)
  pub exact : IsLeastMark new
  pub up : IsUpTo old.least new.least
  pub same : rose ≡ false → new.least ≡ old.least
