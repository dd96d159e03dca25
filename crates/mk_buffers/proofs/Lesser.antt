-- The lesser of two times, and marks at which something is due.
use Rattle.std.proofs.Common.{◌≡◌, Bool, true, false, ◌||◌, refl}
use Rattle.mk_base.specs.declared.tier.Tier.{Tier}
use Rattle.mk_base.specs.Tiers.{up_to}
use Rattle.mk_base.proofs.TierOrder.{up_to_trans, up_to_total}

by_first : (a b : Bool) → (b ≡ true → a ≡ true) → a ≡ a || b
by_first true b h = refl
by_first false true h = h refl
by_first false false h = refl

by_second : (a b : Bool) → (a ≡ true → b ≡ true) → b ≡ a || b
by_second true b h = h refl
by_second false b h = refl

pub first_lesser : (x y m : Tier) → up_to x y ≡ true → up_to x m ≡ up_to x m || up_to y m
first_lesser x y m h = by_first (up_to x m) (up_to y m) (λ k. up_to_trans x y m h k)

pub second_lesser : (x y m : Tier) → up_to x y ≡ false → up_to y m ≡ up_to x m || up_to y m
second_lesser x y m h = by_second (up_to x m) (up_to y m) (λ k. up_to_trans y x m (up_to_total y x h) k)
