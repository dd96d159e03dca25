-- A link is told by its number.
use Rattle.std.proofs.Common.{◌≡◌, ℕ, ap}
use Rattle.mk_base.specs.declared.LinkNo.{LinkNo}

pub same_number : (x y : LinkNo) → x.0 ≡ y.0 → x ≡ y
same_number x y e = ap (λ (n : ℕ). let link : LinkNo = record { 0 = n } in link) e
