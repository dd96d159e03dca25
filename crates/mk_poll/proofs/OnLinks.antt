-- Links among links.
use Rattle.std.proofs.Common.{◌≡◌, ◌+◌, ◌<◌, ◌≤◌, inl, inr, Bool, true, false, not, cond, ◌||◌, List, [], ◌∷◌, length, ap, ◌∙◌, arith}
use Rattle.std.specs.List.{list_any}
use Rattle.mk_base.specs.declared.LinkNo.{LinkNo}
use Rattle.mk_base.specs.Lists.{IsIn}
use Rattle.mk_base.specs.Links.{same_link, without}
use Rattle.mk_base.proofs.Counts.{same_self}
use Rattle.mk_base.proofs.Bools.{or_second}

kept_length : (b : Bool) (x : LinkNo) (xs : List LinkNo) → length (cond (not b) (x ∷ xs) xs) ≤ 1 + length xs
kept_length true x xs = omega arith
kept_length false x xs = omega arith

-- the links without one are no more
pub without_le : (link : LinkNo) (xs : List LinkNo) → length (without link xs) ≤ length xs
without_le link [] = omega arith
without_le link (x ∷ xs) = omega (arith, kept_length (same_link x link) x (without link xs), without_le link xs)

left_out : (b : Bool) (x : LinkNo) (xs : List LinkNo) → b ≡ true → length (cond (not b) (x ∷ xs) xs) ≡ length xs
left_out b x xs is = ap (λ (v : Bool). length (cond (not v) (x ∷ xs) xs)) is

-- the links without one of them are fewer
pub without_lt : (link : LinkNo) (xs : List LinkNo) → IsIn link xs → length (without link xs) < length xs
without_lt link [] none = absurd none
without_lt link (x ∷ xs) (inl here) =
    let same : same_link x link ≡ true = ap (λ (l : LinkNo). same_link x l) here ∙ same_self x.0 in
    omega (arith, left_out (same_link x link) x (without link xs) same, without_le link xs)
without_lt link (x ∷ xs) (inr there) = omega (arith, kept_length (same_link x link) x (without link xs), without_lt link xs there)

-- a link that is there is found
pub found : (link : LinkNo) (xs : List LinkNo) → IsIn link xs → list_any (λ other. same_link other link) xs ≡ true
found link [] none = absurd none
found link (x ∷ xs) (inl here) =
    let same : same_link x link ≡ true = ap (λ (l : LinkNo). same_link x l) here ∙ same_self x.0 in
    ap (λ (b : Bool). b || list_any (λ other. same_link other link) xs) same
found link (x ∷ xs) (inr there) = or_second (same_link x link) (list_any (λ other. same_link other link) xs) (found link xs there)
