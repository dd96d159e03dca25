-- Numbers that are compared, by tests and without.
use Rattle.std.proofs.Common.{Bool, arith, cond, false, inl, inr, int_le, int_lt, max, nat_eq, nat_le, nat_lt, pos, refl, suc, sym, true, true≢false, zero, ℕ, ℤ, ◌&&◌, ◌+◌, ◌<◌, ◌==◌, ◌^◌, ◌∙◌, ◌≡◌, ◌≤ℤ◌, ◌≤◌, ◌⊎◌}
use Rattle.mk_base.proofs.TierOrder.{is_up_to}
use Rattle.mk_base.specs.Tiers.{IsUpTo}
use Rattle.mk_base.specs.Trees.{in_range}
use Rattle.mk_base.specs.declared.tier.Tier.{Tier}
use Rattle.std.proofs.lemmas.Bool.{eq-eqb, eqb-true, ltb-true}
use Rattle.std.proofs.lemmas.Bool.Decides.{nat_tests}
use Rattle.std.proofs.lemmas.Int.{ints}

pub at_most_one : (b : Bool) → cond b 1 0 ≤ 1
at_most_one true = omega arith
at_most_one false = omega arith

pub less_test : (p q : ℕ) → p < q → nat_lt p q ≡ true
less_test p q h = grind (arith, nat_tests)

pub below_greatest : (g s h : ℕ) → g ≡ max s h → h ≤ g
below_greatest g s h is = omega (arith, is)

pub none_below : (n k : ℕ) → k ≤ n → nat_lt n k ≡ false
none_below n k few = go (nat_lt n k) refl
  where
    go : (b : Bool) → nat_lt n k ≡ b → b ≡ false
    go true e = absurd (let low = ltb-true n k e in omega (arith, low, few))
    go false e = refl

pub equal_at_most : (k n : ℕ) → k ≡ n → k ≤ n
equal_at_most k n is = omega (arith, is)

pub below_or_not : (n k : ℕ) → (n < k) ⊎ (k ≤ n)
below_or_not n zero = inr (omega arith)
below_or_not zero (suc k) = inl (omega arith)
below_or_not (suc n) (suc k) = elim (below_or_not n k) [ inl low ↦ inl (omega (arith, low)) | inr high ↦ inr (omega (arith, high)) ]

pub test_equal : (x y : ℕ) → nat_eq x y ≡ true → x ≡ y
test_equal x y h = grind (arith, h)

pub same_self : (i : ℕ) → (i == i) ≡ true
same_self i = eq-eqb i i refl

pub test_itself : (x : ℕ) → nat_eq x x ≡ true
test_itself x = grind arith

pub not_same : (i j : ℕ) → (i ≡ j → ⊥) → (i == j) ≡ false
not_same i j h = elim (i == j) as (λ b. (i == j) ≡ b → b ≡ false) [ true ↦ λ e. absurd (h (eqb-true i j e)) | false ↦ λ e. refl ] refl

pub same_or_not : (i s : ℕ) → (i ≡ s) ⊎ (i ≡ s → ⊥)
same_or_not i s = elim (i == s) as (λ b. (i == s) ≡ b → (i ≡ s) ⊎ (i ≡ s → ⊥)) [ true ↦ λ e. inl (eqb-true i s e) | false ↦ λ e. inr (λ q. true≢false (sym (eq-eqb i s q) ∙ e)) ] refl

pub same_equal : (m n : ℕ) → (m == n) ≡ true → m ≡ n
same_equal m n h = grind (arith, nat_tests)

pub equal_same : (m n : ℕ) → m ≡ n → (m == n) ≡ true
equal_same m n h = grind (arith, nat_tests)

pub plus_none : (n : ℕ) → n ≡ n + 0
plus_none n = omega arith

pub one_over : (n k : ℕ) → suc n + k ≡ n + suc k
one_over n k = omega arith

pub at_most_test : (a b : ℕ) → a ≤ b → nat_le a b ≡ true
at_most_test a b h = grind arith

pub test_at_most : (a b : ℕ) → nat_le a b ≡ true → a ≤ b
test_at_most a b h = grind arith

pub between_test : (n : ℤ) (high : ℕ) → (pos 0 ≤ℤ n) × (n ≤ℤ pos high) → (int_le (pos 0) n && int_le n (pos high)) ≡ true
between_test n high h = let a = h.0 in let b = h.1 in grind (arith, ints, a, b)

pub one_less : (p q : Bool) → (p ≡ true → q ≡ true) → cond p 1 0 ≤ cond q 1 0
one_less true true h = omega arith
one_less true false h = absurd (true≢false (sym (h refl)))
one_less false true h = omega arith
one_less false false h = omega arith

pub one_gone : (p q : Bool) → p ≡ false → q ≡ true → cond p 1 0 + 1 ≤ cond q 1 0
one_gone true q e f = absurd (true≢false e)
one_gone false true e f = omega arith
one_gone false false e f = absurd (true≢false (sym f))

pub pos_in_range : (n : ℕ) → n < 2 ^ 64 → in_range (pos n) ≡ true
pos_in_range n h = grind (arith, ints)

pub before_end : (x : Tier) (until : ℤ) → int_le until x.time ≡ false → int_lt x.time until ≡ true
before_end x until h = grind (arith, ints)

pub time_up_to : (x y : Tier) → IsUpTo x y → x.time ≤ℤ y.time
time_up_to x y h = elim (is_up_to x y h) [ inl e ↦ grind (arith, ints) | inr e ↦ grind (arith, ints) ]

pub test_less : (a b : ℕ) → nat_lt a b ≡ true → a < b
test_less a b h = grind (arith, nat_tests)

pub not_less_self : (a : ℕ) → nat_lt a a ≡ false
not_less_self a = grind (arith, nat_tests)
