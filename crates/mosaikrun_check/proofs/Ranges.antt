-- What is joined over a range that grows by one.
use Rattle.std.proofs.Common.{◌≡◌, ℕ, zero, suc, ◌+◌, List, ◌++◌, refl, sym, ap, ◌∙◌, append_assoc, append-nil, arith}
use Rattle.std.specs.Prelude.{flat_map}
use Rattle.std.specs.List.{range_with_len}

joined_more : (f : ℕ → List ℕ) (a n : ℕ) → flat_map f (range_with_len a (suc n)) ≡ flat_map f (range_with_len a n) ++ f (a + n)
joined_more f a zero = append-nil (f a) ∙ ap f (omega arith)
joined_more f a (suc n) =
    ap (λ more. f a ++ more) (joined_more f (a + 1) n)
    ∙ sym (append_assoc (f a) (flat_map f (range_with_len (a + 1) n)) (f ((a + 1) + n)))
    ∙ ap (λ k. (f a ++ flat_map f (range_with_len (a + 1) n)) ++ f k) (omega arith)

pub joined_one_more : (f : ℕ → List ℕ) (n : ℕ) → flat_map f (range_with_len 0 (n + 1)) ≡ flat_map f (range_with_len 0 n) ++ f n
joined_one_more f n =
    let next : n + 1 ≡ suc n = omega arith in
    let last : 0 + n ≡ n = omega arith in
    rw (next, joined_more f 0 n, last) refl
