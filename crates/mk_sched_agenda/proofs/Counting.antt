-- How many turns are open, by each change.
use Rattle.std.proofs.Common.{◌≡◌, ℕ, zero, suc, ◌<◌, ◌≤◌, Bool, true, false, List, [], ◌∷◌, ◌++◌, length, get_or, slice_set, refl, sym, ap, ◌∙◌, arith, nat_lt, true≢false}
use Rattle.std.proofs.lemmas.Bool.Decides.{nat_tests}
use Rattle.std.specs.List.{list_any}
use Rattle.mk_sched_agenda.specs.inner.Counts.{open_among}

pub none_more : (bs : List Bool) → open_among (bs ++ false ∷ []) ≡ open_among bs
none_more [] = refl
none_more (true ∷ bs) = ap suc (none_more bs)
none_more (false ∷ bs) = none_more bs

pub few : (bs : List Bool) → open_among bs ≤ length bs
few [] = omega arith
few (true ∷ bs) = let rest = few bs in omega arith
few (false ∷ bs) = let rest = few bs in omega arith

pub one_more : (bs : List Bool) (i : ℕ) (b : Bool) → i < length bs → b ≡ get_or bs i b → b ≡ false → open_among (slice_set bs i true) ≡ suc (open_among bs)
one_more [] i b low is e = absurd (omega arith)
one_more (true ∷ bs) zero b low is e = absurd (true≢false (sym is ∙ e))
one_more (false ∷ bs) zero b low is e = refl
one_more (true ∷ bs) (suc i) b low is e = ap suc (one_more bs i b (omega arith) is e)
one_more (false ∷ bs) (suc i) b low is e = one_more bs i b (omega arith) is e

pub one_fewer : (bs : List Bool) (i : ℕ) (b : Bool) → i < length bs → b ≡ get_or bs i b → b ≡ true → open_among bs ≡ suc (open_among (slice_set bs i false))
one_fewer [] i b low is e = absurd (omega arith)
one_fewer (true ∷ bs) zero b low is e = refl
one_fewer (false ∷ bs) zero b low is e = absurd (true≢false (sym e ∙ is))
one_fewer (true ∷ bs) (suc i) b low is e = ap suc (one_fewer bs i b (omega arith) is e)
one_fewer (false ∷ bs) (suc i) b low is e = one_fewer bs i b (omega arith) is e

pub some_open : (bs : List Bool) → nat_lt 0 (open_among bs) ≡ list_any (λ b. b) bs
some_open [] = refl
some_open (true ∷ bs) = grind (arith, nat_tests)
some_open (false ∷ bs) = some_open bs
