-- How many items wait: one less where one is taken.
use Rattle.std.proofs.Common.{◌≡◌, ℕ, zero, suc, ◌+◌, ◌<◌, ◌≤◌, List, [], ◌∷◌, length, Some, slice_get, refl, sym, ap, ◌∙◌, arith}
use Rattle.mk_base.proofs.Lists.{none_some, some_same}
use Rattle.mk_pace_held.specs.declared.held.Held.{Held}
use Rattle.mk_pace_held.specs.Firsts.{IsChanged}
use Rattle.mk_pace_loop.specs.inner.Sendings.{IsFewer, IsNoMore, held_count}
use Rattle.mk_pace_loop.specs.inner.Waiting.{IsHeldAnew, IsOnTempo, WaitingSeen}
use Rattle.mk_pace_loop.proofs.Turning.{on_tempo}

same_count : (old new : List (List Held)) → ((i : ℕ) → slice_get new i ≡ slice_get old i) → held_count new ≡ held_count old
same_count [] [] same = refl
same_count [] (b ∷ new) same = absurd (none_some (sym (same 0)))
same_count (a ∷ old) [] same = absurd (none_some (same 0))
same_count (a ∷ old) (b ∷ new) same = ap (λ (q : List Held). length q + held_count new) (some_same (same 0)) ∙ ap (λ (n : ℕ). length a + n) (same_count old new (λ i. same (suc i)))

one_less : (old new : List (List Held)) (s : ℕ) (h : Held) (q : List Held) → slice_get old s ≡ Some (h ∷ q) → slice_get new s ≡ Some q → ((i : ℕ) → (i ≡ s → ⊥) → slice_get new i ≡ slice_get old i) → held_count old ≡ held_count new + 1
one_less [] new s h q there here others = absurd (none_some there)
one_less (a ∷ old) [] s h q there here others = absurd (none_some here)
one_less (a ∷ old) (b ∷ new) zero h q there here others =
    let first : a ≡ h ∷ q = some_same there in
    let then : b ≡ q = some_same here in
    let long : length a ≡ suc (length b) = ap (λ (l : List Held). length l) first ∙ ap (λ (l : List Held). suc (length l)) (sym then) in
    let rest = same_count old new (λ i. others (suc i) (apart i)) in
    omega (arith, long, rest)
  where
    apart : (i : ℕ) → suc i ≡ 0 → ⊥
    apart i e = omega (arith, e)
one_less (a ∷ old) (b ∷ new) (suc k) h q there here others =
    let first : b ≡ a = some_same (others 0 none) in
    let long : length b ≡ length a = ap (λ (l : List Held). length l) first in
    let rest = one_less old new k h q there here (λ i apart. others (suc i) (λ e. apart (down i e))) in
    omega (arith, long, rest)
  where
    none : 0 ≡ suc k → ⊥
    none e = omega (arith, e)

    down : (i : ℕ) → suc i ≡ suc k → i ≡ k
    down i e = omega (arith, e)

pub changed_less : (s : ℕ) (h : Held) (q : List Held) (old new : List (List Held)) → IsChanged s (h ∷ q) q old new → held_count new < held_count old
changed_less s h q old new c = let e = one_less old new s h q c.there c.here c.others in omega (arith, e)

-- what waits, after one was taken
pub taken_fewer : (s : ℕ) (h : Held) (q : List Held) (W V : WaitingSeen) → IsHeldAnew s (h ∷ q) q W V → IsFewer W V
taken_fewer s h q W V c = record { same = c.same; count = changed_less s h q W.holds V.holds c.changed; sims = c.changed.count }

pub step_fewer : (s : ℕ) (h : Held) (q : List Held) (W V : WaitingSeen) → IsChanged s (h ∷ q) q W.holds V.holds → IsOnTempo W V → IsFewer W V
step_fewer s h q W V c same = record { same = same; count = changed_less s h q W.holds V.holds c; sims = c.count }

pub none_more : (A : WaitingSeen) → IsNoMore A A
none_more A = record { same = record { tempo = refl; strict = refl }; count = omega arith; sims = refl }
