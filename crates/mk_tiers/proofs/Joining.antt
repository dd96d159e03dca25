-- Sets that are joined one by one with the set of a middle one.
use Rattle.std.proofs.Common.{◌≡◌, ℕ, zero, suc, ◌+◌, ◌<◌, ◌≤◌, Bool, true, false, ◌&&◌, ◌||◌, List, [], ◌∷◌, length, Some, get_or, slice_get, slice_set, sym, ap, ◌∙◌, subst, arith, inl, inr}
use Rattle.std.proofs.lemmas.Bool.{cases_eq}
use Rattle.mk_base.proofs.Lists.{some_same, set_here, set_else}
use Rattle.mk_tiers.specs.declared.bits.Bits.{Bits}
use Rattle.mk_tiers.specs.Sets.{has, IsBoth}
use Rattle.mk_tiers.specs.inner.Levels.{IsJoined}
use Rattle.mk_base.proofs.Bools.{is_or_false}

pub get_there : (xs : List Bits) (i : ℕ) (x : Bits) → i < length xs → x ≡ get_or xs i x → slice_get xs i ≡ Some x
get_there [] i x low is = absurd (omega arith)
get_there (y ∷ ys) zero x low is = ap Some (sym is)
get_there (y ∷ ys) (suc i) x low is = get_there ys i x (omega arith) is

pub joined_by : (m : ℕ) (one other now : Bits) → has one m ≡ true → IsBoth one other now → IsJoined m one other now
joined_by m one other now h both i low = both i low ∙ sym (ap (λ (b : Bool). has one i || (b && has other i)) h)

pub joined_not : (m : ℕ) (one other : Bits) → has one m ≡ false → IsJoined m one other one
joined_not m one other h i low = is_or_false (has one i) ∙ sym (ap (λ (b : Bool). has one i || (b && has other i)) h)

module _ (m : ℕ) (w : Bits) (old now : List Bits) (sim : ℕ) (here : Bits) (at : slice_get now sim ≡ Some here) (rest : (s : ℕ) → sim ≤ s → slice_get now s ≡ slice_get old s)
    (done : (s : ℕ) (one n : Bits) → s < sim → slice_get old s ≡ Some one → slice_get now s ≡ Some n → IsJoined m one w n) where
  was_here : (s : ℕ) (one : Bits) → s ≡ sim → slice_get old s ≡ Some one → here ≡ one
  was_here s one q was = some_same (sym at ∙ rest sim (omega arith) ∙ ap (slice_get old) (sym q) ∙ was)

  -- the one at the place has become the next
  module _ (new : List Bits) (next : Bits) (set : new ≡ slice_set now sim next) where
    pub done_set : IsJoined m here w next → (s : ℕ) (one n : Bits) → s < sim + 1 → slice_get old s ≡ Some one → slice_get new s ≡ Some n → IsJoined m one w n
    done_set joined s one n low was is = elim (cases_eq s sim) [
      | inl q ↦
          let is_next : next ≡ n = some_same (sym (set_here now sim next here at) ∙ ap (λ (l : List Bits). slice_get l sim) (sym set) ∙ ap (slice_get new) (sym q) ∙ is) in
          subst (λ (b : Bits). IsJoined m b w n) (was_here s one q was) (subst (λ (b : Bits). IsJoined m here w b) is_next joined)
      | inr apart ↦ done s one n (omega (arith, low, apart)) was (sym (set_else now sim s next apart) ∙ ap (λ (l : List Bits). slice_get l s) (sym set) ∙ is)
    ]

    pub rest_set : (s : ℕ) → sim + 1 ≤ s → slice_get new s ≡ slice_get old s
    rest_set s high = ap (λ (l : List Bits). slice_get l s) set ∙ set_else now sim s next (λ q. absurd (omega (arith, high, q))) ∙ rest s (omega arith)

  -- the one at the place has stayed
  pub done_kept : IsJoined m here w here → (s : ℕ) (one n : Bits) → s < sim + 1 → slice_get old s ≡ Some one → slice_get now s ≡ Some n → IsJoined m one w n
  done_kept joined s one n low was is = elim (cases_eq s sim) [
    | inl q ↦
        let is_here : here ≡ n = some_same (sym at ∙ ap (slice_get now) (sym q) ∙ is) in
        subst (λ (b : Bits). IsJoined m b w n) (was_here s one q was) (subst (λ (b : Bits). IsJoined m here w b) is_here joined)
    | inr apart ↦ done s one n (omega (arith, low, apart)) was is
  ]
