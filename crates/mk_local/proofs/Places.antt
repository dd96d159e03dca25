-- Places of entities, found by the way they are written.
use Rattle.std.proofs.Common.{◌≡◌, ℕ, zero, suc, ◌+◌, ◌<◌, ◌≤◌, ◌^◌, ◌⊎◌, inl, inr, Bool, true, false, cond, List, Some, None, Result, Ok, Err, refl, sym, ap, ◌∙◌, arith, true≢false}
use Rattle.std.specs.List.{find, range_with_len}
use Rattle.std.specs.Fmt.{decimal}
use Rattle.std.specs.Str.Parse.{ParsesUnsigned}
use Rattle.std.proofs.lemmas.Fmt.{decimal_injective, parse-decimal}
use Rattle.std.proofs.lemmas.Slice.Eq.{bytes_eq-Decides}
use Rattle.mk_base.specs.Lists.{same_text}
use Rattle.mk_local.specs.Data.{place_named}

module _ (eid : List ℕ) where
  abbrev is_so : ℕ → Bool
  is_so k = same_text (decimal k) eid

  so : (k : ℕ) → is_so k ≡ true → decimal k ≡ eid
  so k e = (bytes_eq-Decides (decimal k) eid).0 e

  is_false : (b : Bool) → (b ≡ true → ⊥) → b ≡ false
  is_false true h = absurd (h refl)
  is_false false h = refl

  above : (n k : ℕ) → n ≤ k → is_so n ≡ false → is_so k ≡ true → n + 1 ≤ k
  above n k low not_n is_k = elim (apart n k low) [ inl same ↦ absurd (true≢false (sym is_k ∙ ap is_so (sym same) ∙ not_n)) | inr h ↦ h ]
    where
      apart : (n k : ℕ) → n ≤ k → (n ≡ k) ⊎ (n + 1 ≤ k)
      apart n k low = grind arith

  found_from : (n m k : ℕ) → n ≤ k → k < n + m → k < 2 ^ 64 → is_so k ≡ true → find is_so (range_with_len n m) ≡ Some k
  found_from n zero k low high fits e = absurd (omega arith)
  found_from n (suc m) k low high fits e = elim (is_so n) as (λ b. is_so n ≡ b → cond b (Some n) (find is_so (range_with_len (n + 1) m)) ≡ Some k) [
    | true ↦ λ here. let same : n ≡ k = decimal_injective n k (omega arith) fits (so n here ∙ sym (so k e)) in ap Some same
    | false ↦ λ not_n. found_from (n + 1) m k (above n k low not_n e) (omega arith) fits e
  ] refl

  absent_from : (n m : ℕ) → ((k : ℕ) → k < n + m → is_so k ≡ false) → find is_so (range_with_len n m) ≡ None
  absent_from n zero none = refl
  absent_from n (suc m) none = let here : is_so n ≡ false = none n (omega arith) in rw here (absent_from (n + 1) m (λ k h. none k (omega arith)))

  pub named : (count k : ℕ) → k < count → count < 2 ^ 64 → is_so k ≡ true → place_named count eid ≡ Some k
  named count k below fits e = found_from 0 count k (omega arith) (omega arith) (omega arith) e

  -- a place that is written so is what `parse` reads
  read_so : {E : Type 0} (count k : ℕ) (r : Result ℕ E) → k < count → count < 2 ^ 64 → ParsesUnsigned 64 10 eid r → is_so k ≡ true → r ≡ Ok k
  read_so count k r below fits parses e = parse-decimal 64 k eid r (omega arith) (omega arith) (sym (so k e)) parses

  pub refused : {E : Type 0} (count : ℕ) (r : Result ℕ E) (e : E) → count < 2 ^ 64 → ParsesUnsigned 64 10 eid r → r ≡ Err e → place_named count eid ≡ None
  refused count r e fits parses is = absent_from 0 count (λ k h. is_false (is_so k) (λ yes. let p = read_so count k r (omega arith) fits parses yes in cc))

  pub other : {E : Type 0} (count place : ℕ) (r : Result ℕ E) → count < 2 ^ 64 → ParsesUnsigned 64 10 eid r → r ≡ Ok place → (place < count → is_so place ≡ false) → place_named count eid ≡ None
  other count place r fits parses is unlike = absent_from 0 count (λ k h. is_false (is_so k) (λ yes.
      let p = read_so count k r (omega arith) fits parses yes in
      let same : place ≡ k = cc in
      true≢false (sym yes ∙ ap is_so (sym same) ∙ unlike (omega arith))))

  found_from_any : (n m k : ℕ) → find is_so (range_with_len n m) ≡ Some k → (k < n + m) × (decimal k ≡ eid)
  found_from_any n zero k is = cc
  found_from_any n (suc m) k is = elim (is_so n) as (λ b. is_so n ≡ b → cond b (Some n) (find is_so (range_with_len (n + 1) m)) ≡ Some k → (k < n + suc m) × (decimal k ≡ eid)) [
    | true ↦ λ e h. let same : n ≡ k = cc in (omega (arith, same), ap decimal (sym same) ∙ so n e)
    | false ↦ λ e h. let t = found_from_any (n + 1) m k h in (omega (arith, t.0), t.1)
  ] refl is

  -- a place that is found is below the count, and is written so
  pub found : (count k : ℕ) → place_named count eid ≡ Some k → (k < count) × (decimal k ≡ eid)
  found count k is = let t = found_from_any 0 count k is in (omega (arith, t.0), t.1)
