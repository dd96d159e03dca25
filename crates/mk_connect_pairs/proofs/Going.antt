-- Going through items, as far as one has come.
use Rattle.std.proofs.Common.{◌≡◌, ℕ, suc, ◌+◌, ◌<◌, List, [], ◌∷◌, ◌++◌, length, take, drop, Result, Ok, Err, refl, sym, ap, ◌∙◌, get_or, inl, inr}
use Rattle.std.proofs.Math.Seq.{drop-cons}
use Rattle.std.proofs.lemmas.List.{take_more, take-append-drop}
use Rattle.mk_base.specs.Verdicts.{passed}
use Rattle.mk_connect_pairs.specs.declared.fault.ConnectFault.{ConnectFault}
use Rattle.mk_connect_pairs.specs.Faults.{IsFaultOf, through}

module _ {A X : Type 0} (step : A → X → Result A ConnectFault) where
  through_append : (m : A) (xs ys : List X) → through step m (xs ++ ys) ≡ passed (through step m xs) (λ n. through step n ys)
  through_append m [] ys = refl
  through_append m (x ∷ xs) ys = at (step m x) (λ n. through_append n xs ys)
    where
      at : (r : Result A ConnectFault) → ((n : A) → through step n (xs ++ ys) ≡ passed (through step n xs) (λ k. through step k ys)) → passed r (λ n. through step n (xs ++ ys)) ≡ passed (passed r (λ n. through step n xs)) (λ k. through step k ys)
      at (Ok n) more = more n
      at (Err e) more = refl

  module _ (m n : A) (xs : List X) (i : ℕ) (x : X) (below : i < length xs) (is : x ≡ get_or xs i x) (so_far : through step m (take i xs) ≡ Ok n) where
    -- one item more
    pub through_more : (k : A) → step n x ≡ Ok k → through step m (take (i + 1) xs) ≡ Ok k
    through_more k made = ap (through step m) (take_more xs i x below ∙ ap (λ z. take i xs ++ z ∷ []) (sym is)) ∙ through_append m (take i xs) (x ∷ []) ∙ ap (λ r. passed r (λ n. through step n (x ∷ []))) so_far ∙ ap (λ r. passed r (λ n. through step n [])) made

    -- the first item that fails
    pub through_fault : (e : ConnectFault) → step n x ≡ Err e → through step m xs ≡ Err e
    through_fault e fails = ap (through step m) (sym (take-append-drop i xs) ∙ ap (λ l. take i xs ++ l) (drop-cons xs i x below ∙ ap (λ z. z ∷ drop (suc i) xs) (sym is))) ∙ through_append m (take i xs) (x ∷ drop (suc i) xs) ∙ ap (λ r. passed r (λ n. through step n (x ∷ drop (suc i) xs))) so_far ∙ ap (λ r. passed r (λ n. through step n (drop (suc i) xs))) fails

    -- a fault of the item is one of going through
    pub through_refused : (e : ConnectFault) → IsFaultOf (step n x) e → IsFaultOf (through step m xs) e
    through_refused e (inl mem) = inl mem
    through_refused e (inr fails) = inr (through_fault e fails)
