-- What is gathered from the items of a list, in order, up to the first fault.
use Rattle.std.proofs.Common.{◌≡◌, ℕ, ◌+◌, ◌<◌, arith, List, [], ◌∷◌, ◌++◌, map, length, get_or, Result, Ok, Err, refl, ap, ◌∙◌, sym, suc, drop}
use Rattle.std.proofs.Math.Seq.{drop-cons}
use Rattle.std.proofs.lemmas.List.{append_assoc}
use Rattle.std.specs.List.{enumerate_from}
use Rattle.mk_base.specs.Verdicts.{put_first, all_well}
use Rattle.mk_scenario_keys.specs.Tests.{each_at}
use Rattle.mk_scenario_keys.specs.declared.fault.ScenarioFault.{ScenarioFault}

-- what the items from place n on give
abbrev pub each_from : {X A : Type 0} → (ℕ → X → Result A ScenarioFault) → ℕ → List X → Result (List A) ScenarioFault
each_from {X} test n items = all_well (map (λ (p : ℕ × X). test p.0 p.1) (enumerate_from n items))

-- what was gathered, and then what the rest gives
abbrev pub gathered : {A : Type 0} → List A → Result (List A) ScenarioFault → Result (List A) ScenarioFault
gathered found (Ok more) = Ok (found ++ more)
gathered found (Err fault) = Err fault

with_next : {A : Type 0} (found : List A) (y : A) (r : Result (List A) ScenarioFault) → gathered found (put_first y r) ≡ gathered (found ++ y ∷ []) r
with_next found y (Ok more) = ap Ok (sym (append_assoc found (y ∷ []) more))
with_next found y (Err fault) = refl

-- what is gathered before place i, where no item before it has a fault
abbrev pub Gathers : {X A : Type 0} → (ℕ → X → Result A ScenarioFault) → List X → ℕ → List A → Type 0
Gathers test items i found = each_at test items ≡ gathered found (each_from test i (drop i items))

module _ {X A : Type 0} (test : ℕ → X → Result A ScenarioFault) (items : List X) (i : ℕ) (found : List A) where
  module _ (x : X) (below : i < length items) (is : x ≡ get_or items i x) (so_far : Gathers test items i found) where
    next : each_at test items ≡ gathered found (all_well (test i x ∷ map (λ (p : ℕ × X). test p.0 p.1) (enumerate_from (i + 1) (drop (i + 1) items))))
    next =
        let after : suc i ≡ i + 1 = omega arith in
        so_far ∙ ap (λ rest. gathered found (each_from test i rest)) (drop-cons items i x below ∙ ap (λ z. z ∷ drop (suc i) items) (sym is) ∙ ap (λ n. x ∷ drop n items) after)

    -- one more item without a fault
    pub gathers_more : (y : A) → test i x ≡ Ok y → Gathers test items (i + 1) (found ++ y ∷ [])
    gathers_more y well = next ∙ ap (λ r. gathered found (all_well (r ∷ map (λ (p : ℕ × X). test p.0 p.1) (enumerate_from (i + 1) (drop (i + 1) items))))) well ∙ with_next found y (each_from test (i + 1) (drop (i + 1) items))

    -- the first item with a fault
    pub first_fault : (e : ScenarioFault) → test i x ≡ Err e → each_at test items ≡ Err e
    first_fault e wrong = next ∙ ap (λ r. gathered found (all_well (r ∷ map (λ (p : ℕ × X). test p.0 p.1) (enumerate_from (i + 1) (drop (i + 1) items))))) wrong
