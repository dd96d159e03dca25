-- The summary of items doesn't show their max_advance.
use Rattle.std.proofs.Common.{◌≡◌, ℕ, ◌+◌, ◌<◌, ◌≤◌, Bool, true, List, [], ◌∷◌, ◌++◌, length, map, refl, sym, ap, ◌∙◌, arith}
use Rattle.std.specs.Prelude.{flat_map, sum, codes, nat_lt, if◌then◌else◌}
use Rattle.std.specs.List.{enumerate_from}
use Rattle.std.proofs.lemmas.Bool.Decides.{nat_tests}
use Rattle.mk_plan.specs.declared.Plan.{Plan}
use Rattle.mk_plan.specs.declared.PlanSim.{PlanSim}
use Rattle.mk_plan.specs.declared.Input.{Input}
use Rattle.mk_plan.specs.declared.Item.{Item}
use Rattle.mk_plan.specs.declared.Item.TheVariants.{Step, GetData, Answer, Refuse}
use Rattle.mk_plan.specs.Plans.{sim_count}
use Rattle.mk_plan.specs.Journals.{bare}
use Rattle.mk_plan.specs.Report.{steps_in, summary, inputs_of, values_sent, counts, last_line, last_stepped}
use Rattle.mk_record_report.proofs.Bare.{joined_numbered, line_bare, map_numbered, steps_bare}

-- the inputs stay
inputs_bare : (items : List Item) → flat_map inputs_of (map bare items) ≡ flat_map inputs_of items
inputs_bare [] = refl
inputs_bare (Step x ins advance ∷ items) = ap (λ (more : List Input). ins ++ more) (inputs_bare items)
inputs_bare (GetData wants ∷ items) = inputs_bare items
inputs_bare (Answer id content ∷ items) = inputs_bare items
inputs_bare (Refuse id reason ∷ items) = inputs_bare items

-- the Steps without their max_advance
steps_of_bare : (items : List Item) → steps_in (map bare items) ≡ map bare (steps_in items)
steps_of_bare [] = refl
steps_of_bare (Step x ins advance ∷ items) = ap (λ (more : List Item). bare (Step x ins advance) ∷ more) (steps_of_bare items)
steps_of_bare (GetData wants ∷ items) = steps_of_bare items
steps_of_bare (Answer id content ∷ items) = steps_of_bare items
steps_of_bare (Refuse id reason ∷ items) = steps_of_bare items

-- the last line stays
last_line_bare : (items : List Item) → last_line (map bare items) ≡ last_line items
last_line_bare [] = refl
last_line_bare (item ∷ []) = ap (λ (line : List ℕ). codes "last " ++ line) (line_bare item)
last_line_bare (item ∷ more ∷ items) = last_line_bare (more ∷ items)

pick_bare : (steps found : List Item) → (if nat_lt 0 (length (map bare steps)) then map bare steps else map bare found) ≡ map bare (if nat_lt 0 (length steps) then steps else found)
pick_bare [] found = refl
pick_bare (step ∷ steps) found =
    let some_bare : nat_lt 0 (length (map bare (step ∷ steps))) ≡ true = grind (arith, nat_tests) in
    let some : nat_lt 0 (length (step ∷ steps)) ≡ true = grind (arith, nat_tests) in
    ap (λ (b : Bool). if b then map bare (step ∷ steps) else map bare found) some_bare ∙ sym (ap (λ (b : Bool). map bare (if b then step ∷ steps else found)) some)

last_stepped_bare : (all : List (List Item)) (found : List Item) → last_stepped (map (map bare) all) (map bare found) ≡ map bare (last_stepped all found)
last_stepped_bare [] found = refl
last_stepped_bare (items ∷ all) found =
    ap (λ (steps : List Item). last_stepped (map (map bare) all) (if nat_lt 0 (length steps) then steps else map bare found)) (steps_of_bare items)
    ∙ ap (λ (next : List Item). last_stepped (map (map bare) all) next) (pick_bare (steps_in items) found)
    ∙ last_stepped_bare all (if nat_lt 0 (length (steps_in items)) then steps_in items else found)

-- the items of numbered simulators
all_bare : (one other : ℕ → List Item) (n : ℕ) (sims : List PlanSim) → ((k : ℕ) → n ≤ k → k < n + length sims → map bare (one k) ≡ other k)
    → map (λ (s : ℕ × PlanSim). other s.0) (enumerate_from n sims) ≡ map (map bare) (map (λ (s : ℕ × PlanSim). one s.0) (enumerate_from n sims))
all_bare one other n [] same = refl
all_bare one other n (sim ∷ sims) same =
    ap (λ (first : List Item). first ∷ map (λ (s : ℕ × PlanSim). other s.0) (enumerate_from (n + 1) sims)) (sym (same n (omega arith) (omega arith)))
    ∙ ap (λ (more : List (List Item)). map bare (one n) ∷ more) (all_bare one other (n + 1) sims (λ k low high. same k (omega arith) (omega arith)))

last_bare : (P : Plan) (one other : ℕ → List Item) → ((i : ℕ) → i < sim_count P → map bare (one i) ≡ other i)
    → last_line (last_stepped (map (λ (s : ℕ × PlanSim). one s.0) (enumerate_from 0 P.sims)) []) ≡ last_line (last_stepped (map (λ (s : ℕ × PlanSim). other s.0) (enumerate_from 0 P.sims)) [])
last_bare P one other same =
    let ones : List (List Item) = map (λ (s : ℕ × PlanSim). one s.0) (enumerate_from 0 P.sims) in
    sym (last_line_bare (last_stepped ones []))
    ∙ ap last_line (sym (last_stepped_bare ones []))
    ∙ ap (λ (all : List (List Item)). last_line (last_stepped all [])) (sym (all_bare one other 0 P.sims (λ k low high. same k (omega (arith, high)))))

-- the summary of what was sent is the summary of the same items without max_advance
pub summary_bare : (P : Plan) (one other : ℕ → List Item) → ((i : ℕ) → i < sim_count P → map bare (one i) ≡ other i) → summary P one ≡ summary P other
summary_bare P one other same =
    let steps : (i : ℕ) → i < sim_count P → length (steps_in (one i)) ≡ length (steps_in (other i)) = λ i within. sym (steps_bare (one i)) ∙ ap (λ (items : List Item). length (steps_in items)) (same i within) in
    let values : (i : ℕ) → i < sim_count P → values_sent (one i) ≡ values_sent (other i) = λ i within. sym (ap (λ (ins : List Input). length ins) (inputs_bare (one i))) ∙ ap (λ (items : List Item). values_sent items) (same i within) in
    let sims : List (ℕ × PlanSim) = enumerate_from 0 P.sims in
    let line : (ℕ → List Item) → ℕ × PlanSim → List ℕ = λ items s. s.1.id ++ counts (length (steps_in (items s.0))) (values_sent (items s.0)) in
    let step_sum : (ℕ → List Item) → List ℕ = λ items. map (λ (s : ℕ × PlanSim). length (steps_in (items s.0))) sims in
    let value_sum : (ℕ → List Item) → List ℕ = λ items. map (λ (s : ℕ × PlanSim). values_sent (items s.0)) sims in
    let last : (ℕ → List Item) → List ℕ = λ items. last_line (last_stepped (map (λ (s : ℕ × PlanSim). items s.0) sims) []) in
    ap (λ (lines : List ℕ). lines ++ codes "total" ++ counts (sum (step_sum one)) (sum (value_sum one)) ++ last one)
    (joined_numbered (line one) (line other) 0 P.sims (λ k x low high.
    ap (λ n. x.id ++ counts n (values_sent (one k))) (steps k (omega (arith, high)))
    ∙ ap (λ n. x.id ++ counts (length (steps_in (other k))) n) (values k (omega (arith, high)))))
    ∙ ap (λ (ns : List ℕ). flat_map (line other) sims ++ codes "total" ++ counts (sum ns) (sum (value_sum one)) ++ last one)
    (map_numbered (λ s. length (steps_in (one s.0))) (λ s. length (steps_in (other s.0))) 0 P.sims (λ k x low high. steps k (omega (arith, high))))
    ∙ ap (λ (ns : List ℕ). flat_map (line other) sims ++ codes "total" ++ counts (sum (step_sum other)) (sum ns) ++ last one)
    (map_numbered (λ s. values_sent (one s.0)) (λ s. values_sent (other s.0)) 0 P.sims (λ k x low high. values k (omega (arith, high))))
    ∙ ap (λ (tail : List ℕ). flat_map (line other) sims ++ codes "total" ++ counts (sum (step_sum other)) (sum (value_sum other)) ++ tail) (last_bare P one other same)
