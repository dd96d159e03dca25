-- A report doesn't show max_advance: what was sent and the same items without it have one report.
use Rattle.std.proofs.Common.{◌≡◌, ℕ, suc, ◌+◌, ◌<◌, ◌≤◌, List, [], ◌∷◌, ◌++◌, length, map, filter, refl, sym, ap, ◌∙◌, arith}
use Rattle.std.specs.Prelude.{flat_map, sum, codes}
use Rattle.std.specs.Fmt.{decimal}
use Rattle.std.specs.List.{enumerate_from}
use Rattle.mk_plan.specs.declared.Plan.{Plan}
use Rattle.mk_plan.specs.declared.Item.{Item}
use Rattle.mk_plan.specs.declared.Item.TheVariants.{Step, GetData, Answer, Refuse}
use Rattle.mk_plan.specs.Plans.{sim_count}
use Rattle.mk_plan.specs.Journals.{bare}
use Rattle.mk_plan.specs.Report.{report, line_of, is_step}

-- a line doesn't show max_advance
pub line_bare : (item : Item) → line_of (bare item) ≡ line_of item
line_bare (Step x ins advance) = refl
line_bare (GetData wants) = refl
line_bare (Answer id content) = refl
line_bare (Refuse id reason) = refl

-- nor do the lines
lines_bare : (items : List Item) → flat_map line_of (map bare items) ≡ flat_map line_of items
lines_bare [] = refl
lines_bare (item ∷ items) = ap (λ line. line ++ flat_map line_of (map bare items)) (line_bare item) ∙ ap (λ lines. line_of item ++ lines) (lines_bare items)

-- a Step stays one without its max_advance
pub steps_bare : (items : List Item) → length (filter is_step (map bare items)) ≡ length (filter is_step items)
steps_bare [] = refl
steps_bare (Step x ins advance ∷ items) = ap suc (steps_bare items)
steps_bare (GetData wants ∷ items) = steps_bare items
steps_bare (Answer id content ∷ items) = steps_bare items
steps_bare (Refuse id reason ∷ items) = steps_bare items

-- a map over numbered items depends on what it is at their numbers
pub map_numbered : {X Y : Type 0} (f g : ℕ × X → Y) (n : ℕ) (xs : List X) → ((k : ℕ) (x : X) → n ≤ k → k < n + length xs → f (k, x) ≡ g (k, x)) → map f (enumerate_from n xs) ≡ map g (enumerate_from n xs)
map_numbered f g n [] same = refl
map_numbered f g n (x ∷ xs) same =
    ap (λ first. first ∷ map f (enumerate_from (n + 1) xs)) (same n x (omega arith) (omega arith))
    ∙ ap (λ more. g (n, x) ∷ more) (map_numbered f g (n + 1) xs (λ k y low high. same k y (omega arith) (omega arith)))

-- and so do lists that are joined
pub joined_numbered : {X Y : Type 0} (f g : ℕ × X → List Y) (n : ℕ) (xs : List X) → ((k : ℕ) (x : X) → n ≤ k → k < n + length xs → f (k, x) ≡ g (k, x)) → flat_map f (enumerate_from n xs) ≡ flat_map g (enumerate_from n xs)
joined_numbered f g n [] same = refl
joined_numbered f g n (x ∷ xs) same =
    ap (λ first. first ++ flat_map f (enumerate_from (n + 1) xs)) (same n x (omega arith) (omega arith))
    ∙ ap (λ more. g (n, x) ++ more) (joined_numbered f g (n + 1) xs (λ k y low high. same k y (omega arith) (omega arith)))

-- the report of what was sent is the report of the same items without max_advance
pub report_bare : (P : Plan) (one other : ℕ → List Item) → ((i : ℕ) → i < sim_count P → map bare (one i) ≡ other i) → report P one ≡ report P other
report_bare P one other same =
    let lines : (i : ℕ) → i < sim_count P → flat_map line_of (one i) ≡ flat_map line_of (other i) = λ i within. sym (lines_bare (one i)) ∙ ap (flat_map line_of) (same i within) in
    let steps : (i : ℕ) → i < sim_count P → length (filter is_step (one i)) ≡ length (filter is_step (other i)) = λ i within. sym (steps_bare (one i)) ∙ ap (λ items. length (filter is_step items)) (same i within) in
    ap
    (λ parts. parts ++ codes "end " ++ decimal (sum (map (λ s. length (filter is_step (one s.0))) (enumerate_from 0 P.sims))) ++ codes "\n")
    (joined_numbered (λ x. codes "sim " ++ x.1.id ++ codes "\n" ++ flat_map line_of (one x.0)) (λ x. codes "sim " ++ x.1.id ++ codes "\n" ++ flat_map line_of (other x.0)) 0 P.sims (λ k x low high. ap (λ shown. codes "sim " ++ x.id ++ codes "\n" ++ shown) (lines k (omega (arith, high)))))
    ∙ ap
    (λ counts. flat_map (λ s. codes "sim " ++ s.1.id ++ codes "\n" ++ flat_map line_of (other s.0)) (enumerate_from 0 P.sims) ++ codes "end " ++ decimal (sum counts) ++ codes "\n")
    (map_numbered (λ x. length (filter is_step (one x.0))) (λ x. length (filter is_step (other x.0))) 0 P.sims (λ k x low high. steps k (omega (arith, high))))
