-- The report, simulator by simulator.
use Rattle.std.proofs.Common.{◌≡◌, ℕ, ◌+◌, ◌<◌, ◌≤◌, List, [], ◌∷◌, ◌++◌, length, take, get_or, map, flat_map, sum, sym, ap, ◌∙◌, subst, append_assoc, arith}
use Rattle.std.specs.Prelude.{codes}
use Rattle.std.specs.Fmt.{decimal}
use Rattle.std.specs.List.{enumerate_from}
use Rattle.std.proofs.lemmas.List.{take_more}
use Rattle.std.proofs.lemmas.List.Sums.{sum_by-append}
use Rattle.std.proofs.lemmas.List.FromFn.{length-enumerate_from, get_or-enumerate_from}
use Rattle.mk_base.proofs.Lists.{append_nil, flat_map_append, map_append}
use Rattle.mk_plan.specs.declared.Plan.{Plan}
use Rattle.mk_plan.specs.declared.PlanSim.{PlanSim}
use Rattle.mk_plan.specs.declared.Entry.{Entry}
use Rattle.mk_plan.specs.Journals.{sent}
use Rattle.mk_plan.specs.Report.{report, part_of, line_of, steps_in}
use Rattle.mk_record_report.specs.declared.parts.Part.{Part}
use Rattle.mk_record_report.specs.inner.Parts.{IsPart}
use Rattle.mk_base.proofs.Items.{take_whole}

-- a simulator's part of the report, and the number of its Steps
abbrev pub text_at : List Entry → ℕ × PlanSim → List ℕ
text_at J s = part_of s.1.id (sent J s.0)

abbrev pub stepped_at : List Entry → ℕ × PlanSim → ℕ
stepped_at J s = length (steps_in (sent J s.0))

pub sum_last : (ns : List ℕ) (n : ℕ) → sum (ns ++ n ∷ []) ≡ sum ns + n
sum_last ns n = sum_by-append (λ (k : ℕ). k) ns (n ∷ []) ∙ ap (λ k. sum ns + k) (let z : 0 + n ≡ n = omega arith in z)

module _ (J : List Entry) (sims : List PlanSim) (k : ℕ) (s : PlanSim) (low : k < length sims) (is : s ≡ get_or sims k s) where
  numbered : ℕ × PlanSim
  numbered = (k, s)

  pub one_more : take (k + 1) (enumerate_from 0 sims) ≡ take k (enumerate_from 0 sims) ++ (k, s) ∷ []
  one_more = take_more (enumerate_from 0 sims) k (k, s) (subst (λ n. k < n) (sym (length-enumerate_from 0 sims)) low)
      ∙ ap (λ (e : ℕ × PlanSim). take k (enumerate_from 0 sims) ++ e ∷ []) (get_or-enumerate_from 0 sims k (k, s) low ∙ (let z : 0 + k ≡ k = omega arith in λ i. (z i, sym is i)))

  pub text_push : (part : Part) (out new : List ℕ) → IsPart part (sent J k) → out ≡ flat_map (text_at J) (take k (enumerate_from 0 sims))
      → new ≡ out ++ codes "sim " ++ s.id ++ codes "\n" ++ part.lines.items → new ≡ flat_map (text_at J) (take (k + 1) (enumerate_from 0 sims))
  text_push part out new whole before after =
      after ∙ ap (λ l. out ++ codes "sim " ++ s.id ++ codes "\n" ++ l) whole.lines
      ∙ append_assoc (out ++ codes "sim " ++ s.id) (codes "\n") (flat_map line_of (sent J k)) ∙ append_assoc (out ++ codes "sim ") s.id (codes "\n" ++ flat_map line_of (sent J k))
      ∙ append_assoc out (codes "sim ") (s.id ++ (codes "\n" ++ flat_map line_of (sent J k)))
      ∙ ap (λ l. out ++ l) (sym (append_assoc (codes "sim " ++ s.id) (codes "\n") (flat_map line_of (sent J k)) ∙ append_assoc (codes "sim ") s.id (codes "\n" ++ flat_map line_of (sent J k))))
      ∙ ap (λ l. l ++ text_at J (k, s)) before
      ∙ sym (ap (flat_map (text_at J)) one_more ∙ flat_map_append (text_at J) (take k (enumerate_from 0 sims)) ((k, s) ∷ []) ∙ ap (λ l. flat_map (text_at J) (take k (enumerate_from 0 sims)) ++ l) (append_nil (text_at J (k, s))))

  pub steps_push : (part : Part) (total : ℕ) → IsPart part (sent J k) → total ≡ sum (map (stepped_at J) (take k (enumerate_from 0 sims)))
      → total + part.steps ≡ sum (map (stepped_at J) (take (k + 1) (enumerate_from 0 sims)))
  steps_push part total whole before =
      ap (λ n. n + part.steps) before ∙ ap (λ n. sum (map (stepped_at J) (take k (enumerate_from 0 sims))) + n) whole.steps
      ∙ sym (ap (λ l. sum (map (stepped_at J) l)) one_more ∙ ap sum (map_append (stepped_at J) (take k (enumerate_from 0 sims)) ((k, s) ∷ [])) ∙ sum_last (map (stepped_at J) (take k (enumerate_from 0 sims))) (stepped_at J (k, s)))

-- the whole report
pub report_is : (P : Plan) (J : List Entry) (out new : List ℕ) (total k : ℕ) → length P.sims ≤ k → out ≡ flat_map (text_at J) (take k (enumerate_from 0 P.sims)) → total ≡ sum (map (stepped_at J) (take k (enumerate_from 0 P.sims)))
    → new ≡ out ++ (codes "end " ++ decimal total ++ codes "\n") → new ≡ report P (sent J)
report_is P J out new total k past text steps after =
    let all : take k (enumerate_from 0 P.sims) ≡ enumerate_from 0 P.sims = take_whole (enumerate_from 0 P.sims) k (subst (λ n. n ≤ k) (sym (length-enumerate_from 0 P.sims)) past) in
    after ∙ ap (λ l. l ++ (codes "end " ++ decimal total ++ codes "\n")) (text ∙ ap (flat_map (text_at J)) all)
    ∙ ap (λ n. flat_map (text_at J) (enumerate_from 0 P.sims) ++ (codes "end " ++ decimal n ++ codes "\n")) (steps ∙ ap (λ l. sum (map (stepped_at J) l)) all)
    ∙ sym (append_assoc (flat_map (text_at J) (enumerate_from 0 P.sims) ++ codes "end ") (decimal (sum (map (stepped_at J) (enumerate_from 0 P.sims)))) (codes "\n")
    ∙ append_assoc (flat_map (text_at J) (enumerate_from 0 P.sims)) (codes "end ") (decimal (sum (map (stepped_at J) (enumerate_from 0 P.sims))) ++ codes "\n")
    ∙ ap (λ l. flat_map (text_at J) (enumerate_from 0 P.sims) ++ l) (sym (append_assoc (codes "end ") (decimal (sum (map (stepped_at J) (enumerate_from 0 P.sims)))) (codes "\n"))))
