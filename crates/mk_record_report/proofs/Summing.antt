-- The summary, simulator by simulator.
use Rattle.std.proofs.Common.{◌≡◌, ℕ, true, false, ◌+◌, ◌<◌, ◌≤◌, cond, nat_lt, List, [], ◌∷◌, ◌++◌, length, take, get_or, map, flat_map, sum, Option, Some, sym, ap, ◌∙◌, subst, append_assoc, arith}
use Rattle.std.specs.Prelude.{codes}
use Rattle.std.specs.List.{enumerate_from}
use Rattle.mk_base.proofs.Lists.{append_nil, flat_map_append, map_append}
use Rattle.std.proofs.lemmas.List.FromFn.{length-enumerate_from}
use Rattle.mk_plan.specs.declared.Plan.{Plan}
use Rattle.mk_plan.specs.declared.PlanSim.{PlanSim}
use Rattle.mk_plan.specs.declared.Entry.{Entry}
use Rattle.mk_plan.specs.declared.Item.{Item}
use Rattle.mk_plan.specs.Journals.{sent}
use Rattle.mk_plan.specs.Report.{summary, steps_in, values_sent, counts, last_line, last_stepped}
use Rattle.mk_record_report.specs.declared.tallies.Tally.{Tally}
use Rattle.mk_record_report.specs.inner.Summary.{IsTally, steps_at}
use Rattle.mk_record_report.proofs.Lasts.{last_stepped_push}
use Rattle.mk_record_report.proofs.Texts.{one_more, sum_last, stepped_at}
use Rattle.mk_base.proofs.Items.{take_whole}

-- a simulator's line, the number of its Steps, that of its input values, and its items
abbrev pub counts_at : List Entry → ℕ × PlanSim → List ℕ
counts_at J s = s.1.id ++ counts (length (steps_in (sent J s.0))) (values_sent (sent J s.0))

abbrev pub valued_at : List Entry → ℕ × PlanSim → ℕ
valued_at J s = values_sent (sent J s.0)

abbrev pub items_at : List Entry → ℕ × PlanSim → List Item
items_at J s = sent J s.0

module _ (J : List Entry) (sims : List PlanSim) (k : ℕ) (s : PlanSim) (low : k < length sims) (is : s ≡ get_or sims k s) where
  pub counts_push : (t : Tally) (out new : List ℕ) → IsTally t (sent J k) → out ≡ flat_map (counts_at J) (take k (enumerate_from 0 sims))
      → new ≡ out ++ (s.id ++ counts t.steps t.values) → new ≡ flat_map (counts_at J) (take (k + 1) (enumerate_from 0 sims))
  counts_push t out new tallied before after =
      after ∙ ap (λ n. out ++ (s.id ++ counts n t.values)) tallied.steps ∙ ap (λ n. out ++ (s.id ++ counts (length (steps_in (sent J k))) n)) tallied.values
      ∙ ap (λ l. l ++ counts_at J (k, s)) before
      ∙ sym (ap (flat_map (counts_at J)) (one_more J sims k s low is) ∙ flat_map_append (counts_at J) (take k (enumerate_from 0 sims)) ((k, s) ∷ []) ∙ ap (λ l. flat_map (counts_at J) (take k (enumerate_from 0 sims)) ++ l) (append_nil (counts_at J (k, s))))

  pub stepped_push : (t : Tally) (total : ℕ) → IsTally t (sent J k) → total ≡ sum (map (stepped_at J) (take k (enumerate_from 0 sims)))
      → total + t.steps ≡ sum (map (stepped_at J) (take (k + 1) (enumerate_from 0 sims)))
  stepped_push t total tallied before =
      ap (λ n. n + t.steps) before ∙ ap (λ n. sum (map (stepped_at J) (take k (enumerate_from 0 sims))) + n) tallied.steps
      ∙ sym (ap (λ l. sum (map (stepped_at J) l)) (one_more J sims k s low is) ∙ ap sum (map_append (stepped_at J) (take k (enumerate_from 0 sims)) ((k, s) ∷ [])) ∙ sum_last (map (stepped_at J) (take k (enumerate_from 0 sims))) (stepped_at J (k, s)))

  pub valued_push : (t : Tally) (total : ℕ) → IsTally t (sent J k) → total ≡ sum (map (valued_at J) (take k (enumerate_from 0 sims)))
      → total + t.values ≡ sum (map (valued_at J) (take (k + 1) (enumerate_from 0 sims)))
  valued_push t total tallied before =
      ap (λ n. n + t.values) before ∙ ap (λ n. sum (map (valued_at J) (take k (enumerate_from 0 sims))) + n) tallied.values
      ∙ sym (ap (λ l. sum (map (valued_at J) l)) (one_more J sims k s low is) ∙ ap sum (map_append (valued_at J) (take k (enumerate_from 0 sims)) ((k, s) ∷ [])) ∙ sum_last (map (valued_at J) (take k (enumerate_from 0 sims))) (valued_at J (k, s)))

  items_more : last_stepped (map (items_at J) (take (k + 1) (enumerate_from 0 sims))) [] ≡ cond (nat_lt 0 (length (steps_in (sent J k)))) (steps_in (sent J k)) (last_stepped (map (items_at J) (take k (enumerate_from 0 sims))) [])
  items_more = ap (λ l. last_stepped (map (items_at J) l) []) (one_more J sims k s low is) ∙ ap (λ l. last_stepped l []) (map_append (items_at J) (take k (enumerate_from 0 sims)) ((k, s) ∷ []))
      ∙ last_stepped_push (map (items_at J) (take k (enumerate_from 0 sims))) (sent J k) []

  -- a simulator with Steps is the last so far
  pub last_here : (t : Tally) → IsTally t (sent J k) → 0 < t.steps → steps_at (sent J) (Some k) ≡ last_stepped (map (items_at J) (take (k + 1) (enumerate_from 0 sims))) []
  last_here t tallied some = let more : nat_lt 0 (length (steps_in (sent J k))) ≡ true = (let is : t.steps ≡ length (steps_in (sent J k)) = tallied.steps in grind (arith, is, some)) in sym (items_more ∙ ap (λ b. cond b (steps_in (sent J k)) (last_stepped (map (items_at J) (take k (enumerate_from 0 sims))) [])) more)

  -- one without leaves the last
  pub last_before : (t : Tally) (last : Option ℕ) → IsTally t (sent J k) → t.steps ≤ 0 → steps_at (sent J) last ≡ last_stepped (map (items_at J) (take k (enumerate_from 0 sims))) [] → steps_at (sent J) last ≡ last_stepped (map (items_at J) (take (k + 1) (enumerate_from 0 sims))) []
  last_before t last tallied none before = let more : nat_lt 0 (length (steps_in (sent J k))) ≡ false = (let is : t.steps ≡ length (steps_in (sent J k)) = tallied.steps in grind (arith, is, none)) in before ∙ sym (items_more ∙ ap (λ b. cond b (steps_in (sent J k)) (last_stepped (map (items_at J) (take k (enumerate_from 0 sims))) [])) more)

-- the whole summary
pub summary_is : (P : Plan) (J : List Entry) (out totals new : List ℕ) (steps values k : ℕ) (last : Option ℕ) → length P.sims ≤ k
    → out ≡ flat_map (counts_at J) (take k (enumerate_from 0 P.sims)) → steps ≡ sum (map (stepped_at J) (take k (enumerate_from 0 P.sims))) → values ≡ sum (map (valued_at J) (take k (enumerate_from 0 P.sims)))
    → steps_at (sent J) last ≡ last_stepped (map (items_at J) (take k (enumerate_from 0 P.sims))) []
    → totals ≡ out ++ (codes "total" ++ counts steps values) → new ≡ totals ++ last_line (steps_at (sent J) last) → new ≡ summary P (sent J)
summary_is P J out totals new steps values k last past text stepped valued lasts total end =
    let all : take k (enumerate_from 0 P.sims) ≡ enumerate_from 0 P.sims = take_whole (enumerate_from 0 P.sims) k (subst (λ n. n ≤ k) (sym (length-enumerate_from 0 P.sims)) past) in
    let all_steps : steps ≡ sum (map (stepped_at J) (enumerate_from 0 P.sims)) = stepped ∙ ap (λ l. sum (map (stepped_at J) l)) all in
    let all_valued : values ≡ sum (map (valued_at J) (enumerate_from 0 P.sims)) = valued ∙ ap (λ l. sum (map (valued_at J) l)) all in
    let whole : List ℕ = flat_map (counts_at J) (enumerate_from 0 P.sims) in
    let s : ℕ = sum (map (stepped_at J) (enumerate_from 0 P.sims)) in
    let v : ℕ = sum (map (valued_at J) (enumerate_from 0 P.sims)) in
    end ∙ ap (λ l. l ++ last_line (steps_at (sent J) last)) (total ∙ ap (λ l. l ++ (codes "total" ++ counts steps values)) (text ∙ ap (flat_map (counts_at J)) all) ∙ ap (λ n. whole ++ (codes "total" ++ counts n values)) all_steps ∙ ap (λ n. whole ++ (codes "total" ++ counts s n)) all_valued)
    ∙ ap (λ l. whole ++ (codes "total" ++ counts s v) ++ last_line l) (lasts ∙ ap (λ l. last_stepped (map (items_at J) l) []) all)
    ∙ ap (λ l. l ++ last_line (last_stepped (map (items_at J) (enumerate_from 0 P.sims)) [])) (sym (append_assoc whole (codes "total") (counts s v)))
