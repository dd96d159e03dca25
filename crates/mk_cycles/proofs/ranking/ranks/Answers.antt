-- Answers to the goals of `ranking::ranks` that the prover leaves.
use Rattle.std.proofs.Common.{◌≡◌, ℕ, Bool, ◌∙◌, subst, arith}
use Rattle.mk_cycles.specs.Cycles.{IsCycle, IsLoop}
use Rattle.mk_cycles.specs.Edges.{has_edge}
use Rattle.mk_cycles.specs.Orders.{IsOrder, IsRanking, MayFollow}
use Rattle.mk_cycles.specs.Outcomes.{numbers}
use Rattle.mk_cycles.proofs.OnEdges.{closed, each_once, rising}
use Rattle.mk_cycles.proofs.ranking.ranks.Goals as goal

-- what holds of the table holds of the edges
moved : (P : (ℕ → ℕ → Bool) → ℕ → Type 0) (before has : ℕ → ℕ → Bool) (m n : ℕ) → before ≡ has → m ≡ n → P before m → P has n
moved P before has m n same count holds = subst (λ (b : ℕ → ℕ → Bool). P b n) same (subst (λ (k : ℕ). P before k) count holds)

ranking : (c : goal.After-drop-table-inside-in-None) → IsRanking (has_edge c.args.edges.now) c.args.sims c.in_ok-ranks-in-None.ranks
ranking c =
    let order = c.in_ok-placed.placed.order in
    let table = c.in_ok-table.ensures in
    let count = c.in_ok-placed.ensures.count ∙ table.sims in (
      order,
      moved (λ b k. IsOrder b k order) _ _ _ _ table.edges table.sims c.in_ok-placed.ensures.order,
      c.in-None.ensures.first ∙ count,
      c.in_ok-ranks-in-None.ensures.length ∙ count,
      c.in_ok-ranks-in-None.ensures.inverse,
    )

cycle : (c : goal.After-drop-table-inside-2) → IsCycle (has_edge c.args.edges.now) c.args.sims (numbers c.in_ok-walk-in-Some.walk)
cycle c =
    let order = c.in_ok-placed.placed.order in
    let walk = numbers c.in_ok-walk-in-Some.walk in
    let table = c.in_ok-table.ensures in (
      order,
      moved (λ b k. IsOrder b k order) _ _ _ _ table.edges table.sims c.in_ok-placed.ensures.order,
      moved (λ b k. (s : ℕ) → MayFollow b k order s → ⊥) _ _ _ _ table.edges table.sims c.in_ok-placed.ensures.last,
      moved (λ b k. IsLoop b k order walk) _ _ _ _ table.edges table.sims c.in_ok-walk-in-Some.ensures,
    )

pub returns-in-None-clause-ranking : goal.returns-in-None-clause-ranking
returns-in-None-clause-ranking c = ranking c

pub returns-in-None-clause-each_once : goal.returns-in-None-clause-each_once
returns-in-None-clause-each_once c = each_once (has_edge c.args.edges.now) c.args.sims c.in_ok-ranks-in-None.ranks (ranking c)

pub returns-in-None-clause-rising : goal.returns-in-None-clause-rising
returns-in-None-clause-rising c = rising c.args.edges.now c.args.sims c.in_ok-ranks-in-None.ranks c.requires (ranking c)

pub cycle-requires-clause-least : goal.cycle-requires-clause-least
cycle-requires-clause-least c t left =
    c.in-Some.ensures.first t (omega (arith, left.0, c.in_ok-placed.ensures.count), left.1)

pub returns-clause-cycle : goal.returns-clause-cycle
returns-clause-cycle c = cycle c

pub returns-clause-closed : goal.returns-clause-closed
returns-clause-closed c = closed c.args.edges.now c.args.sims (numbers c.in_ok-walk-in-Some.walk) (cycle c)
