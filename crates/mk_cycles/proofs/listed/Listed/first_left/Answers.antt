-- Answers to the goals of `listed::Listed::first_left` that the prover leaves.
use Rattle.std.proofs.Common.{inl, inr, arith}
use Rattle.std.proofs.lemmas.Bool.{cases_lt}
use Rattle.mk_cycles.proofs.Listings.{all_listed}
use Rattle.mk_cycles.proofs.listed.Listed.first_left.Goals as goal

pub returns-then-not-index-clause-first : goal.returns-then-not-index-clause-first
returns-then-not-index-clause-first c =
    rw (← c.self.view_is) (λ t left. elim (cases_lt t c.loop-number.number) [
      | inl under ↦ absurd (left.1 (c.self.invariant.listed t (c.loop-number.invariant t under)))
      | inr past ↦ past
    ])

pub returns-clause-first : goal.returns-clause-first
returns-clause-first c =
    rw (← c.self.view_is) (all_listed c.self.inside.marks.items c.self.inside.order.items c.self.invariant (λ k under. c.loop-number.invariant k (omega (arith, c.self.inside.marks.ok.0))))
