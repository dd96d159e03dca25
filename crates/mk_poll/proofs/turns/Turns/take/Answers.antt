-- Answers to the goals of `turns::Turns::take` that the prover leaves.
use Rattle.std.proofs.Common.{rules}
use Rattle.mk_poll.proofs.Apart.{apart_took, apart_is}
use Rattle.mk_poll.proofs.Standing.{spots_are, spots_took}
use Rattle.mk_poll.proofs.turns.Turns.take.Goals as goal

pub invariant_of-self-2 : goal.invariant_of-self-2
invariant_of-self-2 c = (
  search rules,
  apart_is _ _ _ _ (apart_took c.in_ok-link.link c.pop_front.new.self.items _ (search rules) c.self.invariant.1) (search rules) (search rules) (search rules),
  spots_are _ _ _ _ _ (spots_took _ c.in_ok-link.link c.pop_front.new.self.items _ (search rules) c.self.invariant.2) (search rules) (search rules) (search rules),
)

pub returns-clause-apart : goal.returns-clause-apart
returns-clause-apart c = apart_is _ _ _ _ (apart_took c.in_ok-link.link c.pop_front.new.self.items _ (search rules) c.self.invariant.1) (search rules) (search rules) (search rules)
