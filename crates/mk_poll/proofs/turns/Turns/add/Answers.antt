-- Answers to the goals of `turns::Turns::add` that the prover leaves.
use Rattle.std.proofs.Common.{rules, sym, subst}
use Rattle.mk_poll.specs.Turning.{Turning}
use Rattle.mk_poll.specs.Links.{IsAdded}
use Rattle.mk_poll.proofs.Apart.{apart_added, apart_is}
use Rattle.mk_poll.proofs.Standing.{spots_added, spots_are}
use Rattle.mk_poll.proofs.turns.Turns.add.Goals as goal

pub invariant_of-self-2 : goal.invariant_of-self-2
invariant_of-self-2 c = (
  search rules,
  apart_is _ _ _ _ (apart_added c.args.link _ (subst (λ (t : Turning). IsAdded c.args.link t → ⊥) (sym c.self.view_is) c.requires) c.self.invariant.1) (search rules) (search rules) (search rules),
  spots_are _ _ _ _ _ (spots_added c.self.inside.spots.items _ c.args.link _ c.in_ok-make_spot.ensures.more c.in_ok-make_spot.ensures.ok c.self.invariant.2) (search rules) (search rules) (search rules),
)

pub returns-clause-apart : goal.returns-clause-apart
returns-clause-apart c = apart_is _ _ _ _ (apart_added c.args.link _ (subst (λ (t : Turning). IsAdded c.args.link t → ⊥) (sym c.self.view_is) c.requires) c.self.invariant.1) (search rules) (search rules) (search rules)
