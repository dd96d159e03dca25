-- Answers to the goals of `feeds::search` that the prover leaves.
use Rattle.std.proofs.Common.{rules}
use Rattle.std.proofs.lemmas.Fn.{always_returns_same}
use Rattle.mk_plan.specs.Turns.{want_order}
use Rattle.mk_sched_supply.specs.inner.Making.{names_of}
use Rattle.mk_sched_supply.proofs.feeds.search.Goals as goal

pub returns-clause-found : goal.returns-clause-found
returns-clause-found c = c.binary_search_by.ensures.position (λ w. want_order w (names_of c.args.eid.now c.args.attr.now)) (always_returns_same _ _ _ (λ a r f' k. search rules))
