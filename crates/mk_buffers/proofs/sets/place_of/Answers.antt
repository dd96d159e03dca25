-- Answers to the goals of `sets::place_of` that the prover leaves.
use Rattle.std.proofs.Common.{rules}
use Rattle.std.proofs.lemmas.Fn.{always_returns_same}
use Rattle.mk_buffers.specs.inner.Slots.{slot_order}
use Rattle.mk_buffers.proofs.sets.place_of.Goals as goal

pub returns-clause-found : goal.returns-clause-found
returns-clause-found c = c.binary_search_by.ensures.position (λ y. slot_order y c.args.fresh.now) (always_returns_same _ _ _ (λ a r f' k. search rules))
