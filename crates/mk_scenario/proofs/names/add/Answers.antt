-- Answers to the goals of `names::add` that the prover leaves.
use Rattle.std.proofs.Common.{◌∙◌, ◌++◌, ◌∷◌, [], ap, subst, sym}
use Rattle.mk_scenario.specs.inner.Places.{HasPlaces}
use Rattle.mk_scenario.proofs.names.add.Goals as goal

pub returns-clause-places : goal.returns-clause-places
returns-clause-places c = subst (HasPlaces c.place.new.places) (sym (c.in_ok-push.ensures.ok ∙ ap (λ t. c.args.ids.now ++ t ∷ []) c.in_ok-copy.ensures)) c.in_ok-place.ensures
