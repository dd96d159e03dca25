-- Answers to the goals of `places::search` that the prover leaves.
use Rattle.std.proofs.Common.{◌∙◌}
use Rattle.mk_base.proofs.Searching.{found_at}
use Rattle.mk_base.proofs.places.search.Goals as goal

pub returns : goal.returns
returns g c = c.value_at-value.ensures ∙ found_at c.args.name.now c.args.entries.now c.place_of-place.result c.place_of-place.ensures c.requires
