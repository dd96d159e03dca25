-- Answers to the goals of `places::place_of` that the prover leaves.
use Rattle.std.proofs.Common.{rules}
use Rattle.std.proofs.lemmas.Fn.{always_returns_same}
use Rattle.mk_base.proofs.Searching.{is_past, parted, place_is}
use Rattle.mk_base.proofs.places.place_of.Goals as goal

pub returns : goal.returns
returns g c = place_is c.args.name.now c.args.entries.now c.partition_point.result c.partition_point.ensures.bound
    (c.partition_point.ensures.partitioned (is_past c.args.name.now) (always_returns_same _ _ _ (λ a r f' k. search rules)) (parted c.args.name.now c.args.entries.now c.requires))
