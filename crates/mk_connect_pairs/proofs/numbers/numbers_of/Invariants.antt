-- The invariants and measures of the loops of `numbers::numbers_of`.
use Rattle.std.proofs.Common.{◌≡◌, map, take}
use Rattle.mk_connect_pairs.specs.Models.{model_number}
use Rattle.mk_connect_pairs.proofs.numbers.numbers_of.Given as goal

abbrev pub invariant-loop-entity : goal.invariant-loop-entity
invariant-loop-entity l = l.numbers ≡ map (model_number l.models) (take l.entity-index l.entities)
