-- The invariants and measures of the loops of `making::put_numbers`.
use Rattle.std.proofs.Common.{◌≡◌, take, filter_map}
use Rattle.mk_entities.specs.inner.Making.{number_in, with_numbers}
use Rattle.mk_entities.proofs.making.put_numbers.Given as goal

abbrev pub invariant-loop-text : goal.invariant-loop-text
invariant-loop-text l = (l.text-items ≡ l.texts) × (l.into.keys ≡ with_numbers l.fn.into.keys (filter_map (number_in l.names) (take l.text-index l.texts)))
