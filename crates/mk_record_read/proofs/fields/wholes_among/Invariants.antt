-- The invariants and measures of the loops of `fields::wholes_among`.
use Rattle.std.proofs.Common.{◌≡◌, Some, map, take}
use Rattle.mk_base.specs.Lists.{all_there}
use Rattle.mk_base.specs.Trees.{whole_in}
use Rattle.mk_record_read.proofs.fields.wholes_among.Given as goal

abbrev pub invariant-loop-item : goal.invariant-loop-item
invariant-loop-item l = all_there (map whole_in (take l.item-index l.items)) ≡ Some l.found
