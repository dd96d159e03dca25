-- The invariants and measures of the loops of `blocks::group_ids`.
use Rattle.std.proofs.Common.{◌≡◌, take}
use Rattle.mk_scenario.specs.References.{group_ids}
use Rattle.mk_scenario.proofs.blocks.group_ids.Given as goal

abbrev pub invariant-loop-group : goal.invariant-loop-group
invariant-loop-group l = l.ids ≡ group_ids (take l.group-index l.groups)
