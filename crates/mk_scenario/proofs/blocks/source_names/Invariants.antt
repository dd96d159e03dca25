-- The names so far are the sources of the pairs gone through.
use Rattle.std.proofs.Common.{◌≡◌, take}
use Rattle.mk_scenario.specs.Blocks.{source_names}
use Rattle.mk_scenario.proofs.blocks.source_names.Given as goal

abbrev pub invariant-loop-pair : goal.invariant-loop-pair
invariant-loop-pair l = l.names ≡ source_names (take l.pair-index l.attrs)
