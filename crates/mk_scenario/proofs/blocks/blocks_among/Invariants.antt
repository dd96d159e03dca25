-- The invariants and measures of the loops of `blocks::blocks_among`.
use Rattle.mk_scenario_keys.proofs.Gathering.{Gathers}
use Rattle.mk_scenario.specs.Blocks.{block_in}
use Rattle.mk_scenario.proofs.blocks.blocks_among.Given as goal

abbrev pub invariant-loop-i : goal.invariant-loop-i
invariant-loop-i l = Gathers (block_in l.sims l.groups) l.tables l.i l.found
