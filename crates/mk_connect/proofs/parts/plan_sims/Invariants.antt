-- The invariants and measures of the loops of `parts::plan_sims`.
use Rattle.std.proofs.Common.{◌≡◌, take}
use Rattle.mk_connect.specs.ByPlace.{by_place}
use Rattle.mk_connect.specs.Made.{plan_sim}
use Rattle.mk_connect.proofs.parts.plan_sims.Given as goal

abbrev pub invariant-loop-s : goal.invariant-loop-s
invariant-loop-s l = l.sims ≡ by_place (plan_sim l.metas l.ranks l.first_ids) 0 (take l.s l.part-items)
