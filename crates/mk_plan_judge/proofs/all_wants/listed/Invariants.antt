-- The invariants and measures of the loops of `all_wants::listed`.
use Rattle.std.proofs.Common.{take}
use Rattle.mk_plan_judge.specs.inner.Takings.{AreWantsOf}
use Rattle.mk_plan_judge.proofs.all_wants.listed.Given as goal

abbrev pub invariant-loop-taking : goal.invariant-loop-taking
invariant-loop-taking l = AreWantsOf l.count (take l.taking-index l.takings) l.lists.items
