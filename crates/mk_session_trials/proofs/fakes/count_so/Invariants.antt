-- The invariants and measures of the loops of `fakes::count_so`.
use Rattle.mk_base.specs.Lists.{IsIn}
use Rattle.mk_session_trials.proofs.fakes.count_so.Given as goal

abbrev pub invariant-loop-place : goal.invariant-loop-place
invariant-loop-place g l = IsIn l.link (g.F.Fleet.open_links l.fleet)
