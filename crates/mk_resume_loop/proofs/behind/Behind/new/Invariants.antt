-- The invariants and measures of the loops of `behind::Behind::new`.
use Rattle.std.proofs.Common.{◌-◌, ◌≤◌, length}
use Rattle.mk_resume_loop.proofs.behind.Behind.new.Given as goal

abbrev pub invariant-loop-standings : goal.invariant-loop-standings
invariant-loop-standings l = record {
  few : length l.standings.items ≤ l.sims;
}

abbrev pub decreases-loop-standings : goal.decreases-loop-standings
decreases-loop-standings l = l.sims - length l.standings.items
