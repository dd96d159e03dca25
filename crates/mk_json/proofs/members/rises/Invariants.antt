-- The invariants and measures of the loops of `members::rises`.
use Rattle.std.proofs.Common.{◌-◌, ◌≤◌, drop, length}
use Rattle.mk_json.proofs.Gathering.{Rises}
use Rattle.mk_json.proofs.members.rises.Given as goal

abbrev pub invariant-loop-i : goal.invariant-loop-i
invariant-loop-i l = (l.i ≤ length l.all) × Rises (drop (l.i - 1) l.all)

abbrev pub decreases-loop-i : goal.decreases-loop-i
decreases-loop-i l = l.i
