-- The invariants and measures of the loops of `asking::ask_all`.
use Rattle.std.proofs.Common.{◌≡◌, None, ◌-◌, length}
use Rattle.mk_record_replay.specs.inner.Loops.{GoesOn}
use Rattle.mk_record_replay.proofs.asking.ask_all.Given as goal

abbrev pub invariant-asking : goal.invariant-asking
invariant-asking l = record { going : l.core.ended ≡ None; goes : GoesOn l.fn.core l.core }

abbrev pub decreases-asking : goal.decreases-asking
decreases-asking l = l.core.plan.entries - length l.core.entries
