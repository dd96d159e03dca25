-- The invariants and measures of the loops of `sending::send_due`.
use Rattle.std.proofs.Common.{◌≡◌}
use Rattle.mk_local.specs.Registries.{rows_in}
use Rattle.mk_run_local.specs.Seen.{AreOf}
use Rattle.mk_run_crew.specs.Seen.{within_of}
use Rattle.mk_run.specs.inner.Turns.{IsStill}
use Rattle.mk_pace_loop.specs.inner.Sendings.{held_count}
use Rattle.mk_pace_loop.specs.inner.Waiting.{IsOnTempo}
use Rattle.mk_pace_loop.proofs.SendSteps.{HasSent}
use Rattle.mk_pace_loop.proofs.sending.send_due.Given as goal

-- each Step that was sent so far was due
abbrev pub invariant-sending : goal.invariant-sending
invariant-sending g l = record {
  known : AreOf (rows_in l.kinds) (within_of l.crew);
  still : IsStill l.fn.crew l.crew;
  same_halt : l.crew.halt ≡ l.fn.crew.halt;
  on_tempo : IsOnTempo l.fn.waiting l.waiting;
  goes : HasSent l.told l.core l.fn.crew l.fn.waiting l.crew l.waiting;
}

abbrev pub decreases-sending : goal.decreases-sending
decreases-sending g l = held_count l.waiting.holds
