-- The invariants and measures of the loops of `log::forget_spare`.
use Rattle.std.proofs.Common.{◌≤◌, ◌-◌, deque_len}
use Rattle.mk_buffers_log.specs.Logs.{IsAmong, AnswersFrom}
use Rattle.mk_buffers_log.proofs.Sparing.{IsSifted}
use Rattle.mk_buffers_log.proofs.log.forget_spare.Given as goal

abbrev pub invariant-loop-place : goal.invariant-loop-place
invariant-loop-place l = record {
  inside : l.place ≤ deque_len l.entries;
  answers : AnswersFrom l.vias l.until l.mark l.entries.items l.fn.entries.items;
  among : IsAmong l.entries.items l.fn.entries.items;
  sifted : IsSifted l.vias l.until l.mark l.entries.items l.place;
}

abbrev pub decreases-loop-place : goal.decreases-loop-place
decreases-loop-place l = deque_len l.entries - l.place
