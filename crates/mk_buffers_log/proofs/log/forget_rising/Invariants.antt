-- The invariants and measures of the loops of `log::forget_rising`.
use Rattle.std.proofs.Common.{◌≤◌, ◌-◌, deque_len}
use Rattle.mk_buffers_log.specs.Logs.{IsAmong, AnswersFrom}
use Rattle.mk_buffers_log.specs.inner.Logs.{IsAscending}
use Rattle.mk_buffers_log.proofs.Keeping.{IsWalked}
use Rattle.mk_buffers_log.proofs.log.forget_rising.Given as goal

abbrev pub invariant-loop-mark : goal.invariant-loop-mark
invariant-loop-mark l = record {
  inside : l.place ≤ deque_len l.entries;
  ascends : IsAscending l.entries.items;
  answers : AnswersFrom l.vias l.until l.mark l.entries.items l.fn.entries.items;
  among : IsAmong l.entries.items l.fn.entries.items;
  walked : IsWalked l.vias l.until l.mark l.entries.items l.place;
}

abbrev pub decreases-loop-mark : goal.decreases-loop-mark
decreases-loop-mark l = deque_len l.entries - l.place
