-- The invariants and measures of the loops of `log::next_rising`.
use Rattle.std.proofs.Common.{◌≤◌, ◌-◌, deque_len}
use Rattle.mk_buffers_log.proofs.Keeping.{Stays}
use Rattle.mk_buffers_log.proofs.log.next_rising.Given as goal

abbrev pub invariant-loop-place : goal.invariant-loop-place
invariant-loop-place l = record {
  inside : l.place ≤ deque_len l.entries;
  stays : Stays l.vias l.until l.mark l.next l.entries.items l.place;
}

abbrev pub decreases-loop-place : goal.decreases-loop-place
decreases-loop-place l = deque_len l.entries - l.place
