-- The invariants and measures of the loops of `signs::free_bytes`.
use Rattle.std.proofs.Common.{◌≡◌, ◌≤◌, ◌-◌, true, length, take}
use Rattle.std.specs.List.{list_all}
use Rattle.mk_message_plain.specs.inner.Signs.{is_free}
use Rattle.mk_message_plain.proofs.signs.free_bytes.Given as goal

abbrev pub invariant-loop-count : goal.invariant-loop-count
invariant-loop-count l = (l.count ≤ length l.fn.text) × (list_all is_free (take l.count l.fn.text) ≡ true)

abbrev pub decreases-loop-count : goal.decreases-loop-count
decreases-loop-count l = length l.fn.text - l.count
