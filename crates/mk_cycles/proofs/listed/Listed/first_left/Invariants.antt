-- The invariants and measures of the loops of `listed::Listed::first_left`.
use Rattle.std.proofs.Common.{◌≡◌, ℕ, ◌<◌, true, false, slice_index_or}
use Rattle.mk_cycles.proofs.listed.Listed.first_left.Given as goal

abbrev pub invariant-loop-number : goal.invariant-loop-number
invariant-loop-number l = (k : ℕ) → k < l.number → slice_index_or l.self-inside.marks.items k false ≡ true
