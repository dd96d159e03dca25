-- The invariants and measures of the loops of `back::place_of_least`.
use Rattle.std.proofs.Common.{ℕ, ◌<◌, ◌≤◌, slice_index}
use Rattle.mk_cycles.proofs.back.place_of_least.Given as goal

abbrev pub invariant-loop-i : goal.invariant-loop-i
invariant-loop-i l = record { place : l.best < l.i; least : (k : ℕ) → k < l.i → slice_index l.numbers l.best ≤ slice_index l.numbers k }
