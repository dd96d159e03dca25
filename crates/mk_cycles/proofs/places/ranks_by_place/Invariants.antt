-- The invariants and measures of the loops of `places::ranks_by_place`.
use Rattle.std.proofs.Common.{◌≡◌, ℕ, ◌<◌, length, slice_get, Some}
use Rattle.mk_cycles.proofs.places.ranks_by_place.Given as goal

abbrev pub invariant-loop-sim : goal.invariant-loop-sim
invariant-loop-sim l = length l.ranks ≡ l._sim

abbrev pub invariant-loop-rank : goal.invariant-loop-rank
invariant-loop-rank l = record { count : length l.ranks ≡ l.placed.count; written : (r s : ℕ) → r < l.rank → slice_get l.order r ≡ Some s → slice_get l.ranks s ≡ Some r }
