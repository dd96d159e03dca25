-- Sets that are joined: those before the place are, the rest are as they were.
use Rattle.std.proofs.Common.{◌≡◌, ℕ, ◌<◌, ◌≤◌, slice_get, Some}
use Rattle.mk_tiers.specs.declared.bits.Bits.{Bits}
use Rattle.mk_tiers.specs.inner.Levels.{IsJoined}
use Rattle.mk_tiers.proofs.levels.join.Given as goal

abbrev pub invariant-loop-sim : goal.invariant-loop-sim
invariant-loop-sim l = record {
  done : (s : ℕ) (one now : Bits) → s < l.sim → slice_get l.fn.sets s ≡ Some one → slice_get l.sets s ≡ Some now → IsJoined l.middle one l.more now;
  rest : (s : ℕ) → l.sim ≤ s → slice_get l.sets s ≡ slice_get l.fn.sets s;
}
