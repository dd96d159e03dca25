-- The invariants and measures of the loops of `sets::Settings::last_within`.
use Rattle.std.proofs.Common.{◌≡◌, ◌≤◌, false, length, filter, take}
use Rattle.mk_buffers_log.specs.Logs.{within}
use Rattle.mk_buffers.specs.Slots.{last_of, last_within}
use Rattle.mk_buffers.proofs.sets.Settings.last_within.Given as goal

abbrev pub invariant-loop-place : goal.invariant-loop-place
invariant-loop-place l = (l.place ≤ length l.self-inside.kept.items) × (last_within l.previous l.at l.self-inside.kept.items ≡ last_of (filter (within false l.previous l.at) (take l.place l.self-inside.kept.items)))

abbrev pub decreases-loop-place : goal.decreases-loop-place
decreases-loop-place l = l.place
