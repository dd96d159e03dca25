-- The invariants and measures of the loops of `log::latest_of_all`.
use Rattle.std.proofs.Common.{◌≡◌, option_map, take}
use Rattle.mk_plan.specs.Inputs.{latest}
use Rattle.mk_buffers_log.specs.Logs.{arrival, arrivals, by}
use Rattle.mk_buffers_log.proofs.log.latest_of_all.Given as goal

abbrev pub invariant-loop-place : goal.invariant-loop-place
invariant-loop-place l = option_map (λ m. arrival l.via m.now) l.best ≡ latest (by l.at (arrivals l.via l.until (take l.place l.entries.items)))
