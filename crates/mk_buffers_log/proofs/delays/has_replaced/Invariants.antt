-- The invariants and measures of the loops of `delays::has_replaced`.
use Rattle.std.proofs.Common.{◌≡◌, true, ◌||◌, int_le, Some, take}
use Rattle.std.specs.List.{list_all}
use Rattle.mk_base.specs.Tiers.{delayed}
use Rattle.mk_buffers_log.specs.inner.Logs.{does_come}
use Rattle.mk_buffers_log.proofs.delays.has_replaced.Given as goal

abbrev pub invariant-loop-via : goal.invariant-loop-via
invariant-loop-via l = list_all (λ v. does_come v (Some l.until) l.mark l.second || int_le l.until (delayed l.first v).time) (take l.via-index l.vias) ≡ true
