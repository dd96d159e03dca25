-- The invariants and measures of the loops of `log::is_newest_by`.
use Rattle.std.proofs.Common.{◌<◌, ℕ, Some, get_or}
use Rattle.mk_base.specs.declared.tier.Via.{Via}
use Rattle.mk_buffers_log.specs.inner.Logs.{IsOutdoneAt}
use Rattle.mk_buffers_log.proofs.log.is_newest_by.Given as goal

abbrev pub invariant-loop-via : goal.invariant-loop-via
invariant-loop-via l = (k : ℕ) (v : Via) → k < l.via-index → IsOutdoneAt (get_or l.vias k v) (Some l.until) l.mark l.entries.items l.place
