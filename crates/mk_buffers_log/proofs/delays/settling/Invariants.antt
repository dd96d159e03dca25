-- The invariants and measures of the loops of `delays::settling`.
use Rattle.std.proofs.Common.{◌≡◌, true}
use Rattle.mk_base.specs.declared.tier.Tier.{Tier}
use Rattle.mk_base.specs.Tiers.{IsUpTo}
use Rattle.mk_buffers_log.specs.Logs.{is_settled}
use Rattle.mk_buffers_log.proofs.delays.settling.Given as goal

abbrev pub invariant-loop-via : goal.invariant-loop-via
invariant-loop-via l = (m : Tier) → is_settled l.vias l.until m l.made ≡ true → IsUpTo l.last m
