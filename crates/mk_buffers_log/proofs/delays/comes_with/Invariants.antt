-- The invariants and measures of the loops of `delays::comes_with`.
use Rattle.std.proofs.Common.{◌≡◌, true, ◌||◌, int_le, int_lt, take}
use Rattle.std.specs.List.{list_all}
use Rattle.mk_base.specs.Tiers.{delayed}
use Rattle.mk_buffers_log.proofs.delays.comes_with.Given as goal

abbrev pub invariant-loop-via : goal.invariant-loop-via
invariant-loop-via l = list_all (λ v. int_le l.until (delayed l.first v).time || int_lt (delayed l.second v).time l.until) (take l.via-index l.vias) ≡ true
