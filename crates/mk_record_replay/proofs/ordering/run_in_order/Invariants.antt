-- proofs/ordering/run_in_order/Invariants.antt
use Rattle.std.proofs.Common.{◌≡◌, ◌-◌, List, length}
use Rattle.mk_plan.specs.Journals as journals
use Rattle.mk_record_replay.specs.inner.Rounds.{CanGoOn, IsBetween}
use Rattle.mk_record_replay.proofs.ordering.run_in_order.Given as goal

abbrev pub invariant-giving : goal.invariant-giving
invariant-giving l = record {
  going : CanGoOn l.core l.waiting.items;
  plan : l.core.plan ≡ l.fn.core.plan;
  between : (A : List journals.Arrival) → IsBetween A l.fn.order l.fn.core l.fn.waiting.items l.fn.order → IsBetween A l.fn.order l.core l.waiting.items l.number;
}

abbrev pub decreases-giving : goal.decreases-giving
decreases-giving l = l.core.plan.entries - length l.core.entries
