-- The invariants and measures of the loops of `data::values_by`.
use Rattle.std.proofs.Common.{◌≡◌, take}
use Rattle.mk_plan.specs.Deliveries.{Supply}
use Rattle.mk_plan.specs.Inputs.{value_at}
use Rattle.mk_buffers.specs.Standing.{StandFor}
use Rattle.mk_async.specs.inner.Content.{values_by}
use Rattle.mk_async.proofs.data.values_by.Given as goal

abbrev pub invariant-loop-attr : goal.invariant-loop-attr
invariant-loop-attr l = (l.attr-items ≡ l.attrs) × ((S : Supply) → StandFor l.plan l.buffers S → l.values ≡ values_by (value_at S l.at) l.entity (take l.attr-index l.attr-items))
