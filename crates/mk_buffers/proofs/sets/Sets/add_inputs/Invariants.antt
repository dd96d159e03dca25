-- The invariants and measures of the loops of `sets::Sets::add_inputs`.
use Rattle.std.proofs.Common.{◌≡◌, take}
use Rattle.std.specs.List.Sorted.{IsStrictlySortedBy}
use Rattle.mk_plan.specs.Inputs.{input_order, put_all}
use Rattle.mk_buffers.specs.inner.Slots.{set_inputs}
use Rattle.mk_buffers.proofs.sets.Sets.add_inputs.Given as goal

abbrev pub invariant-loop-slot : goal.invariant-loop-slot
invariant-loop-slot l = IsStrictlySortedBy input_order l.fn.inputs → (l.inputs ≡ put_all (set_inputs (take l.slot-index l.slot-items) l.previous l.at) l.fn.inputs) × IsStrictlySortedBy input_order l.inputs
