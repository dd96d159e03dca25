-- Answers to the goals of `marks::Marks::new` that the prover leaves.
use Rattle.std.proofs.Common.{arith, refl, subst, length}
use Rattle.mk_buffers.specs.inner.Marking.{IsBest}
use Rattle.mk_buffers.proofs.Marking.{low_starts, holds_starts, exact_of}
use Rattle.mk_buffers.proofs.marks.Marks.new.Goals as goal

pub invariant_of-result : goal.invariant_of-result
invariant_of-result c =
    let best = subst (λ a. IsBest c.in_ok-marks.marks.items a (length c.in_ok-marks.marks.items) c.least_asking.result) c.as_slice-2.ensures.value (subst (λ l. IsBest l c.as_slice-2.result.now (length l) c.least_asking.result) c.as_slice.ensures.value c.least_asking.ensures) in
    (omega (arith, c.in_ok-marks.ensures.count), low_starts c.in_ok-marks.marks.items c.args.asks.items c.in_ok-marks.ensures.low, holds_starts c.in_ok-marks.marks.items c.args.asks.items (length c.in_ok-marks.marks.items) c.least_asking.result c.unwrap_or-holder.result c.in_ok-marks.ensures.low refl (omega (arith, c.in_ok-marks.ensures.count)) best c.unwrap_or-holder.ensures)

pub returns-clause-exact : goal.returns-clause-exact
returns-clause-exact c =
    let best = subst (λ a. IsBest c.in_ok-marks.marks.items a (length c.in_ok-marks.marks.items) c.least_asking.result) c.as_slice-2.ensures.value (subst (λ l. IsBest l c.as_slice-2.result.now (length l) c.least_asking.result) c.as_slice.ensures.value c.least_asking.ensures) in
    exact_of c.in_ok-marks.marks.items c.args.asks.items _ c.unwrap_or-holder.result (low_starts c.in_ok-marks.marks.items c.args.asks.items c.in_ok-marks.ensures.low) (holds_starts c.in_ok-marks.marks.items c.args.asks.items (length c.in_ok-marks.marks.items) c.least_asking.result c.unwrap_or-holder.result c.in_ok-marks.ensures.low refl (omega (arith, c.in_ok-marks.ensures.count)) best c.unwrap_or-holder.ensures)
