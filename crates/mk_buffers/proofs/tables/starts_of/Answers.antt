-- Answers to the goals of `tables::starts_of` that the prover leaves.
use Rattle.std.proofs.Common.{◌∙◌, sym, subst, arith}
use Rattle.mk_buffers.specs.Marking.{AreAsking}
use Rattle.mk_buffers.specs.inner.Standing.{AreUnset}
use Rattle.mk_buffers.proofs.tables.starts_of.Goals as goal

pub returns : goal.returns
returns c = record {
  sets = subst (λ n. AreUnset n c.in_ok-sets.sets.items) c.len.ensures c.in_ok-sets.ensures;
  asking = subst (AreAsking c.args.plan.now) (sym c.in_ok-marks.ensures.start.0) c.in_ok-asking.ensures;
  least = c.in_ok-marks.ensures.exact;
  starts = c.in_ok-marks.ensures.starts;
  marks = c.in_ok-marks.ensures.count ∙ c.in_ok-asking.ensures.count;
  noted = omega (arith, c.in_ok-next_marks.ensures.len, c.len-2.ensures);
}
