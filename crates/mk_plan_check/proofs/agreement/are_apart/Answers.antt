-- Answers to the goals of `agreement::are_apart` that the prover leaves.
use Rattle.std.proofs.Common.{◌∙◌, ap}
use Rattle.mk_plan_check.specs.inner.Marks.{differ_by, all_next}
use Rattle.mk_plan_check.proofs.Neighbours.{scanned_differ}
use Rattle.mk_plan_check.proofs.agreement.are_apart.Goals as goal

pub returns : goal.returns
returns c = c.next_differ.ensures ∙ ap (all_next differ_by) c.as_slice.ensures.value ∙ scanned_differ c.args.marks.items c.sort.new.marks.items c.sort.ensures.permuted c.sort.ensures.sorted
