-- Answers to the goals of `agreement::do_agree` that the prover leaves.
use Rattle.std.proofs.Common.{◌∙◌, ap}
use Rattle.mk_plan_check.specs.inner.Marks.{agree_by, all_next}
use Rattle.mk_plan_check.proofs.Neighbours.{scanned_agree}
use Rattle.mk_plan_check.proofs.agreement.do_agree.Goals as goal

pub returns : goal.returns
returns c = c.next_agree.ensures ∙ ap (all_next agree_by) c.as_slice.ensures.value ∙ scanned_agree c.args.marks.items c.sort.new.marks.items c.sort.ensures.permuted c.sort.ensures.sorted
