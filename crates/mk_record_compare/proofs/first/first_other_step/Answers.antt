-- Answers to the goals of `first::first_other_step` that the prover leaves.
use Rattle.std.proofs.Common.{◌∙◌}
use Rattle.mk_record_compare.proofs.Named.{all_kept, begins_too, other_too}
use Rattle.mk_record_compare.proofs.first.first_other_step.Goals as goal

pub returns-in-Some : goal.returns-in-Some
returns-in-Some c = λ A all begins. let t = all_kept A in
    other_too A _ c.args.steps.now c.in-Some.steps c.as_slice.result.now c.args.journal.now.entries c.as_slice-in-Some.result.now c.other_among.result t.1 c.in-Some.is c.as_slice.ensures c.as_slice-in-Some.ensures
    (c.other_among.ensures t.0 (begins_too A _ c.args.journal.now.entries c.as_slice-in-Some.result.now t.1 c.as_slice-in-Some.ensures begins, t.2 ∙ all))
