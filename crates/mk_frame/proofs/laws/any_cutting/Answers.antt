-- Answers to the goals of `laws::any_cutting` that the prover leaves.
use Rattle.std.proofs.Common.{sym, ◌∙◌}
use Rattle.mk_frame.proofs.OnFrames.{joined, allowed_lengths, same_given}
use Rattle.mk_frame.proofs.laws.any_cutting.Goals as goal

pub returns : goal.returns
returns c fed given other held rest before after ended done =
    same_given given other held rest (allowed_lengths fed given held before) (allowed_lengths fed other rest after) ended done
    (sym (joined fed given held before) ∙ joined fed other rest after)
