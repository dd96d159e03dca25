-- Answers to the goals of `both::both_are_shown` that the prover leaves.
use Rattle.mk_progress.proofs.OnBoth.{first_shown, second_shown}
use Rattle.mk_progress.proofs.both.both_are_shown.Goals as goal

pub returns : goal.returns
returns g c P pause had J old new is = (
  first_shown g.A.Onlooker.looks g.B.Onlooker.looks P pause had J old new is,
  second_shown g.A.Onlooker.looks g.B.Onlooker.looks P pause had J old new is,
)
