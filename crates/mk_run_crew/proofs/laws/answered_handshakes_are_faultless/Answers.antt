-- The premise of a handshake in which each request is answered.
use Rattle.mk_outside.specs.Counts.{HasRisen}
use Rattle.mk_run_crew.proofs.Answered.{faultless}
use Rattle.mk_run_crew.proofs.laws.answered_handshakes_are_faultless.Goals as goal

pub returns : goal.returns
returns c A faults new_faults good answered calm = faultless A answered c.replies_make.ensures good (HasRisen faults new_faults) calm
