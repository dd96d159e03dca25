-- The premise of a handshake within the program.
use Rattle.mk_run_crew.proofs.Faultless.{answered_within}
use Rattle.mk_run_crew.proofs.laws.within_handshakes_are_faultless.Goals as goal

pub returns : goal.returns
returns c A answers P faults new_faults good all made kinds calm = c.answered_handshakes_are_faultless.ensures A faults new_faults good (answered_within A answers P all made kinds) calm
