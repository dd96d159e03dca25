-- The premise of a run by a clock within the program.
use Rattle.mosaikrun_faultless.proofs.Studies.{paced}
use Rattle.mosaikrun_faultless.proofs.laws.within_paced_studies_are_faultless.Goals as goal

pub returns : goal.returns
returns c O factor strict bytes within calm = paced O bytes within c.within_handshakes_are_faultless.ensures calm factor strict
