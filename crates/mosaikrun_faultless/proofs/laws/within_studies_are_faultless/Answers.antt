-- The premise of a run within the program.
use Rattle.mosaikrun_faultless.proofs.Studies.{study}
use Rattle.mosaikrun_faultless.proofs.laws.within_studies_are_faultless.Goals as goal

pub returns : goal.returns
returns c O bytes within calm = study O bytes within c.within_handshakes_are_faultless.ensures calm
