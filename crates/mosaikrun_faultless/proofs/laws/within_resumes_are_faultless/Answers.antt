-- The premise of a run within the program that goes on from a record.
use Rattle.mosaikrun_faultless.proofs.Resumes.{resume}
use Rattle.mosaikrun_faultless.proofs.laws.within_resumes_are_faultless.Goals as goal

pub returns : goal.returns
returns c O bytes recorded within calm = resume O bytes recorded within c.restored_is_one.ensures c.within_handshakes_are_faultless.ensures calm
