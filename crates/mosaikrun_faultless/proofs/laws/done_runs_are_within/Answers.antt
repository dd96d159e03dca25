-- A run within the program that came to its end.
use Rattle.mosaikrun_faultless.proofs.Records.{done}
use Rattle.mosaikrun_faultless.proofs.laws.done_runs_are_within.Goals as goal

pub returns : goal.returns
returns c O bytes S ranks P J read wellformed ranked prepared inside run = done O bytes S ranks P J read wellformed ranked prepared inside run c.runs_are_right.ensures
