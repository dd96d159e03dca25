-- proofs/replaying/record_has_one_outcome/Answers.antt
use Rattle.mosaikrun_records.proofs.OneOutcome.{one_outcome, one_text}
use Rattle.mosaikrun_records.proofs.replaying.record_has_one_outcome.Goals as goal

pub returns : goal.returns
returns c = record { outcome = one_outcome; report = one_text }
