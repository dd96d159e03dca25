-- proofs/replaying/replay_is_one/Answers.antt
use Rattle.mk_record_replay.proofs.OneOrder.{one_replay_by}
use Rattle.mk_record_replay.proofs.replaying.replay_is_one.Goals as goal

pub returns : goal.returns
returns c = one_replay_by
