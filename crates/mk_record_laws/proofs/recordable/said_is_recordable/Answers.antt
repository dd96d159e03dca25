-- Answers to the goals of `recordable::said_is_recordable` that the prover leaves.
use Rattle.mk_record_laws.proofs.Recorded.{recordable}
use Rattle.mk_record_laws.proofs.recordable.said_is_recordable.Goals as goal

pub returns : goal.returns
returns c bytes P A steps J read valid eager given within = recordable bytes P A steps J read valid eager given within
