-- Answers to the goals of `scribe::ScribeOnlooker::look` that the prover leaves.
use Rattle.mk_scribe.proofs.Texts.{writable}
use Rattle.mk_scribe.proofs.scribe.ScribeOnlooker.look.Goals as goal

pub note-requires : goal.note-requires
note-requires g c = writable c.args.fresh.now c.requires.in_range
