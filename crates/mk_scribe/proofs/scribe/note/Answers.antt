-- Answers to the goals of `scribe::note` that the prover leaves.
use Rattle.std.proofs.Common.{refl}
use Rattle.mk_scribe.proofs.Noting.{notes}
use Rattle.mk_scribe.proofs.scribe.note.Goals as goal

pub returns-then-is_pause : goal.returns-then-is_pause
returns-then-is_pause g c = notes _ _ c.args.sheet.now c.add.new.self _ c.args.plan.now c.args.fresh.now c.args.is_pause refl c.add.ensures c.hand_over.ensures refl refl
