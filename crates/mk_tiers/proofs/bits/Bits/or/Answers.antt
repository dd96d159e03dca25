-- Answers to the goals of `bits::Bits::or` that the prover leaves.
use Rattle.mk_tiers.proofs.Setting.{joined}
use Rattle.mk_tiers.proofs.bits.Bits.or.Goals as goal

pub returns : goal.returns
returns c = joined c.args.self.words c.args.other.words
