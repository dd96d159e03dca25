-- Answers to the goals of `pacing::nap_length` that the prover leaves.
use Rattle.std.proofs.Common.{arith}
use Rattle.mk_pace_loop.proofs.Sleeping.{first_early}
use Rattle.mk_pace_loop.proofs.pacing.nap_length.Goals as goal

pub overflow_sub-first : goal.overflow_sub-first
overflow_sub-first c = let e = first_early c.args.told c.args.waiting.now.holds c.in-Some.first c.requires.early c.in-Some.ensures.some in omega (arith, e)

pub returns-in-Some-clause-some : goal.returns-in-Some-clause-some
returns-in-Some-clause-some c = let e = first_early c.args.told c.args.waiting.now.holds c.in-Some.first c.requires.early c.in-Some.ensures.some in omega (arith, e)
