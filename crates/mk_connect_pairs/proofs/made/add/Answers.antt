-- Answers to the goals of `made::add` that the prover leaves.
use Rattle.std.proofs.Common.{subst, sym}
use Rattle.mk_connect_pairs.specs.inner.Lookups.{HasWays}
use Rattle.mk_connect_pairs.proofs.made.add.Goals as goal

pub returns-clause-ways : goal.returns-clause-ways
returns-clause-ways c = subst (HasWays c.know.new.ways) (sym c.in_ok-push.ensures.ok) c.in_ok-know.ensures
