-- Answers to the goals of `numbers::add` that the prover leaves.
use Rattle.std.proofs.Common.{subst, sym}
use Rattle.mk_connect_pairs.specs.inner.Lookups.{HasNumbers}
use Rattle.mk_connect_pairs.proofs.numbers.add.Goals as goal

pub returns-clause-numbers : goal.returns-clause-numbers
returns-clause-numbers c = subst (HasNumbers c.number_once.new.numbers) (sym c.in_ok-push.ensures.ok) c.in_ok-number_once.ensures
