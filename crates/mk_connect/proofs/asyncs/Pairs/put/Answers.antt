-- Answers to the goals of `asyncs::Pairs::put` that the prover leaves.
use Rattle.std.proofs.Common.{ap, map, ◌∙◌}
use Rattle.mk_connect.specs.Asyncs.{pair_put}
use Rattle.mk_connect.specs.inner.Asyncs.{async_of}
use Rattle.mk_connect.proofs.Putting.{key_put}
use Rattle.mk_connect.proofs.asyncs.Pairs.put.Goals as goal

pub returns : goal.returns
returns c = ap (map async_of) c.in_ok-insert.ensures.keys ∙ key_put c.self.inside.kept.keys (c.args.pair.from.0, c.args.pair.to.0) ∙ ap (λ l. pair_put l c.args.pair) c.self.view_is
