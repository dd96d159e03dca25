-- Answers to the goals of `relations::put` that the prover leaves.
use Rattle.mk_connect.proofs.Joins.{set_put}
use Rattle.mk_connect.proofs.relations.put.Goals as goal

pub returns-clause-ok : goal.returns-clause-ok
returns-clause-ok c = set_put c.args.i c.args.j c.args.lists.now.items c.index_mut.result.now _ c.put.new.self c.requires c.index_mut.ensures.value c.in_ok-put.ensures
