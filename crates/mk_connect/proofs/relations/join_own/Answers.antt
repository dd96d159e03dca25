-- Answers to the goals of `relations::join_own` that the prover leaves.
use Rattle.std.proofs.Common.{ap, sym, map, ◌∙◌}
use Rattle.std.specs.Prelude.{fold}
use Rattle.mk_connect.specs.inner.Joining.{joined}
use Rattle.mk_connect.proofs.Joins.{own_more}
use Rattle.mk_connect.proofs.relations.join_own.Goals as goal

pub loop-number-preserved : goal.loop-number-preserved
loop-number-preserved c = c.in_ok-join_with.ensures ∙ ap (λ l. fold joined l (map (λ i. (c.loop-number.number, i)) c.index-entities-number.result.related)) c.loop-number.invariant
    ∙ sym (own_more c.args.lists.now.items c.args.entities.now c.loop-number.number c.index-entities-number.result c.loop-number-test.true c.index-entities-number.is)
