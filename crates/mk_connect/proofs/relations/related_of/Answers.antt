-- Answers to the goals of `relations::related_of` that the prover leaves.
use Rattle.std.proofs.Common.{ap, [], length, map, ◌∙◌}
use Rattle.std.specs.Prelude.{fold}
use Rattle.std.specs.List.{range_with_len}
use Rattle.mk_connect.specs.inner.Joining.{joined}
use Rattle.mk_connect.specs.Related.{own_pairs, related}
use Rattle.mk_connect.proofs.Joins.{all_related}
use Rattle.mk_connect.proofs.relations.related_of.Goals as goal

pub returns : goal.returns
returns c =
    let es = c.args.study.now.entities.now in
    let same = c.as_slice-entities.ensures.same in
    all_related es c.args.blocks.now c.in_ok-lists.lists.items c.join_own.new.lists.items c.join_blocks.new.lists.items
    (c.in_ok-lists.ensures ∙ ap (λ n. map (related n []) (range_with_len 0 n)) (ap length same))
    (c.in_ok-join_own.ensures ∙ ap (λ l. fold joined c.in_ok-lists.lists.items (own_pairs 0 l)) same)
    c.in_ok-join_blocks.ensures
