-- Answers to the goals of `shares::note_item` that the prover leaves.
use Rattle.std.proofs.Common.{◌∙◌, ap, length, ◌<◌, ◌≤◌, map, arith}
use Rattle.mk_base.proofs.Lists.{map_append}
use Rattle.mk_watch.proofs.Shared.{noted, passed_by}
use Rattle.mk_watch.proofs.shares.note_item.Goals as goal

pub returns-in_ok-push : goal.returns-in_ok-push
returns-in_ok-push c count J are =
    let low : c.args.sim.0 < length c.args.shares.now.items = omega arith in
    noted _ count J c.args.sim c.args.item.now c.args.shares.now.items c.index_mut.result.now c.push.new.self low c.index_mut.ensures.value
    (ap (map _) c.in_ok-push.ensures.items ∙ map_append _ c.index_mut.result.now.items _) are

pub returns-else-place-len : goal.returns-else-place-len
returns-else-place-len c count J are =
    let past : length c.args.shares.now.items ≤ c.args.sim.0 = omega arith in
    passed_by _ count J c.args.sim c.args.item.now c.args.shares.now.items past are
