-- Answers to the goals of `talks::note` that the prover leaves.
use Rattle.std.proofs.Common.{◌∙◌, ap, subst, length, ◌<◌, ◌≤◌, map}
use Rattle.mk_base.proofs.Lists.{map_append}
use Rattle.mk_blame.proofs.Grouping.{noted, passed_by}
use Rattle.mk_blame.proofs.talks.note.Goals as goal

pub returns-in_ok-push : goal.returns-in_ok-push
returns-in_ok-push c count J are =
    noted _ count J c.args.entry.now c.args.talks.now.items c.place_of-place.result c.index_mut.result.now c.push.new.self c.place_of-place.ensures
    (subst (λ n. c.place_of-place.result < n) (ap length c.as_slice.ensures.value) c.if-place-as_slice.true) c.index_mut.ensures.value
    (ap (map _) c.in_ok-push.ensures.items ∙ map_append _ c.index_mut.result.now.items _) are

pub returns-else-place-as_slice : goal.returns-else-place-as_slice
returns-else-place-as_slice c count J are =
    passed_by _ count J c.args.entry.now c.args.talks.now.items c.place_of-place.result c.place_of-place.ensures
    (subst (λ n. n ≤ c.place_of-place.result) (ap length c.as_slice.ensures.value) c.if-place-as_slice.false) are
