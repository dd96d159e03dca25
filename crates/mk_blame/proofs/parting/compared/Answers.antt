-- The answers of `compared`.
use Rattle.std.proofs.Common.{◌<◌, ◌≤◌, subst, sym, arith}
use Rattle.mk_plan_same.proofs.Pairs.{next_same}
use Rattle.mk_base.proofs.AtPlaces.{map_get, map_item}
use Rattle.mk_blame.specs.Talks.{said}
use Rattle.mk_blame.proofs.Parts.{all_the_same, counted, ends_at, goes_on_at, one_at_most, parts_at, stepped}
use Rattle.mk_blame.proofs.parting.compared.Goals as goal
use Rattle.mk_base.proofs.Items.{length_map}

pub returns-then-number-other : goal.returns-then-number-other
returns-then-number-other c = ends_at _ _ c.loop-number.number (said c.index-talk-number.result.now)
    (subst (λ n. c.loop-number.number < n) (sym (length_map _ c.args.talk.now)) c.loop-number-test.true)
    (subst (λ n. n ≤ c.loop-number.number) (sym (length_map _ c.args.other.now)) c.if-number-other.true)
    (map_item _ c.args.talk.now c.loop-number.number c.index-talk-number.result c.loop-number-test.true c.index-talk-number.is) c.loop-number.invariant.same

pub returns-then-not-says_same : goal.returns-then-not-says_same
returns-then-not-says_same c = parts_at _ _ c.loop-number.number c.loop-number.place c.loop-number.at (said c.index-talk-number.result.now) (said c.index-other-number.result.now)
    (subst (λ n. c.loop-number.number < n) (sym (length_map _ c.args.talk.now)) c.loop-number-test.true)
    (subst (λ n. c.loop-number.number < n) (sym (length_map _ c.args.other.now)) c.if-number-other.false)
    (map_item _ c.args.talk.now c.loop-number.number c.index-talk-number.result c.loop-number-test.true c.index-talk-number.is)
    (map_item _ c.args.other.now c.loop-number.number c.index-other-number.result c.if-number-other.false c.index-other-number.is)
    c.loop-number.invariant.same c.if-not-says_same.ensures c.loop-number.invariant.place c.loop-number.invariant.at

pub loop-number-preserved : goal.loop-number-preserved
loop-number-preserved c =
    let low = subst (λ n. c.loop-number.number < n) (sym (length_map _ c.args.talk.now)) c.loop-number-test.true in
    let is = map_item _ c.args.talk.now c.loop-number.number c.index-talk-number.result c.loop-number-test.true c.index-talk-number.is in
    record {
      low = let under = c.if-number-other.false in omega (arith, under);
      same = next_same _ _ c.loop-number.number (said c.index-talk-number.result.now) (said c.index-other-number.result.now) low is
          (map_get _ c.args.other.now c.loop-number.number c.index-other-number.result c.if-number-other.false c.index-other-number.is) c.if-not-says_same.ensures c.loop-number.invariant.same;
      place = counted _ c.loop-number.number (said c.index-talk-number.result.now) low is c.loop-number.place c.messages_in-place.result c.loop-number.invariant.place c.messages_in-place.ensures;
      small = let one = one_at_most (said c.index-talk-number.result.now) c.messages_in-place.result c.messages_in-place.ensures in let before = c.loop-number.invariant.small in omega (arith, one, before);
      at = stepped _ c.loop-number.number (said c.index-talk-number.result.now) low is c.loop-number.at c.step_after-at.result c.loop-number.invariant.at c.step_after-at.ensures;
    }

pub returns-then-talk-other : goal.returns-then-talk-other
returns-then-talk-other c = goes_on_at _ _ c.loop-number.number
    (subst (λ n. n ≤ c.loop-number.number) (sym (length_map _ c.args.talk.now)) c.loop-number-test.false)
    (let one = length_map (λ e. said e.now) c.args.talk.now in let other = length_map (λ e. said e.now) c.args.other.now in let less = c.if-talk-other.true in omega (arith, one, other, less))
    c.loop-number.invariant.same

pub returns-else-talk-other : goal.returns-else-talk-other
returns-else-talk-other c = all_the_same _ _ c.loop-number.number
    (subst (λ n. n ≤ c.loop-number.number) (sym (length_map _ c.args.talk.now)) c.loop-number-test.false)
    (let one = length_map (λ e. said e.now) c.args.talk.now in let other = length_map (λ e. said e.now) c.args.other.now in let less = c.if-talk-other.false in omega (arith, one, other, less))
    c.loop-number.invariant.same
