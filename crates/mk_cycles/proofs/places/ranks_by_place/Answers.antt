-- Answers to the goals of `places::ranks_by_place` that the prover leaves.
use Rattle.std.proofs.Common.{◌≡◌, ◌<◌, ℕ, Some, sym, ◌∙◌, slice_get, get_or, List, subst}
use Rattle.std.proofs.lemmas.List.{length-set}
use Rattle.mk_base.specs.Lists.{IsIn}
use Rattle.mk_cycles.proofs.Placing.{written_more, inverse, place_below}
use Rattle.mk_cycles.proofs.places.ranks_by_place.Goals as goal

pub set-requires : goal.set-requires
set-requires c =
    place_below c.order-order.result.now c.args.placed.now.order c.loop-rank.ranks c.args.placed.now.count c.loop-rank.rank c.order-order.ensures.order c.loop-rank-test.true c.order-order.ensures.below
    c.loop-rank.invariant.count

pub loop-rank-preserved : goal.loop-rank-preserved
loop-rank-preserved c =
    let order = c.order-order.result.now in
    let below = place_below order c.args.placed.now.order c.loop-rank.ranks c.args.placed.now.count c.loop-rank.rank c.order-order.ensures.order c.loop-rank-test.true c.order-order.ensures.below c.loop-rank.invariant.count in
    let P : List ℕ → Type 0 = λ xs. (i j s : ℕ) → slice_get xs i ≡ Some s → slice_get xs j ≡ Some s → i ≡ j in
    rw c.set.ensures record {
      count = length-set c.loop-rank.ranks (get_or order c.loop-rank.rank 0) c.loop-rank.rank ∙ c.loop-rank.invariant.count;
      written = written_more order c.loop-rank.ranks c.loop-rank.rank (subst P (sym c.order-order.ensures.order) c.order-order.ensures.apart) c.loop-rank-test.true below c.loop-rank.invariant.written;
    }

pub returns-clause-inverse : goal.returns-clause-inverse
returns-clause-inverse c =
    let order = c.order-order.result.now in
    let P : List ℕ → Type 0 = λ xs. (s : ℕ) → s < c.args.placed.now.count → IsIn s xs in
    rw (← c.order-order.ensures.order) (inverse order c.loop-rank.ranks c.args.placed.now.count c.loop-rank.rank c.loop-rank-test.false c.loop-rank.invariant.count
    (subst P (sym c.order-order.ensures.order) c.requires.each) c.loop-rank.invariant.written)
