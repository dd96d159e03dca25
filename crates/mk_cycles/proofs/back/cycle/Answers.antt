-- Answers to the goals of `back::cycle` that the prover leaves.
use Rattle.std.proofs.Common.{◌≡◌, ◌-◌, Some, slice_get, length, take, drop, ℕ, List, ap, ◌∙◌, subst}
use Rattle.std.proofs.lemmas.List.{take_rest}
use Rattle.mk_cycles.specs.inner.Tables.{leads}
use Rattle.mk_cycles.proofs.Loops.{looped, walk_small}
use Rattle.mk_cycles.proofs.back.cycle.Goals as goal

-- the slice is what is left of the path
part : (order path : List ℕ) (k : ℕ) → order ≡ path → take (length order - k) (drop k order) ≡ drop k path
part order path k same = take_rest order k ∙ ap (drop k) same

pub as_sims-requires : goal.as_sims-requires
as_sims-requires c =
    let t = c.args.table.now in
    let path = c.in_ok-path.path.order in
    let k = c.place_of.result in
    let w = c.in_ok-walk.ensures in
    rw c.deref.ensures.value (walk_small (leads t) t.sims c.args.placed.now.order path _ c.in_ok-walk.walk.items k w.0 c.requires.small c.in_ok-path.ensures.reached
    (part c.order-order.result.now path k c.order-order.ensures.order) w.3)

pub returns : goal.returns
returns c =
    let t = c.args.table.now in
    let path = c.in_ok-path.path.order in
    let k = c.place_of.result in
    let again = c.in_ok-path.again in
    let w = c.in_ok-walk.ensures in
    let P : List ℕ → Type 0 = λ order. slice_get order k ≡ Some again in
    looped (leads t) t.sims c.args.placed.now.order path _ _ k again w.0 c.order-order.ensures.apart c.in_ok-path.ensures.reached c.in_ok-path.ensures.chain
    (subst P c.order-order.ensures.order c.place_of.ensures) (part c.order-order.result.now path k c.order-order.ensures.order) w.1 w.2 (c.in_ok-sims.ensures ∙ c.deref.ensures.value ∙ w.3)
