-- Answers to the goals of `listed::Listed::push` that the prover leaves.
use Rattle.std.proofs.Common.{◌<◌, List, ℕ, length, ap, subst, arith}
use Rattle.mk_base.specs.Lists.{IsIn}
use Rattle.mk_cycles.specs.inner.Listing.{Listing}
use Rattle.mk_cycles.proofs.Listings.{pushed, room}
use Rattle.mk_cycles.proofs.listed.Listed.push.Goals as goal

is_new : (c : goal.After-self-1) → IsIn c.args.number c.self.inside.order.items → ⊥
is_new c here =
    let same = ap (λ (l : Listing). l.order) c.self.view_is in
    let P : List ℕ → Type 0 = λ order. IsIn c.args.number order in
    c.requires.new (subst P same here)

is_below : (c : goal.After-self-1) → c.args.number < length c.self.inside.marks.items
is_below c = let same = ap (λ (l : Listing). l.count) c.self.view_is in omega (arith, same, c.requires.below)

pub invariant_of-self-2 : goal.invariant_of-self-2
invariant_of-self-2 c =
    rw c.in_ok-push.ensures.items (pushed c.self.inside.marks.items c.self.inside.order.items c.args.number c.self.invariant (is_below c) (is_new c))

pub returns-clause-room : goal.returns-clause-room
returns-clause-room c = rw (← c.self.view_is) (room c.self.inside.marks.items c.self.inside.order.items c.args.number c.self.invariant (is_below c) (is_new c))
