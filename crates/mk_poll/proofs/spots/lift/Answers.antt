-- Answers to the goals of `spots::lift` that the prover leaves.
use Rattle.std.proofs.Common.{rules, ◌≡◌, ◌≤◌, ◌++◌, ◌∷◌, [], List, Some, length, slice_get, subst, sym, ap, ◌∙◌, arith}
use Rattle.mk_base.specs.declared.LinkNo.{LinkNo}
use Rattle.mk_base.proofs.Items.{get_last}
use Rattle.mk_poll.specs.Links.{lifted, times_in}
use Rattle.mk_poll.specs.inner.Links.{AreAt, spot_at}
use Rattle.mk_poll.proofs.Lifting.{lifted_is, lifted_last, times_at}
use Rattle.mk_poll.proofs.Spotting.{lifted_at, last_lifted_at}
use Rattle.mk_poll.proofs.spots.lift.Goals as goal

pub set_spot-requires : goal.set_spot-requires
set_spot-requires c = c.requires.below c.args.link (times_at c.args.link c.args.parked.now.items c.args.place c.requires.there)

pub set_spot-requires-then-place-len : goal.set_spot-requires-then-place-len
set_spot-requires-then-place-len c =
    let is : c.args.parked.now.items ≡ c.pop.new.self.items ++ c.in-Some.last ∷ [] = search rules in
    let there : slice_get c.args.parked.now.items (length c.pop.new.self.items) ≡ Some c.in-Some.last = ap (λ (xs : List LinkNo). slice_get xs (length c.pop.new.self.items)) is ∙ get_last c.pop.new.self.items c.in-Some.last in
    omega (arith, c.set_spot.ensures.count, c.requires.below c.in-Some.last (times_at c.in-Some.last c.args.parked.now.items (length c.pop.new.self.items) there))

pub returns-then-place-len-clause-lifted : goal.returns-then-place-len-clause-lifted
returns-then-place-len-clause-lifted c =
    let is : c.args.parked.now.items ≡ c.pop.new.self.items ++ c.in-Some.last ∷ [] = search rules in
    lifted_is c.args.link c.in-Some.last c.pop.new.self.items c.args.place (subst (λ (xs : List LinkNo). slice_get xs c.args.place ≡ Some c.args.link) is c.requires.there) (subst (λ (xs : List LinkNo). times_in c.args.link xs ≤ 1) is c.requires.once) ∙ sym (ap (lifted c.args.link) is)

pub returns-then-place-len-clause-at : goal.returns-then-place-len-clause-at
returns-then-place-len-clause-at c =
    let is : c.args.parked.now.items ≡ c.pop.new.self.items ++ c.in-Some.last ∷ [] = search rules in
    lifted_at c.pop.new.self.items c.in-Some.last c.args.link c.args.place (subst (λ (xs : List LinkNo). slice_get xs c.args.place ≡ Some c.args.link) is c.requires.there)
    c.args.spots.now.items c.set_spot.new.spots.items c.set_spot-then-place-len.new.spots.items (subst (λ (xs : List LinkNo). AreAt (spot_at c.args.spots.now.items) xs) is c.requires.at) (omega (arith, c.if-place-len.true, c.len.ensures)) c.set_spot.ensures c.set_spot-then-place-len.ensures

pub returns-else-place-len-clause-lifted : goal.returns-else-place-len-clause-lifted
returns-else-place-len-clause-lifted c =
    let is : c.args.parked.now.items ≡ c.pop.new.self.items ++ c.in-Some.last ∷ [] = search rules in
    lifted_last c.args.link c.in-Some.last c.pop.new.self.items c.args.place (subst (λ (xs : List LinkNo). slice_get xs c.args.place ≡ Some c.args.link) is c.requires.there) (subst (λ (xs : List LinkNo). times_in c.args.link xs ≤ 1) is c.requires.once) (omega (arith, c.if-place-len.false, c.len.ensures)) ∙ sym (ap (lifted c.args.link) is)

pub returns-else-place-len-clause-at : goal.returns-else-place-len-clause-at
returns-else-place-len-clause-at c =
    let is : c.args.parked.now.items ≡ c.pop.new.self.items ++ c.in-Some.last ∷ [] = search rules in
    last_lifted_at c.pop.new.self.items c.in-Some.last c.args.link c.args.place (subst (λ (xs : List LinkNo). slice_get xs c.args.place ≡ Some c.args.link) is c.requires.there)
    c.args.spots.now.items c.set_spot.new.spots.items (subst (λ (xs : List LinkNo). AreAt (spot_at c.args.spots.now.items) xs) is c.requires.at) (omega (arith, c.if-place-len.false, c.len.ensures)) c.set_spot.ensures
