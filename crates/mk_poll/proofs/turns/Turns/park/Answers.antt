-- Answers to the goals of `turns::Turns::park` that the prover leaves.
use Rattle.std.proofs.Common.{rules, ◌∷◌, [], ap, length, arith, subst, sym}
use Rattle.std.proofs.lemmas.List.{length-append}
use Rattle.mk_base.specs.Lists.{IsIn}
use Rattle.mk_poll.specs.Turning.{Turning}
use Rattle.mk_poll.specs.inner.Links.{AreAt, spot_at}
use Rattle.mk_poll.proofs.OnLinks.{without_lt}
use Rattle.mk_poll.proofs.Apart.{apart_parked, apart_is, times-in}
use Rattle.mk_poll.proofs.Standing.{spots_are, spots_parked}
use Rattle.mk_poll.proofs.turns.Turns.park.Goals as goal

pub park-requires-clause-free : goal.park-requires-clause-free
park-requires-clause-free c =
    let there = subst (λ (t : Turning). IsIn c.args.link t.taken) (sym c.self.view_is) c.requires in
    omega (arith, times-in c.args.link c.self.inside.taken.items there, c.self.invariant.1 c.args.link)

pub park-requires-clause-below : goal.park-requires-clause-below
park-requires-clause-below c =
    let there = subst (λ (t : Turning). IsIn c.args.link t.taken) (sym c.self.view_is) c.requires in
    c.self.invariant.2.below c.args.link (omega (arith, times-in c.args.link c.self.inside.taken.items there))

pub invariant_of-self : goal.invariant_of-self
invariant_of-self c =
    let room = c.self.invariant.0 in
    let there = subst (λ (t : Turning). IsIn c.args.link t.taken) (sym c.self.view_is) c.requires in
    let fewer = without_lt c.args.link c.self.inside.taken.items there in
    let at = subst (AreAt (spot_at c.park.new.spots.items)) c.park.ensures.parked c.park.ensures.at in (
      record {
        within = omega (arith, room.within, fewer, ap length c.leave_last.ensures.left, ap length c.park.ensures.parked, length-append c.self.inside.parked.items (c.args.link ∷ []));
        for_ready = room.for_ready;
        for_taken = omega (arith, room.for_taken, c.leave_last.ensures.room);
        for_parked = omega (arith, room.for_parked, c.park.ensures.room);
      },
      apart_is _ _ _ _ (apart_parked c.args.link _ there c.self.invariant.1) (search rules) (search rules) (search rules),
      spots_are _ _ _ _ _ (spots_parked c.self.inside.spots.items c.park.new.spots.items c.args.link _ there c.park.ensures.count c.self.invariant.2 at) (search rules) (search rules) (search rules),
    )

pub returns-clause-apart : goal.returns-clause-apart
returns-clause-apart c = apart_is _ _ _ _ (apart_parked c.args.link _ (subst (λ (t : Turning). IsIn c.args.link t.taken) (sym c.self.view_is) c.requires) c.self.invariant.1) (search rules) (search rules) (search rules)
