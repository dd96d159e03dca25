-- Answers to the goals of `turns::Turns::ready` that the prover leaves.
use Rattle.std.proofs.Common.{rules, ◌≡◌, true, false, Some, None, ap, length, arith, sym, subst}
use Rattle.std.specs.List.{list_any}
use Rattle.mk_base.specs.Links.{same_link}
use Rattle.mk_base.proofs.Lists.{at_in, get_is}
use Rattle.mk_poll.specs.Turning.{Turning}
use Rattle.mk_poll.specs.Links.{IsAdded, IsApart}
use Rattle.mk_poll.specs.inner.Links.{AreAt, spot_at}
use Rattle.mk_poll.proofs.OnLinks.{without_lt}
use Rattle.mk_poll.proofs.Lifting.{lifted_lt, times_at}
use Rattle.mk_poll.proofs.Ready.{apart_made_ready, from_parked, from_taken, listed, stays}
use Rattle.mk_poll.proofs.Standing.{not_parked, spots_are, spots_left, spots_lifted}
use Rattle.mk_poll.proofs.turns.Turns.ready.Goals as goal

pub lift-requires-clause-below : goal.lift-requires-clause-below
lift-requires-clause-below c = λ l e. c.self.invariant.2.below l (omega (arith, e))

pub push_back_reserved-requires : goal.push_back_reserved-requires
push_back_reserved-requires c =
    let room = c.self.invariant.0 in
    let spot : spot_at c.self.inside.spots.items c.args.link ≡ Some c.in-Some.place = search rules in
    let there = c.self.invariant.2.at.there c.in-Some.place c.args.link spot in
    omega (arith, room.within, room.for_ready, (get_is c.self.inside.parked.items c.in-Some.place c.args.link there).0)

pub invariant_of-self : goal.invariant_of-self
invariant_of-self c =
    let room = c.self.invariant.0 in
    let spot : spot_at c.self.inside.spots.items c.args.link ≡ Some c.in-Some.place = search rules in
    let there = c.self.invariant.2.at.there c.in-Some.place c.args.link spot in
    let fewer = lifted_lt c.args.link c.self.inside.parked.items (at_in c.args.link c.self.inside.parked.items c.in-Some.place there) in
    let at = subst (AreAt (spot_at c.lift.new.spots.items)) c.lift.ensures.lifted c.lift.ensures.at in (
      record {
        within = omega (arith, room.within, fewer, ap length c.lift.ensures.lifted, c.push_back_reserved.ensures.len);
        for_ready = omega (arith, room.for_ready, c.push_back_reserved.ensures.capacity);
        for_taken = room.for_taken;
        for_parked = omega (arith, room.for_parked, c.lift.ensures.room);
      },
      subst IsApart (sym (from_parked c.args.link _ c.in-Some.place _ _ there c.self.invariant.1 c.push_back_reserved.ensures.items c.lift.ensures.lifted)) (apart_made_ready c.args.link _ c.self.invariant.1),
      spots_are _ _ _ _ _ (spots_lifted c.self.inside.spots.items c.lift.new.spots.items c.args.link _ (times_at c.args.link c.self.inside.parked.items c.in-Some.place there) c.lift.ensures.count c.self.invariant.2 at) c.push_back_reserved.ensures.items (search rules) c.lift.ensures.lifted,
    )

pub returns-in-Some-clause-ready : goal.returns-in-Some-clause-ready
returns-in-Some-clause-ready c =
    let spot : spot_at c.self.inside.spots.items c.args.link ≡ Some c.in-Some.place = search rules in
    let there = c.self.invariant.2.at.there c.in-Some.place c.args.link spot in
    rw (← c.self.view_is) (from_parked c.args.link _ c.in-Some.place _ _ there c.self.invariant.1 c.push_back_reserved.ensures.items c.lift.ensures.lifted)

pub returns-in-Some-clause-apart : goal.returns-in-Some-clause-apart
returns-in-Some-clause-apart c =
    let spot : spot_at c.self.inside.spots.items c.args.link ≡ Some c.in-Some.place = search rules in
    let there = c.self.invariant.2.at.there c.in-Some.place c.args.link spot in
    subst IsApart (sym (from_parked c.args.link _ c.in-Some.place _ _ there c.self.invariant.1 c.push_back_reserved.ensures.items c.lift.ensures.lifted)) (apart_made_ready c.args.link _ c.self.invariant.1)

pub push_back_reserved-requires-then-holds : goal.push_back_reserved-requires-then-holds
push_back_reserved-requires-then-holds c =
    let room = c.self.invariant.0 in
    let held : list_any (λ other. same_link other c.args.link) c.self.inside.taken.items ≡ true = search rules in
    omega (arith, room.within, room.for_ready, without_lt c.args.link c.self.inside.taken.items (listed c.args.link c.self.inside.taken.items held))

pub invariant_of-self-then-holds : goal.invariant_of-self-then-holds
invariant_of-self-then-holds c =
    let room = c.self.invariant.0 in
    let held : list_any (λ other. same_link other c.args.link) c.self.inside.taken.items ≡ true = search rules in
    let there = listed c.args.link c.self.inside.taken.items held in
    let fewer = without_lt c.args.link c.self.inside.taken.items there in (
      record {
        within = omega (arith, room.within, fewer, ap length c.leave_last.ensures.left, c.push_back_reserved-then-holds.ensures.len);
        for_ready = omega (arith, room.for_ready, c.push_back_reserved-then-holds.ensures.capacity);
        for_taken = omega (arith, room.for_taken, c.leave_last.ensures.room);
        for_parked = room.for_parked;
      },
      subst IsApart (sym (from_taken c.args.link _ _ _ held c.self.invariant.1 c.push_back_reserved-then-holds.ensures.items c.leave_last.ensures.left)) (apart_made_ready c.args.link _ c.self.invariant.1),
      spots_are _ _ _ _ _ (spots_left c.self.inside.spots.items c.args.link _ there c.self.invariant.2) c.push_back_reserved-then-holds.ensures.items c.leave_last.ensures.left (search rules),
    )

pub returns-then-holds-clause-ready : goal.returns-then-holds-clause-ready
returns-then-holds-clause-ready c =
    let held : list_any (λ other. same_link other c.args.link) c.self.inside.taken.items ≡ true = search rules in
    rw (← c.self.view_is) (from_taken c.args.link _ _ _ held c.self.invariant.1 c.push_back_reserved-then-holds.ensures.items c.leave_last.ensures.left)

pub returns-then-holds-clause-apart : goal.returns-then-holds-clause-apart
returns-then-holds-clause-apart c =
    let held : list_any (λ other. same_link other c.args.link) c.self.inside.taken.items ≡ true = search rules in
    subst IsApart (sym (from_taken c.args.link _ _ _ held c.self.invariant.1 c.push_back_reserved-then-holds.ensures.items c.leave_last.ensures.left)) (apart_made_ready c.args.link _ c.self.invariant.1)

pub returns-else-holds-clause-ready : goal.returns-else-holds-clause-ready
returns-else-holds-clause-ready c =
    let none : spot_at c.self.inside.spots.items c.args.link ≡ None = search rules in
    let held : list_any (λ other. same_link other c.args.link) c.self.inside.taken.items ≡ false = search rules in
    let added = subst (λ (t : Turning). IsAdded c.args.link t) (sym c.self.view_is) c.requires in
    rw (← c.self.view_is) (stays c.args.link _ added (not_parked c.self.inside.spots.items c.args.link _ c.self.invariant.2 none) held)
