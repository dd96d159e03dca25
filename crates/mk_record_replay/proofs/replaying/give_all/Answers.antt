-- Answers to the goals of `replaying::give_all` that the prover leaves.
use Rattle.std.proofs.Common.{◌≡◌, ◌++◌, ◌∷◌, [], None, List, reverse, refl, sym, ap, subst, ◌∙◌}
use Rattle.std.proofs.lemmas.List.{reverse-reverse}
use Rattle.mk_plan.specs.declared.Entry.{Entry}
use Rattle.mk_record_read.specs.declared.saved.Arrival.{Arrival}
use Rattle.mk_sched.specs.Cores.{CoreState}
use Rattle.mk_record_replay.specs.inner.Loops.{IsOnWay}
use Rattle.mk_record_replay.proofs.Giving.{ends_within, more_given, next_arrives, next_parts}
use Rattle.mk_record_replay.proofs.Pushing.{on_way_first}
use Rattle.mk_record_replay.proofs.replaying.give_all.Goals as goal

pub give-requires-clause-known : goal.give-requires-clause-known
give-requires-clause-known c = let l = c.loop-arrival.invariant in
    next_arrives c.args.arrivals l.given c.loop-arrival.left c.pop.new.self c.in-Some.arrival l.parts c.in-Some.ensures c.args.core.now.plan c.loop-arrival.core l.plan c.requires.known

pub returns-in-Some-2 : goal.returns-in-Some-2
returns-in-Some-2 c = let l = c.loop-arrival.invariant in
    ends_within c.args.arrivals l.given c.loop-arrival.left c.pop.new.self c.in-Some.arrival l.parts c.in-Some.ensures c.args.core.now.plan c.loop-arrival.core c.give.new.core c.in_ok-fault.field-0 c.in-Some-2.fault
    l.plan l.on_way c.in-Some-2.is c.in_ok-fault.ensures

pub loop-arrival-init : goal.loop-arrival-init
loop-arrival-init c = let core = c.args.core.now in record {
  going = ap (λ (k : CoreState). k.ended) c.requires.new;
  plan = refl;
  given = [];
  parts = sym (ap reverse c.last_first-left.ensures ∙ reverse-reverse c.args.arrivals);
  on_way = subst (λ (J : List Entry). IsOnWay core.plan [] J) (sym (ap (λ (k : CoreState). k.entries) c.requires.new)) (on_way_first core.plan);
}

pub loop-arrival-preserved : goal.loop-arrival-preserved
loop-arrival-preserved c = let l = c.loop-arrival.invariant in
    let a = c.in-Some.arrival in
    let left = c.loop-arrival.left in
    let less = c.pop.new.self in
    let none : c.in_ok-fault.field-0 ≡ None = c.in_default-2.is in
    let next = more_given c.args.arrivals l.given left less a l.parts c.in-Some.ensures c.args.core.now.plan c.loop-arrival.core c.give.new.core c.in_ok-fault.field-0 l.plan l.on_way none c.in_ok-fault.ensures in
    record {
      going = next.0;
      plan = next.1;
      given = l.given ++ a ∷ [];
      parts = next_parts c.args.arrivals l.given left less a l.parts c.in-Some.ensures ∙ ap (λ (rest : List Arrival). (l.given ++ a ∷ []) ++ reverse rest) (sym c.give_room_back-half.ensures);
      on_way = next.2;
    }
