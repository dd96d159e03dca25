-- Answers to the goals of `links::look` that the prover leaves.
use Rattle.std.proofs.Common.{[], refl}
use Rattle.mk_outside.proofs.OnLogs.{adds_none}
use Rattle.mk_run_links.proofs.Standing.{heard_stands, one_fewer, parked_added, parked_stands, stray_stands}
use Rattle.mk_run_links.proofs.Looking.{looked_alone, looked_heard, looked_parked}
use Rattle.mk_run_links.proofs.links.look.Goals as goal

pub returns-in_default-sim_on-clause-stands : goal.returns-in_default-sim_on-clause-stands
returns-in_default-sim_on-clause-stands g c = stray_stands c.args.channels.now c.args.turns.now c.take.new.self c.park.new.self c.in-Some.link c.requires.stands c.in-Some.ensures.took (c.in_default-sim_on.ensures.none refl) c.park.ensures.parked

pub returns-in_default-sim_on-clause-fewer : goal.returns-in_default-sim_on-clause-fewer
returns-in_default-sim_on-clause-fewer g c is = one_fewer c.args.turns.now c.take.new.self c.park.new.self c.in-Some.link c.in-Some.ensures.took c.park.ensures.parked

pub returns-in_default-sim_on-clause-looked : goal.returns-in_default-sim_on-clause-looked
returns-in_default-sim_on-clause-looked g c = ([], adds_none _, looked_alone c.args.channels.now)

pub ready-requires : goal.ready-requires
ready-requires g c = parked_added c.take.new.self c.park-2.new.self c.in-Some.link c.park-2.ensures.parked

pub returns-in-Pending-clause-stands : goal.returns-in-Pending-clause-stands
returns-in-Pending-clause-stands g c = parked_stands c.in-Some-sim_on.sim.0 c.args.channels.now c.poll-polled.new.self c.args.turns.now c.take.new.self c.park-2.new.self c.in-Some.link c.in-Pending.ensures.polled.0 c.requires.stands c.in-Some.ensures.took c.in-Some-sim_on.ensures.some c.in-Pending.ensures.polled.2 c.park-2.ensures.parked

pub returns-in-Pending-clause-fewer : goal.returns-in-Pending-clause-fewer
returns-in-Pending-clause-fewer g c is = one_fewer c.args.turns.now c.take.new.self c.park-2.new.self c.in-Some.link c.in-Some.ensures.took c.park-2.ensures.parked

pub returns-in-Pending-clause-looked : goal.returns-in-Pending-clause-looked
returns-in-Pending-clause-looked g c =
    let p = c.in-Pending.ensures.polled in
    (p.0, p.1, looked_parked c.in-Some-sim_on.sim.0 c.args.channels.now c.poll-polled.new.self p.0 c.requires.stands.apart p.2)

pub returns-in-Ready-clause-stands : goal.returns-in-Ready-clause-stands
returns-in-Ready-clause-stands g c = heard_stands c.in-Ready.heard c.in-Some-sim_on.sim.0 c.args.channels.now c.poll-polled.new.self c.args.turns.now c.take.new.self c.park-2.new.self c.ready.new.self c.in-Some.link c.in-Ready.ensures.polled.0 c.requires.stands c.in-Some.ensures.took c.in-Some-sim_on.ensures.some c.in-Ready.ensures.polled.2 c.park-2.ensures.parked c.ready.ensures.ready

pub returns-in-Ready-clause-looked : goal.returns-in-Ready-clause-looked
returns-in-Ready-clause-looked g c =
    let p = c.in-Ready.ensures.polled in
    (p.0, p.1, looked_heard c.in-Ready.heard c.in-Some-sim_on.sim c.args.channels.now c.poll-polled.new.self p.0 c.requires.stands.apart p.2)
