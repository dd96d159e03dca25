-- A channel is woken, and its link is made ready.
use Rattle.mk_run_links.proofs.Standing.{woken_stands}
use Rattle.mk_run_links.proofs.Looking.{woken_one}
use Rattle.mk_run_links.proofs.links.wake.Goals as goal

pub returns-clause-stands : goal.returns-clause-stands
returns-clause-stands c = woken_stands c.args.sim.0 c.args.channels.now c.wake.new.self c.args.turns.now c.ready.new.self c.link-link.result c.requires.stands c.link-link.ensures c.wake.ensures.woken c.ready.ensures.ready

pub returns-clause-woken : goal.returns-clause-woken
returns-clause-woken c = woken_one c.args.sim.0 c.args.channels.now c.wake.new.self c.wake.ensures.woken
