-- The invariants and measures of the loops of `starting::start_all`.
use Rattle.std.proofs.Common.{◌≤◌, List, [], take}
use Rattle.mk_outside.specs.Logs.{Adds}
use Rattle.mk_outside.specs.Asked.{Asked, Asks}
use Rattle.mk_launch.specs.Asking.{AsksForAll}
use Rattle.mk_launch.specs.Starts.{AreStarted}
use Rattle.mk_launch.proofs.starting.start_all.Given as goal

abbrev pub invariant-loop-i : goal.invariant-loop-i
invariant-loop-i g l = record {
  so_far : AreStarted (take l.i l.scenario.sims)
      (record { started = g.F.Fleet.started l.fn.fleet; links = g.F.Fleet.open_links l.fn.fleet })
      (record { started = g.F.Fleet.started l.fleet; links = g.F.Fleet.open_links l.fleet }) l.links;
  asked : (asks : List Asked) × Asks asks (g.F.Fleet.asked l.fn.fleet) (g.F.Fleet.asked l.fleet) × AsksForAll (take l.i l.scenario.sims) asks;
  counted : g.F.Fleet.faults l.fn.fleet ≤ g.F.Fleet.faults l.fleet;
  logged : Adds [] (g.F.Fleet.log l.fn.fleet) (g.F.Fleet.log l.fleet);
}
