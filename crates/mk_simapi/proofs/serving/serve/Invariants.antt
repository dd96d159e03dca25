-- The invariants and measures of the loops of `serving::serve`.
use Rattle.std.proofs.Common.{◌≡◌, ◌≤◌}
use Rattle.mk_base.specs.Lists.{IsIn}
use Rattle.mk_local.specs.Registries.{rows_in}
use Rattle.mk_simapi.proofs.Steps.{StillServing}
use Rattle.mk_simapi.proofs.serving.serve.Given as goal

-- a simulator is being served
abbrev pub invariant-loop : goal.invariant-loop
invariant-loop g l = record {
  counted : g.F.Fleet.faults l.fn.fleet ≤ g.F.Fleet.faults l.fleet;
  same_count : g.F.Fleet.started l.fleet ≡ g.F.Fleet.started l.fn.fleet;
  same_asked : g.F.Fleet.asked l.fleet ≡ g.F.Fleet.asked l.fn.fleet;
  same_links : g.F.Fleet.open_links l.fleet ≡ g.F.Fleet.open_links l.fn.fleet;
  linked : l.service.session.link ≡ l.fn.link;
  there : IsIn l.service.servant.kind (rows_in l.kinds);
  serving : StillServing (rows_in l.kinds) l.kind l.fn.link (g.F.Fleet.log l.fn.fleet) (g.F.Fleet.log l.fleet) l.service.servant l.service.session;
}
