-- The invariants and measures of the loops of `links::hear`.
use Rattle.std.proofs.Common.{◌≡◌}
use Rattle.mk_real_trials.proofs.links.hear.Given as goal

-- the links are those from before, and the buffer is as it was
abbrev pub invariant-loop : goal.invariant-loop
invariant-loop g l = record {
  same_links : g.F.Fleet.open_links l.fleet ≡ g.F.Fleet.open_links l.fn.fleet;
  same_buffer : l.into ≡ l.fn.into;
}
