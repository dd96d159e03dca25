-- The invariants and measures of the loops of `links::are_so`.
use Rattle.std.proofs.Common.{◌≡◌}
use Rattle.mk_real_trials.proofs.links.are_so.Given as goal

-- the links are those from before
abbrev pub invariant-loop-row : goal.invariant-loop-row
invariant-loop-row g l = g.F.Fleet.open_links l.fleet ≡ g.F.Fleet.open_links l.fn.fleet
