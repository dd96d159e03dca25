-- The invariants and measures of the loops of `links::say`.
use Rattle.std.proofs.Common.{◌≡◌}
use Rattle.mk_real_trials.proofs.links.say.Given as goal

-- the links are those from before
abbrev pub invariant-loop : goal.invariant-loop
invariant-loop g l = g.F.Fleet.open_links l.fleet ≡ g.F.Fleet.open_links l.fn.fleet
