-- The invariants and measures of the loops of `groups::groups_among`.
use Rattle.std.proofs.Common.{◌≡◌, take, codes}
use Rattle.mk_scenario_keys.proofs.Gathering.{Gathers}
use Rattle.mk_scenario.specs.Groups.{group_in}
use Rattle.mk_scenario.specs.Sims.{texts_under}
use Rattle.mk_scenario.proofs.groups.groups_among.Given as goal

abbrev pub invariant-loop-i : goal.invariant-loop-i
invariant-loop-i l = record {
  gathers : Gathers (λ i table. group_in l.sims (take i l.tables) i table) l.tables l.i l.found;
  taken : l.taken ≡ texts_under (codes "id") (take l.i l.tables);
}
