-- Answers to the goals of `groups::groups_among` that the prover leaves.
use Rattle.std.proofs.Common.{◌≡◌, ◌+◌, ◌<◌, ◌++◌, ◌∷◌, [], take, length, arith, codes, Ok, ap, ◌∙◌, sym, subst}
use Rattle.mk_scenario_keys.proofs.Gathering.{Gathers, gathers_more}
use Rattle.mk_scenario.proofs.Earlier.{group_named, ids_more}
use Rattle.mk_scenario_keys.specs.Tests.{item_in}
use Rattle.mk_scenario.specs.Groups.{group_in, group_next}
use Rattle.mk_scenario.proofs.groups.groups_among.Goals as goal

pub loop-i-preserved : goal.loop-i-preserved
loop-i-preserved c =
    let tables = c.args.tables.now in
    let sims = c.args.sims.now in
    let i = c.loop-i.i in
    let table = c.index-tables-i.result in
    let added = c.in_ok-taken.ensures.ok in
    let group = added.0 in
    let taken = c.loop-i.taken in
    let below : i < length tables = omega arith in
    let well : group_in sims (take i tables) i table ≡ Ok group = sym (ap (λ ids. group_next sims ids i table) c.loop-i.invariant.taken) ∙ added.1 in
    record {
      gathers = subst (Gathers (λ i table. group_in sims (take i tables) i table) tables (i + 1)) (sym added.2)
          (gathers_more (λ i table. group_in sims (take i tables) i table) tables i c.loop-i.found table below c.index-tables-i.is c.loop-i.invariant.gathers group well);
      taken = added.3 ∙ ap (λ ids. ids ++ group.id ∷ []) c.loop-i.invariant.taken ∙ sym (ids_more tables i table group.id below c.index-tables-i.is (group_named sims taken (item_in (codes "entities") i) table group added.1));
    }
