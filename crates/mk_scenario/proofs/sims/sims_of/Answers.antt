-- Answers to the goals of `sims::sims_of` that the prover leaves.
use Rattle.std.proofs.Common.{◌≡◌, ◌+◌, ◌<◌, length, arith, Ok, sym, subst}
use Rattle.mk_scenario_keys.specs.Tests.{by_earlier}
use Rattle.mk_scenario_keys.proofs.Gathering.{Gathers, gathers_more}
use Rattle.mk_scenario.specs.Sims.{sim_in}
use Rattle.mk_scenario.proofs.sims.sims_of.Goals as goal

pub loop-i-preserved : goal.loop-i-preserved
loop-i-preserved c =
    let tables = c.args.tables.now in
    let i = c.loop-i.i in
    let table = c.index-tables-i.result in
    let below : i < length tables = omega arith in
    let well : by_earlier sim_in tables i table ≡ Ok c.in_ok-sim_in.field-0 = c.in_ok-sim_in.ensures.ok in
    subst (Gathers (by_earlier sim_in tables) tables (i + 1)) (sym c.in_ok-push.ensures.ok)
    (gathers_more (by_earlier sim_in tables) tables i c.loop-i.parts table below c.index-tables-i.is c.loop-i.invariant c.in_ok-sim_in.field-0 well)
