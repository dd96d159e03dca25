-- Answers to the goals of `blocks::blocks_of` that the prover leaves.
use Rattle.std.proofs.Common.{◌≡◌, ◌∙◌, ap, subst, ℕ, List, Result, Ok, IfOk, IfErr}
use Rattle.mk_base.specs.declared.json.Json.{Json}
use Rattle.mk_scenario_keys.specs.Tests.{IsFaultOf, each_at}
use Rattle.mk_scenario_keys.specs.declared.fault.ScenarioFault.{ScenarioFault}
use Rattle.mk_scenario.specs.Blocks.{block_in}
use Rattle.mk_scenario.specs.Scenarios.{ids_of}
use Rattle.mk_scenario.specs.declared.parts.Block.{Block}
use Rattle.mk_scenario.specs.declared.parts.Group.{Group}
use Rattle.mk_scenario.specs.declared.parts.SimPart.{SimPart}
use Rattle.mk_scenario.proofs.blocks.blocks_of.Goals as goal

-- the same blocks, by the same ids and groups
same : (sims : List SimPart) (ids : List (List ℕ)) (groups among : List Group) (tables : List Json) → ids ≡ ids_of sims → among ≡ groups → each_at (block_in ids among) tables ≡ each_at (block_in (ids_of sims) groups) tables
same sims ids groups among tables named listed = ap (λ names. each_at (block_in names among) tables) named ∙ ap (λ all. each_at (block_in (ids_of sims) all) tables) listed

pub returns-clause-ok : goal.returns-clause-ok
returns-clause-ok c =
    let is = same c.args.sims.now c.in_ok-sims.sims c.args.groups.now c.as_slice-groups.result.now c.args.tables.now (c.in_ok-sims.ensures ∙ ap ids_of c.as_slice.ensures) c.as_slice-groups.ensures in
    subst (λ (verdict : Result (List Block) ScenarioFault). IfOk c.blocks_among-blocks.result (λ found. verdict ≡ Ok found)) is c.blocks_among-blocks.ensures.ok

pub returns-clause-refused : goal.returns-clause-refused
returns-clause-refused c =
    let is = same c.args.sims.now c.in_ok-sims.sims c.args.groups.now c.as_slice-groups.result.now c.args.tables.now (c.in_ok-sims.ensures ∙ ap ids_of c.as_slice.ensures) c.as_slice-groups.ensures in
    subst (λ (verdict : Result (List Block) ScenarioFault). IfErr c.blocks_among-blocks.result (λ e. IsFaultOf verdict e)) is c.blocks_among-blocks.ensures.refused
