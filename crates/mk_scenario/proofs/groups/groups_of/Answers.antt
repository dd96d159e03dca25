-- Answers to the goals of `groups::groups_of` that the prover leaves.
use Rattle.std.proofs.Common.{◌≡◌, ◌∙◌, ap, subst, ℕ, List, Result, Ok, IfOk, IfErr}
use Rattle.mk_base.specs.declared.json.Json.{Json}
use Rattle.mk_scenario_keys.specs.Tests.{IsFaultOf, each_after}
use Rattle.mk_scenario_keys.specs.declared.fault.ScenarioFault.{ScenarioFault}
use Rattle.mk_scenario.specs.Groups.{group_in}
use Rattle.mk_scenario.specs.Scenarios.{ids_of}
use Rattle.mk_scenario.specs.declared.parts.Group.{Group}
use Rattle.mk_scenario.specs.declared.parts.SimPart.{SimPart}
use Rattle.mk_scenario.proofs.groups.groups_of.Goals as goal

-- the same groups, by the same ids
same : (sims : List SimPart) (ids : List (List ℕ)) (tables : List Json) → ids ≡ ids_of sims → each_after (group_in ids) tables ≡ each_after (group_in (ids_of sims)) tables
same sims ids tables named = ap (λ names. each_after (group_in names) tables) named

pub returns-clause-ok : goal.returns-clause-ok
returns-clause-ok c =
    let is = same c.args.sims.now c.in_ok-ids.ids c.args.tables.now (c.in_ok-ids.ensures ∙ ap ids_of c.as_slice.ensures) in
    subst (λ (verdict : Result (List Group) ScenarioFault). IfOk c.groups_among.result (λ found. verdict ≡ Ok found)) is c.groups_among.ensures.ok

pub returns-clause-refused : goal.returns-clause-refused
returns-clause-refused c =
    let is = same c.args.sims.now c.in_ok-ids.ids c.args.tables.now (c.in_ok-ids.ensures ∙ ap ids_of c.as_slice.ensures) in
    subst (λ (verdict : Result (List Group) ScenarioFault). IfErr c.groups_among.result (λ e. IsFaultOf verdict e)) is c.groups_among.ensures.refused
