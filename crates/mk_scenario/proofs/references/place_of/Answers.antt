-- Answers to the goals of `references::place_of` that the prover leaves.
use Rattle.std.proofs.Common.{◌≡◌, Ok, IfOk, IfErr, List, ℕ, sym, subst}
use Rattle.mk_scenario_keys.specs.Tests.{IsFaultOf}
use Rattle.mk_scenario.specs.inner.References.{IsAround}
use Rattle.mk_scenario.proofs.Referring.{with_point}
use Rattle.mk_scenario.proofs.references.place_of.Goals as goal

pub returns-in-Some-clause-ok : goal.returns-in-Some-clause-ok
returns-in-Some-clause-ok c =
    let around = subst (λ (t : List ℕ). IsAround 46 t c.in-Some.sim.now c.in-Some.eid.now) c.as_str.ensures c.in-Some.ensures in
    subst (λ verdict. IfOk c.entity_of.result (λ place. verdict ≡ Ok place))
    (sym (with_point c.args.groups.now c.args.path.now c.args.text.now c.args.sims.now c.in-Some.sim.now c.in-Some.eid.now around)) c.entity_of.ensures.ok

pub returns-in-Some-clause-refused : goal.returns-in-Some-clause-refused
returns-in-Some-clause-refused c =
    let around = subst (λ (t : List ℕ). IsAround 46 t c.in-Some.sim.now c.in-Some.eid.now) c.as_str.ensures c.in-Some.ensures in
    subst (λ verdict. IfErr c.entity_of.result (λ e. IsFaultOf verdict e))
    (sym (with_point c.args.groups.now c.args.path.now c.args.text.now c.args.sims.now c.in-Some.sim.now c.in-Some.eid.now around)) c.entity_of.ensures.refused
