-- Answers to the goals of `entities::Entities::find` that the prover leaves.
use Rattle.std.proofs.Common.{◌∙◌, ap, sym}
use Rattle.mk_base.specs.Lists.{value_under}
use Rattle.mk_entities.specs.Creation.{entity_number}
use Rattle.mk_entities.specs.inner.Tied.{names_at}
use Rattle.mk_entities.proofs.Lookups.{names_there, no_names, number_is}
use Rattle.mk_entities.proofs.entities.Entities.find.Goals as goal

pub returns-in-Some : goal.returns-in-Some
returns-in-Some c =
    let found = c.in-Some.ensures.lookup in
    c.get-in-Some.ensures
    ∙ ap (value_under c.args.eid.now) (sym (names_there c.deref.result.now c.args.sim.0 c.in-Some.names.now found.3.0 found.1) ∙ ap (λ ns. names_at ns c.args.sim.0) c.deref.ensures.value ∙ c.self.invariant.numbers c.args.sim.0)
    ∙ number_is c.args.sim c.self.inside.kept.items c.args.eid.now
    ∙ ap (λ es. entity_number es c.args.sim c.args.eid.now) c.self.view_is

pub returns-in-None : goal.returns-in-None
returns-in-None c =
    ap (value_under c.args.eid.now) (sym (no_names c.deref.result.now c.args.sim.0 c.in-None.ensures.lookup.3) ∙ ap (λ ns. names_at ns c.args.sim.0) c.deref.ensures.value ∙ c.self.invariant.numbers c.args.sim.0)
    ∙ number_is c.args.sim c.self.inside.kept.items c.args.eid.now
    ∙ ap (λ es. entity_number es c.args.sim c.args.eid.now) c.self.view_is
