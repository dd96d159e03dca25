-- Answers to the goals of `making::put_entities` that the prover leaves.
use Rattle.std.proofs.Common.{◌≡◌, ◌∙◌, ap, sym, length, Ok, rules}
use Rattle.mk_entities.specs.inner.Tied.{numbered}
use Rattle.mk_entities.proofs.Adding.{accepted, entity_refused, rel_refused, still_tied}
use Rattle.mk_entities.proofs.making.put_entities.Goals as goal

pub returns-in-Some-clause-told : goal.returns-in-Some-clause-told
returns-in-Some-clause-told c =
    let long : c.len.result ≡ length c.args.kept.now.items = search rules in
    entity_refused c.args.kept.now.items c.args.asked.now.sim c.args.asked.now.group c.args.asked.now.model.now c.args.asked.now.meta.now c.args.entities.now c.args.names.now c.len.result c.requires.tied long c.in-Some.fault (sym c.in_ok-fault.ensures.told ∙ c.in-Some.is)

pub returns-in-Some-2-clause-told : goal.returns-in-Some-2-clause-told
returns-in-Some-2-clause-told c =
    let long : c.len.result ≡ length c.args.kept.now.items = search rules in
    rel_refused c.args.kept.now.items c.args.asked.now.sim c.args.asked.now.group c.args.asked.now.model.now c.args.asked.now.meta.now c.args.entities.now c.args.names.now c.len.result c.requires.tied long
    c.name_all.new.names (c.in_ok-fault.ensures.named (ap Ok c.in_default.is)) (sym c.in_ok-fault.ensures.told ∙ c.in_default.is) c.in-Some-2.fault (sym c.in_ok-fault-2.ensures ∙ c.in-Some-2.is)

pub returns-clause-told : goal.returns-clause-told
returns-clause-told c =
    let long : c.len.result ≡ length c.args.kept.now.items = search rules in
    accepted c.args.kept.now.items c.args.asked.now.sim c.args.asked.now.group c.args.asked.now.model.now c.args.asked.now.meta.now c.args.entities.now c.args.names.now c.len.result c.requires.tied long
    c.name_all.new.names (c.in_ok-fault.ensures.named (ap Ok c.in_default.is)) (sym c.in_ok-fault.ensures.told ∙ c.in_default.is) c.in_ok-made.made.items (sym c.in_ok-fault-2.ensures ∙ c.in_default-2.is) c.in_ok-made.ensures
    ∙ ap Ok (sym c.in_ok-append.ensures.items)

pub returns-clause-tied : goal.returns-clause-tied
returns-clause-tied c done =
    let long : c.len.result ≡ length c.args.kept.now.items = search rules in
    still_tied c.args.kept.now.items c.args.asked.now.sim c.args.asked.now.group c.args.asked.now.model.now c.args.asked.now.meta.now c.args.entities.now c.args.names.now c.len.result c.requires.tied long
    c.name_all.new.names (c.in_ok-fault.ensures.named (ap Ok c.in_default.is)) (sym c.in_ok-fault.ensures.told ∙ c.in_default.is) c.in_ok-made.made.items c.in_ok-made.ensures
    ∙ ap (numbered c.args.asked.now.sim.0 0) (sym c.in_ok-append.ensures.items)
