-- Answers to the goals of `making::plan` that the prover leaves.
use Rattle.mk_connect.proofs.Valid.{valid_plan}
use Rattle.mk_connect.proofs.Validity.{conns_facts}
use Rattle.mk_connect.proofs.making.plan.Goals as goal

pub returns-in_ok-plan-in-Ok-clause-apart : goal.returns-in_ok-plan-in-Ok-clause-apart
returns-in_ok-plan-in-Ok-clause-apart c = (conns_facts c.args.scenario.now c.args.ranks.now c.args.metas.now c.args.entities.now c.args.first_ids.now c.in_ok-models.models c.in-Ok.parts.entities c.in-Ok.parts.conns c.in_ok-plan-in-Ok.plan
    c.requires c.in_ok-models.ensures c.in-Ok.ensures.made c.in_ok-plan-in-Ok.ensures).0

pub returns-in_ok-plan-in-Ok-clause-initials : goal.returns-in_ok-plan-in-Ok-clause-initials
returns-in_ok-plan-in-Ok-clause-initials c = (conns_facts c.args.scenario.now c.args.ranks.now c.args.metas.now c.args.entities.now c.args.first_ids.now c.in_ok-models.models c.in-Ok.parts.entities c.in-Ok.parts.conns c.in_ok-plan-in-Ok.plan
    c.requires c.in_ok-models.ensures c.in-Ok.ensures.made c.in_ok-plan-in-Ok.ensures).1

pub returns-in_ok-plan-in-Ok-clause-sources : goal.returns-in_ok-plan-in-Ok-clause-sources
returns-in_ok-plan-in-Ok-clause-sources c = (conns_facts c.args.scenario.now c.args.ranks.now c.args.metas.now c.args.entities.now c.args.first_ids.now c.in_ok-models.models c.in-Ok.parts.entities c.in-Ok.parts.conns c.in_ok-plan-in-Ok.plan
    c.requires c.in_ok-models.ensures c.in-Ok.ensures.made c.in_ok-plan-in-Ok.ensures).2

pub returns-in_ok-plan-in-Ok-clause-targets : goal.returns-in_ok-plan-in-Ok-clause-targets
returns-in_ok-plan-in-Ok-clause-targets c = (conns_facts c.args.scenario.now c.args.ranks.now c.args.metas.now c.args.entities.now c.args.first_ids.now c.in_ok-models.models c.in-Ok.parts.entities c.in-Ok.parts.conns c.in_ok-plan-in-Ok.plan
    c.requires c.in_ok-models.ensures c.in-Ok.ensures.made c.in_ok-plan-in-Ok.ensures).3

pub returns-in_ok-plan-in-Ok-clause-valid : goal.returns-in_ok-plan-in-Ok-clause-valid
returns-in_ok-plan-in-Ok-clause-valid c = valid_plan c.args.scenario.now c.args.ranks.now c.args.metas.now c.args.entities.now c.args.first_ids.now c.in_ok-models.models c.in-Ok.parts.entities c.in-Ok.parts.conns c.in_ok-plan-in-Ok.plan
    c.requires c.in_ok-models.ensures c.in-Ok.ensures.made c.in-Ok.ensures.entities c.in_ok-plan-in-Ok.ensures c.in-Ok.ensures.few c.in-Ok.ensures.distinct c.in-Ok.ensures.sound
