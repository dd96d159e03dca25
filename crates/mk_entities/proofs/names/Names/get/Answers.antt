-- Answers to the goals of `names::Names::get` that the prover leaves.
use Rattle.std.proofs.Common.{◌∙◌, ap}
use Rattle.mk_base.specs.Lists.{value_under}
use Rattle.mk_entities.proofs.Lookups.{value_is}
use Rattle.mk_entities.proofs.names.Names.get.Goals as goal

pub returns : goal.returns
returns c = c.copied.ensures ∙ c.get.ensures.value ∙ value_is c.args.eid.now c.self.inside.kept.entries ∙ ap (value_under c.args.eid.now) c.self.view_is
