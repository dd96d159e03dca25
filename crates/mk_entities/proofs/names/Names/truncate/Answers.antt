-- Answers to the goals of `names::Names::truncate` that the prover leaves.
use Rattle.std.proofs.Common.{◌∙◌, ap, take}
use Rattle.mk_entities.specs.inner.Names.{texts_of}
use Rattle.mk_entities.proofs.Lookups.{texts_take}
use Rattle.mk_entities.proofs.names.Names.truncate.Goals as goal

pub returns : goal.returns
returns c = ap texts_of c.truncate.ensures.entries ∙ texts_take c.args.count c.self.inside.kept.entries ∙ ap (take c.args.count) c.self.view_is
