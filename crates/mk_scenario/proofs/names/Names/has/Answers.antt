-- Answers to the goals of `names::Names::has` that the prover leaves.
use Rattle.std.proofs.Common.{ap, ◌∙◌}
use Rattle.std.specs.Prelude.{is_some}
use Rattle.mk_base.specs.Lists.{same_text}
use Rattle.mk_base.proofs.AtPlaces.{same_sym}
use Rattle.mk_base.proofs.Items.{any_same}
use Rattle.mk_scenario.proofs.Placing.{any_placed}
use Rattle.mk_scenario.proofs.names.Names.has.Goals as goal

pub returns : goal.returns
returns c = c.is_some.ensures ∙ ap is_some c.place_of.ensures ∙ any_placed (λ x. same_text c.args.id.now x) c.args.self.now
    ∙ any_same (λ x. same_text c.args.id.now x) (λ x. same_text x c.args.id.now) (λ x. same_sym c.args.id.now x) c.args.self.now
