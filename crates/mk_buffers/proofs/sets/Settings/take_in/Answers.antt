-- Answers to the goals of `sets::Settings::take_in` that the prover leaves.
use Rattle.std.proofs.Common.{ap, ◌∙◌, ◌++◌, ◌∷◌, [], List}
use Rattle.mk_plan.specs.Deliveries.{Timed}
use Rattle.mk_buffers.proofs.Lasts.{taken_in}
use Rattle.mk_buffers.proofs.sets.Settings.take_in.Goals as goal

pub returns-clause-ok : goal.returns-clause-ok
returns-clause-ok c = taken_in c.args.mark c.args.self.now c.push_back.new.self.items c.forget.new.values.items c.args.new (c.in_ok-push_back.ensures.items ∙ ap (λ (l : List Timed). l ++ c.args.new ∷ []) c.self.view_is) c.forget.ensures
