-- Answers to the goals of `log::is_settled_at` that the prover leaves.
use Rattle.std.proofs.Common.{◌≡◌, ap, ◌∙◌, arith, ℤ}
use Rattle.std.proofs.lemmas.Int.{ints}
use mir.Syntax.{w64}
use mir.Val.{to_z, of_z}
use Rattle.mk_plan.specs.Deliveries.{Timed}
use Rattle.mk_buffers_log.specs.Logs.{is_settled}
use Rattle.mk_buffers_log.proofs.Ascending.{get_or_any}
use Rattle.mk_buffers_log.proofs.log.is_settled_at.Goals as goal

pub returns : goal.returns
returns c =
    let end : to_z w64 (of_z w64 c.args.until.now) ≡ c.args.until.now = omega (arith, ints) in
    λ d. c.is_settled.ensures ∙ ap (λ (u : ℤ). is_settled c.args.vias.now u c.args.mark c.at.result) end
    ∙ ap (is_settled c.args.vias.now c.args.until.now c.args.mark) (c.at.ensures.same ∙ ap (λ (t : Timed). t.at) (c.index.ensures ∙ get_or_any c.args.entries.now.items c.args.place c.index.result.now d c.requires))
