-- Answers to the goals of `log::is_overtaken_at` that the prover leaves.
use Rattle.std.proofs.Common.{◌≡◌, ◌+◌, ap, ◌∙◌, arith, ℤ}
use Rattle.std.proofs.lemmas.Int.{ints}
use mir.Syntax.{w64}
use mir.Val.{to_z, of_z}
use Rattle.mk_base.specs.declared.tier.Tier.{Tier}
use Rattle.mk_plan.specs.Deliveries.{Timed}
use Rattle.mk_buffers_log.specs.inner.Logs.{is_overtaken}
use Rattle.mk_buffers_log.proofs.Ascending.{get_or_any}
use Rattle.mk_buffers_log.proofs.log.is_overtaken_at.Goals as goal

pub returns : goal.returns
returns c =
    let end : to_z w64 (of_z w64 c.args.until.now) ≡ c.args.until.now = omega (arith, ints) in
    λ d. c.is_overtaken.ensures ∙ ap (λ (u : ℤ). is_overtaken c.args.vias.now u c.args.mark c.at.result c.at-2.result) end
    ∙ ap (λ (x : Tier). is_overtaken c.args.vias.now c.args.until.now c.args.mark x c.at-2.result) (c.at.ensures.same ∙ ap (λ (t : Timed). t.at) (c.index.ensures ∙ get_or_any c.args.entries.now.items c.args.place c.index.result.now d (omega arith)))
    ∙ ap (is_overtaken c.args.vias.now c.args.until.now c.args.mark _) (c.at-2.ensures.same ∙ ap (λ (t : Timed). t.at) (c.index-2.ensures ∙ get_or_any c.args.entries.now.items (c.args.place + 1) c.index-2.result.now d c.requires))
