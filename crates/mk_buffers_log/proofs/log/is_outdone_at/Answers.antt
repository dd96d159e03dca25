-- Answers to the goals of `log::is_outdone_at` that the prover leaves.
use Rattle.std.proofs.Common.{◌≡◌, ap, ◌∙◌, get_or}
use Rattle.mk_base.specs.declared.tier.Tier.{Tier}
use Rattle.mk_plan.specs.Deliveries.{Timed}
use Rattle.mk_buffers_log.specs.inner.Logs.{is_outdone}
use Rattle.mk_buffers_log.proofs.Ascending.{get_or_any}
use Rattle.mk_buffers_log.proofs.log.is_outdone_at.Goals as goal

pub returns : goal.returns
returns c = λ d.
    let own : c.at.result ≡ (get_or c.args.entries.now.items c.args.place d).at = c.at.ensures.same ∙ ap (λ (t : Timed). t.at) (c.index.ensures ∙ get_or_any c.args.entries.now.items c.args.place c.index.result.now d c.requires.own) in
    let other : c.at-2.result ≡ (get_or c.args.entries.now.items c.args.other d).at = c.at-2.ensures.same ∙ ap (λ (t : Timed). t.at) (c.index-2.ensures ∙ get_or_any c.args.entries.now.items c.args.other c.index-2.result.now d c.requires.other) in
    c.is_outdone.ensures ∙ ap (λ (x : Tier). is_outdone c.args.via c.args.until c.args.mark x c.at-2.result c.args.place c.args.other) own
    ∙ ap (λ (y : Tier). is_outdone c.args.via c.args.until c.args.mark (get_or c.args.entries.now.items c.args.place d).at y c.args.place c.args.other) other
