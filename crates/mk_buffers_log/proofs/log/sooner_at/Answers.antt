-- Answers to the goals of `log::sooner_at` that the prover leaves.
use Rattle.std.proofs.Common.{◌≡◌, ℤ, true, arith, sym, ap, subst, ◌∙◌, true≢false, get_or}
use Rattle.std.proofs.lemmas.Int.{ints}
use mir.Syntax.{w64}
use mir.Val.{to_z, of_z}
use Rattle.mk_base.specs.declared.tier.Tier.{Tier}
use Rattle.mk_plan.specs.Deliveries.{Timed}
use Rattle.mk_buffers_log.specs.Logs.{is_settled}
use Rattle.mk_buffers_log.proofs.Ascending.{get_or_any}
use Rattle.mk_buffers_log.proofs.log.sooner_at.Goals as goal

pub returns-else-is_settled_at-clause-settled : goal.returns-else-is_settled_at-clause-settled
returns-else-is_settled_at-clause-settled c = λ m d due s.
    let end : c.args.until.now ≡ to_z w64 (of_z w64 c.args.until.now) = omega (arith, ints) in
    let at : (get_or c.args.entries.now.items c.args.place d).at ≡ c.at.result = sym (c.at.ensures.same ∙ ap (λ (t : Timed). t.at) (c.index.ensures ∙ get_or_any c.args.entries.now.items c.args.place c.index.result.now d c.requires)) in
    absurd (true≢false (sym (c.settling.ensures m (subst (λ (u : ℤ). is_settled c.args.vias.now u m c.at.result ≡ true) end (subst (λ (x : Tier). is_settled c.args.vias.now c.args.until.now m x ≡ true) at s))) ∙ c.sooner.ensures.settled m due))
