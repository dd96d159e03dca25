-- Answers to the goals of `log::behind` that the prover leaves.
use Rattle.std.proofs.Common.{◌≡◌, ℤ, true, false, arith, subst, sym, ◌∙◌}
use Rattle.std.specs.List.Sorted.{IsPartitionPoint}
use Rattle.std.proofs.lemmas.Int.{ints}
use mir.Syntax.{w64}
use mir.Val.{to_z, of_z}
use Rattle.mk_buffers_log.specs.inner.Logs.{comes_with}
use Rattle.mk_buffers_log.proofs.Keeping.{behind_rest}
use Rattle.mk_buffers_log.proofs.log.behind.Goals as goal

pub returns-else-is_settled_at : goal.returns-else-is_settled_at
returns-else-is_settled_at c =
    let end : to_z w64 (of_z w64 c.args.until.now) ≡ c.args.until.now = omega (arith, ints) in
    behind_rest c.args.vias.now c.args.until.now c.args.mark c.args.entries.now.items c.args.place c.coming_with.result c.index.result.now c.requires.up c.requires.there c.index.ensures (λ d. sym (c.is_settled_at.ensures d) ∙ c.if-is_settled_at.false) c.coming_with.ensures.within
    (subst (λ (u : ℤ). IsPartitionPoint (λ t. comes_with c.args.vias.now u c.index.result.now.at t.at ≡ true) (λ t. comes_with c.args.vias.now u c.index.result.now.at t.at ≡ false) c.args.entries.now.items c.coming_with.result) end c.coming_with.ensures.cut)
