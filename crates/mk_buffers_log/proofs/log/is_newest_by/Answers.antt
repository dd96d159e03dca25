-- Answers to the goals of `log::is_newest_by` that the prover leaves.
use Rattle.std.proofs.Common.{◌≡◌, ◌∙◌, inl, inr, ℕ, ℤ, Some, get_or, refl, sym, ap, subst, arith}
use Rattle.std.proofs.lemmas.Int.{ints}
use mir.Syntax.{w64}
use mir.Val.{to_z, of_z}
use Rattle.mk_base.specs.declared.tier.Via.{Via}
use Rattle.mk_base.proofs.Lists.{at_in, in_at, get_is}
use Rattle.mk_buffers_log.specs.inner.Logs.{IsNewestAt, IsOutdoneAt}
use Rattle.mk_buffers_log.proofs.Places.{below_or_same, get_any, get_some}
use Rattle.mk_buffers_log.proofs.log.is_newest_by.Goals as goal

pub returns-then-is_newest-clause-newest : goal.returns-then-is_newest-clause-newest
returns-then-is_newest-clause-newest c = λ e.
    let end : to_z w64 (of_z w64 c.args.until.now) ≡ c.args.until.now = omega (arith, ints) in (
      c.via-item.result,
      at_in c.via-item.result c.args.vias.now c.loop-via.via-index (get_some c.args.vias.now c.loop-via.via-index c.via-item.result c.loop-via-test.true c.via-item.is),
      subst (λ (u : ℤ). IsNewestAt c.via-item.result (Some u) c.args.mark c.args.entries.now.items c.args.place) end (c.if-is_newest.ensures.newest refl),
    )

pub loop-via-preserved : goal.loop-via-preserved
loop-via-preserved c = λ k v low.
    let end : to_z w64 (of_z w64 c.args.until.now) ≡ c.args.until.now = omega (arith, ints) in
    let here = subst (λ (u : ℤ). IsOutdoneAt c.via-item.result (Some u) c.args.mark c.args.entries.now.items c.args.place) end (c.if-is_newest.ensures.outdone refl) in
    elim (below_or_same k c.loop-via.via-index low) [
      | inl same ↦ subst (λ (w : Via). IsOutdoneAt w (Some c.args.until.now) c.args.mark c.args.entries.now.items c.args.place)
          (sym (ap (λ (j : ℕ). get_or c.args.vias.now j v) same ∙ get_any c.args.vias.now c.loop-via.via-index v c.via-item.result (get_some c.args.vias.now c.loop-via.via-index c.via-item.result c.loop-via-test.true c.via-item.is))) here
      | inr l ↦ c.loop-via.invariant k v l
    ]

pub returns-clause-outdone : goal.returns-clause-outdone
returns-clause-outdone c = λ e v m.
    let i = in_at v c.args.vias.now m in
    let g = get_is c.args.vias.now i.0 v i.1 in
    subst (λ (w : Via). IsOutdoneAt w (Some c.args.until.now) c.args.mark c.args.entries.now.items c.args.place) g.1 (c.loop-via.invariant i.0 v (omega (arith, g.0, c.loop-via-test.false)))
