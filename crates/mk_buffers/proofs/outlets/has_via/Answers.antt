-- Whether a delay is among others: it is the one found, or it is none of those looked at.
use Rattle.std.proofs.Common.{◌≡◌, ℕ, slice_get, refl, ap, sym, subst, ◌∙◌, arith, inl, inr, true≢false}
use Rattle.mk_base.specs.Lists.{IsIn}
use Rattle.mk_base.proofs.Lists.{at_in, get_is, in_at, some_same}
use Rattle.mk_buffers_log.proofs.Places.{below_or_same, get_some}
use Rattle.mk_buffers.proofs.Vias.{same_via, via_itself}
use Rattle.mk_buffers.proofs.outlets.has_via.Goals as goal

pub returns-then-eq-clause-there : goal.returns-then-eq-clause-there
returns-then-eq-clause-there c = λ _.
    let same = same_via c.via.result c.via-in-loop-old.result (sym c.eq.ensures ∙ c.if-eq.true) in
    subst (λ v. IsIn v c.args.vias.now) (sym c.via.ensures.same ∙ same ∙ c.via-in-loop-old.ensures.same) (at_in c.old-item.result c.args.vias.now c.loop-old.old-index (get_some c.args.vias.now c.loop-old.old-index c.old-item.result c.loop-old-test.true c.old-item.is))

pub loop-old-preserved : goal.loop-old-preserved
loop-old-preserved c = λ k v low at is.
    elim (below_or_same k c.loop-old.old-index low) [
      | inl same ↦
          let item : c.old-item.result ≡ v = some_same (sym (get_some c.args.vias.now c.loop-old.old-index c.old-item.result c.loop-old-test.true c.old-item.is) ∙ ap (λ (j : ℕ). slice_get c.args.vias.now j) (sym same) ∙ at) in
          true≢false (sym (via_itself c.via.result c.via-in-loop-old.result (c.via.ensures.same ∙ item ∙ is ∙ sym c.via-in-loop-old.ensures.same)) ∙ sym c.eq.ensures ∙ c.if-eq.false)
      | inr l ↦ c.loop-old.invariant k v l at is
    ]

pub returns-clause-none : goal.returns-clause-none
returns-clause-none c = λ _ m.
    let i = in_at c.args.via c.args.vias.now m in
    let g = get_is c.args.vias.now i.0 c.args.via i.1 in
    c.loop-old.invariant i.0 c.args.via (omega (arith, g.0, c.loop-old-test.false)) i.1 refl
