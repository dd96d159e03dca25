-- Two wants are the same where they compare so.
use Rattle.std.proofs.Common.{◌≡◌, ◌&&◌, ℕ, Bool, true, false, List, sym, ap, ◌∙◌, refl}
use Rattle.std.specs.Ordering.{is_eq, ordering_then}
use Rattle.std.specs.declared.cmp.Ordering.{Ordering}
use Rattle.std.specs.declared.cmp.Ordering.TheVariants.{Less, Equal, Greater}
use Rattle.std.proofs.lemmas.Map.Text.{is_eq-slice_cmp}
use Rattle.mk_base.specs.Lists.{same_text, text_order}
use Rattle.mk_plan.specs.declared.Want.{Want}
use Rattle.mk_plan.specs.Turns.{want_order}
use Rattle.mk_plan_judge.specs.inner.Takings.{want_taken}
use Rattle.mk_plan_judge.proofs.all_wants.is_same.Goals as goal

both : (o p : Ordering) → is_eq o && is_eq p ≡ is_eq (ordering_then o p)
both Less p = refl
both Equal p = refl
both Greater p = refl

same_test : (v w : Want) → same_text v.eid w.eid && same_text v.attr w.attr ≡ is_eq (want_order v w)
same_test v w = (λ i. sym (is_eq-slice_cmp v.eid w.eid) i && sym (is_eq-slice_cmp v.attr w.attr) i) ∙ both (text_order v.eid w.eid) (text_order v.attr w.attr)

-- the second test is the answer where the first holds, and else the first
where_same : (v w : Want) (xs ys : List ℕ) (b r : Bool) → b ≡ same_text xs ys → xs ≡ v.eid → ys ≡ w.eid → b ≡ true → r ≡ same_text v.attr w.attr → r ≡ is_eq (want_order v w)
where_same v w xs ys b r is one two held second =
    let first : true ≡ same_text v.eid w.eid = sym held ∙ is ∙ ap (λ l. same_text l ys) one ∙ ap (same_text v.eid) two in
    second ∙ ap (λ c. c && same_text v.attr w.attr) first ∙ same_test v w

where_other : (v w : Want) (xs ys : List ℕ) (b : Bool) → b ≡ same_text xs ys → xs ≡ v.eid → ys ≡ w.eid → b ≡ false → b ≡ is_eq (want_order v w)
where_other v w xs ys b is one two failed =
    let first : false ≡ same_text v.eid w.eid = sym failed ∙ is ∙ ap (λ l. same_text l ys) one ∙ ap (same_text v.eid) two in
    failed ∙ ap (λ c. c && same_text v.attr w.attr) first ∙ same_test v w

pub returns-then-eq : goal.returns-then-eq
returns-then-eq c = where_same c.args.want.now (want_taken c.args.taking.now) c.bytes.result.now c.bytes-2.result.now c.eq.result c.eq-then-eq.result c.eq.ensures c.bytes.ensures.same c.bytes-2.ensures.same c.if-eq.true
    (c.eq-then-eq.ensures ∙ ap (λ l. same_text l c.bytes-then-eq-2.result.now) c.bytes-then-eq.ensures.same ∙ ap (same_text c.args.want.now.attr) c.bytes-then-eq-2.ensures.same)

pub returns-else-eq : goal.returns-else-eq
returns-else-eq c = where_other c.args.want.now (want_taken c.args.taking.now) c.bytes.result.now c.bytes-2.result.now c.eq.result c.eq.ensures c.bytes.ensures.same c.bytes-2.ensures.same c.if-eq.false
