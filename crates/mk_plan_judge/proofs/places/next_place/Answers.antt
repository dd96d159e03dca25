-- Answers to the goals of `places::next_place` that the prover leaves.
use Rattle.std.proofs.Common.{◌≡◌, ◌==◌, ◌+◌, Bool, true, false, not, cond, Option, Some, None, length, sym, ap, ◌∙◌, subst}
use Rattle.mk_plan.specs.declared.Message.{Message}
use Rattle.mk_plan.specs.declared.Place.{Place}
use Rattle.mk_plan.specs.declared.Place.TheVariants.{Stepping, Fetching}
use Rattle.mk_plan.specs.Plans.{has_outputs}
use Rattle.mk_plan.specs.Turns.{next_place}
use Rattle.mk_plan_judge.proofs.Leaving.{leaves_some}
use Rattle.mk_plan_judge.proofs.places.next_place.Goals as goal

pub returns-then-is_empty : goal.returns-then-is_empty
returns-then-is_empty c = λ P i same.
    let at = c.in-Stepping.at in
    let id = c.in-Stepping.id in
    let leaves : has_outputs P i ≡ false = leaves_some P i ∙ ap not (sym (ap (λ ws. length ws == 0) same) ∙ sym c.is_empty.ensures ∙ c.if-is_empty.true) in
    let none : Option Place = None in
    subst (λ (o : Place). none ≡ next_place P i o c.args.message.now) (sym c.in-Stepping.is)
    (subst (λ (m : Message). none ≡ next_place P i (Stepping at id c.in-Stepping.asks) m) (sym c.in-Success.is)
    (sym (ap (λ (b : Bool). cond b (Some (Fetching at (id + 1))) none) leaves)))

pub returns-else-is_empty : goal.returns-else-is_empty
returns-else-is_empty c = λ P i same.
    let at = c.in-Stepping.at in
    let id = c.in-Stepping.id in
    let leaves : has_outputs P i ≡ true = leaves_some P i ∙ ap not (sym (ap (λ ws. length ws == 0) same) ∙ sym c.is_empty.ensures ∙ c.if-is_empty.false) in
    let next : Option Place = Some (Fetching at (id + 1)) in
    subst (λ (o : Place). next ≡ next_place P i o c.args.message.now) (sym c.in-Stepping.is)
    (subst (λ (m : Message). next ≡ next_place P i (Stepping at id c.in-Stepping.asks) m) (sym c.in-Success.is)
    (sym (ap (λ (b : Bool). cond b next None) leaves)))
