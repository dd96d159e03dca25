-- Answers to the goals of `outlets::add_via` that the prover leaves.
use Rattle.std.proofs.Common.{inl, inr, [], ◌∷◌, arith, refl, sym, subst, ap, length, length-append}
use Rattle.mk_base.specs.Lists.{IsIn}
use Rattle.mk_base.proofs.Lists.{in_front, in_back, in_either}
use Rattle.mk_buffers.proofs.outlets.add_via.Goals as goal

pub returns-in_ok-push : goal.returns-in_ok-push
returns-in_ok-push c = record {
  sim = refl;
  entity = refl;
  attr = refl;
  log = refl;
  there = subst (IsIn c.args.via) (sym c.in_ok-push.ensures.items) (in_back c.args.via c.args.outlet.now.vias.items _ (inl refl));
  others = λ v m. subst (IsIn v) (sym c.in_ok-push.ensures.items) (in_front v c.args.outlet.now.vias.items _ m);
  back = λ v m. elim (in_either v c.args.outlet.now.vias.items _ (subst (IsIn v) c.in_ok-push.ensures.items m)) [
    | inl r ↦ inl r
    | inr r ↦ elim r [ inl q ↦ inr q | inr z ↦ absurd z ]
  ];
  longer = omega (arith, ap length c.in_ok-push.ensures.items, length-append c.args.outlet.now.vias.items (c.args.via ∷ []));
}
