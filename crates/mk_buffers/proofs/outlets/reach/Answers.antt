-- Answers to the goals of `outlets::reach` that the prover leaves.
use Rattle.std.proofs.Common.{refl, sym, ap, ◌∙◌, arith, Some}
use Rattle.mk_base.proofs.Lists.{some_same, set_here, set_else, length_set, get_is}
use Rattle.mk_buffers.specs.declared.outlets.Part.{Part}
use Rattle.mk_buffers.specs.inner.Building.{reached}
use Rattle.mk_buffers_log.proofs.Places.{get_some}
use Rattle.mk_buffers.proofs.outlets.reach.Goals as goal

pub returns-then-part-len : goal.returns-then-part-len
returns-then-part-len c =
    let xs = c.args.parts.now.items in
    let here = get_some xs c.args.part c.index.result.now (omega (arith, c.if-part-len.true, c.len.ensures)) c.index.ensures in
    record {
      count = length_set xs c.args.part c.reached.result;
      others = λ j apart. set_else xs c.args.part j c.reached.result apart;
      here = λ o at. set_here xs c.args.part c.reached.result o at ∙ ap Some (c.reached.ensures ∙ ap (λ (p : Part). reached p c.args.place c.args.end) (some_same (sym here ∙ at)));
    }

pub returns-else-part-len : goal.returns-else-part-len
returns-else-part-len c = record {
  count = refl;
  others = λ j apart. refl;
  here = λ o at. let low = (get_is c.args.parts.now.items c.args.part o at).0 in absurd (omega (arith, low, c.if-part-len.false, c.len.ensures));
}
