-- Answers to the goals of `outlets::Outlets::join` that the prover leaves.
use Rattle.std.proofs.Common.{◌≡◌, refl, subst, ap, ◌∙◌, arith, ◌-◌, slice_set, slice_get}
use Rattle.mk_buffers.specs.inner.Building.{HasVia}
use Rattle.mk_buffers_log.proofs.Places.{get_any}
use Rattle.mk_buffers.proofs.outlets.Outlets.join.Goals as goal

pub returns-then-source-len : goal.returns-then-source-len
returns-then-source-len c = λ n o count at.
    let place : c.len-count.result - 1 ≡ n = omega (arith, count, c.len-count.ensures) in
    let is : c.index_mut.result.now ≡ o = c.index_mut.ensures.value ∙ get_any c.args.self.now.all.items _ _ o (ap (slice_get c.args.self.now.all.items) place ∙ at) in
    record {
      outlet = c.add_via.new.outlet;
      all = ap (λ i. slice_set c.args.self.now.all.items i c.add_via.new.outlet) place;
      via = subst (λ v. HasVia v o c.add_via.new.outlet) c.of.ensures (subst (λ q. HasVia c.of.result q c.add_via.new.outlet) is c.in_ok-add_via.ensures);
      of_conn = λ below. ap (slice_set c.args.self.now.of_conn.items c.args.source.now.place) place;
      of_entity = refl;
    }

pub returns-else-source-len : goal.returns-else-source-len
returns-else-source-len c = λ n o count at.
    let place : c.len-count.result - 1 ≡ n = omega (arith, count, c.len-count.ensures) in
    let is : c.index_mut.result.now ≡ o = c.index_mut.ensures.value ∙ get_any c.args.self.now.all.items _ _ o (ap (slice_get c.args.self.now.all.items) place ∙ at) in
    record {
      outlet = c.add_via.new.outlet;
      all = ap (λ i. slice_set c.args.self.now.all.items i c.add_via.new.outlet) place;
      via = subst (λ v. HasVia v o c.add_via.new.outlet) c.of.ensures (subst (λ q. HasVia c.of.result q c.add_via.new.outlet) is c.in_ok-add_via.ensures);
      of_conn = λ below. absurd (omega (arith, below, c.if-source-len.false, c.len.ensures));
      of_entity = refl;
    }
