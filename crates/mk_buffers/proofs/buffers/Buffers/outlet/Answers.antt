-- Answers to the goals of `buffers::Buffers::outlet` that the prover leaves.
use Rattle.std.proofs.Common.{sym, ap, ◌∙◌, subst, slice_get}
use Rattle.std.specs.Prelude.{IfSome}
use Rattle.mk_buffers.specs.inner.Held.{IsKeyAt}
use Rattle.mk_buffers_log.proofs.Places.{get_some}
use Rattle.mk_buffers.proofs.Standing.{keyless}
use Rattle.mk_buffers.proofs.buffers.Buffers.outlet.Goals as goal

pub returns-in-Some-clause-found : goal.returns-in-Some-clause-found
returns-in-Some-clause-found c = subst (λ l. IfSome c.outlet_in.result (λ i. IsKeyAt l c.args.entity c.args.attr.now i)) c.as_slice.ensures.value c.outlet_in.ensures.found

pub returns-in-Some-clause-none : goal.returns-in-Some-clause-none
returns-in-Some-clause-none c = keyless c.args.self.now c.args.entity c.args.attr.now c.in-Some.home.now c.as_slice.result.now c.outlet_in.result
    (ap (λ l. slice_get l c.args.entity) (sym c.deref.ensures.value) ∙ get_some c.deref.result.now c.args.entity c.in-Some.home.now c.in-Some.ensures.lookup.3.0 c.in-Some.ensures.lookup.1) c.as_slice.ensures.value c.outlet_in.ensures.none
