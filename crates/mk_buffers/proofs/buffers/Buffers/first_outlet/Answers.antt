-- Answers to the goals of `buffers::Buffers::first_outlet` that the prover leaves.
use Rattle.std.proofs.Common.{sym, ap, ◌∙◌, slice_get}
use Rattle.mk_buffers_log.proofs.Places.{get_some}
use Rattle.mk_buffers.proofs.buffers.Buffers.first_outlet.Goals as goal

pub returns-in-Some : goal.returns-in-Some
returns-in-Some c = λ P S st low. st.of_plan.aligned c.args.sim.0 c.in-Some.part.now (ap (λ l. slice_get l c.args.sim.0) (sym c.deref.ensures.value) ∙ get_some c.deref.result.now c.args.sim.0 c.in-Some.part.now c.in-Some.ensures.lookup.3.0 c.in-Some.ensures.lookup.1)
