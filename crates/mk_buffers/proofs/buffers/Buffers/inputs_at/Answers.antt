-- Answers to the goals of `buffers::Buffers::inputs_at` that the prover leaves.
use Rattle.std.proofs.Common.{arith}
use Rattle.mk_buffers_log.proofs.Places.{get_some}
use Rattle.mk_buffers.proofs.Gathering.{from_mark, gathered_sorted, inputs_are}
use Rattle.mk_buffers.proofs.buffers.Buffers.inputs_at.Goals as goal

pub returns-in_ok-add_inputs : goal.returns-in_ok-add_inputs
returns-in_ok-add_inputs c = λ P S st low up.
    let g = c.in_ok-inputs.ensures in
    let from = from_mark P c.args.self.now S c.args.sim.0 c.args.at st low up in
    let are = st.of_plan.inlets c.args.sim.0 g.0 g.1 in
    let slots = get_some c.args.self.now.sets.items c.args.sim.0 c.index.result.now (omega (arith, low, st.of_plan.sizes.sets)) c.index.ensures in
    inputs_are P c.args.self.now S c.args.sim.0 g.0.items c.args.previous c.args.at st are from g.2.begun c.index.result.now st.gifts.0 st.gifts.1 (st.gifts.2 c.args.sim.0 c.index.result.now slots low) up c.in_ok-inputs.inputs c.add_inputs.new.inputs g.2.inputs
    (c.in_ok-add_inputs.ensures (gathered_sorted P c.args.self.now S c.args.sim.0 g.0.items c.args.previous c.args.at st are from g.2.begun c.in_ok-inputs.inputs g.2.inputs))
