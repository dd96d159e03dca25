-- Answers to the goals of `making::ids_of` that the prover leaves.
use Rattle.std.proofs.Common.{arith}
use Rattle.mk_plan_names.proofs.Indexing.{id_added}
use Rattle.mk_plan_names.proofs.making.ids_of.Goals as goal

pub loop-place-preserved : goal.loop-place-preserved
loop-place-preserved c = id_added c.args.plan.now c.requires.references c.requires.names c.loop-place.ids.keys c.insert.new.self.keys _ c.loop-place.place c.loop-place.invariant c.in_ok-full_id.ensures (omega (arith, c.loop-place-test.true, c.len-place-end.ensures)) c.in_ok-insert.ensures.keys
