-- Answers to the goals of `log::latest_of_all` that the prover leaves.
use Rattle.std.proofs.Common.{arith, option_map}
use Rattle.mk_buffers_log.specs.Logs.{arrival}
use Rattle.mk_buffers_log.proofs.Ascending.{weighed_next, weighed_all}
use Rattle.mk_buffers_log.proofs.log.latest_of_all.Goals as goal

pub loop-place-preserved : goal.loop-place-preserved
loop-place-preserved c = weighed_next c.args.via c.args.until c.args.at c.args.entries.now.items c.loop-place.place c.index.result.now (option_map (λ m. arrival c.args.via m.now) c.loop-place.best) (option_map (λ m. arrival c.args.via m.now) c.weigh-best.result)
    (omega (arith, c.loop-place-test.true, c.len-place-end.ensures)) c.index.ensures c.loop-place.invariant c.weigh-best.ensures

pub returns : goal.returns
returns c = weighed_all c.args.via c.args.until c.args.at c.args.entries.now.items c.loop-place.place (option_map (λ m. arrival c.args.via m.now) c.loop-place.best) (omega (arith, c.loop-place-test.false, c.len-place-end.ensures)) c.loop-place.invariant
