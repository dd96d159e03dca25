-- Answers to the goals of `tallies::empty_tallies` that the prover leaves.
use Rattle.mk_record_report.proofs.Tallying.{untold_more, no_values_more}
use Rattle.mk_record_report.proofs.tallies.empty_tallies.Goals as goal

pub loop-preserved : goal.loop-preserved
loop-preserved c = record {
  each = untold_more c.loop.counter c.loop.tallies.items c.push.new.self.items c.in_ok-push.ensures.items c.loop.invariant.each;
  none = no_values_more c.loop.tallies.items c.push.new.self.items c.in_ok-push.ensures.items c.loop.invariant.none;
}
