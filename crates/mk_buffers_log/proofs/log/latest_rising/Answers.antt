-- Answers to the goals of `log::latest_rising` that the prover leaves.
use Rattle.std.proofs.Common.{arith}
use Rattle.mk_buffers_log.proofs.Ascending.{found_none, found_last}
use Rattle.mk_buffers_log.proofs.log.latest_rising.Goals as goal

pub returns-then-count-eq0 : goal.returns-then-count-eq0
returns-then-count-eq0 c = found_none c.args.via c.args.until c.args.at c.args.entries.now.items c.passing-count.result (omega arith) c.passing-count.ensures.cut

pub returns-else-count-eq0 : goal.returns-else-count-eq0
returns-else-count-eq0 c = found_last c.args.via c.args.until c.args.at c.args.entries.now.items c.passing-count.result c.index.result.now c.requires c.passing-count.ensures.within (omega arith) c.index.ensures c.passing-count.ensures.cut
