-- Answers to the goals of `spots::park` that the prover leaves.
use Rattle.std.proofs.Common.{rules}
use Rattle.mk_poll.proofs.Spotting.{parked_at}
use Rattle.mk_poll.proofs.spots.park.Goals as goal

pub returns-clause-at : goal.returns-clause-at
returns-clause-at c = parked_at c.args.spots.now.items c.set_spot.new.spots.items c.args.parked.now.items c.push_reserved.new.self.items c.args.link c.len.result c.requires.at c.requires.free c.set_spot.ensures (search rules) c.push_reserved.ensures.items
