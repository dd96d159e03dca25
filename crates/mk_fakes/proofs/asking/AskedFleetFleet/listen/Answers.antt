-- Answers to the goals of `asking::AskedFleetFleet::listen` that the prover leaves.
use Rattle.mk_fakes.proofs.Noting.{port_noted}
use Rattle.mk_fakes.proofs.asking.AskedFleetFleet.listen.Goals as goal

pub returns-in-At-clause-asks : goal.returns-in-At-clause-asks
returns-in-At-clause-asks g c = port_noted c.args.self.now.asks c.push.new.self c.set.new.self _ c.in-At.port c.len.result c.in-Ok.ensures.ok c.len.ensures c.set.ensures
