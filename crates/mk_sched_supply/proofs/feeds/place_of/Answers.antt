-- Answers to the goals of `feeds::place_of` that the prover leaves.
use Rattle.mk_sched_supply.specs.inner.Making.{names_of}
use Rattle.mk_sched_supply.proofs.Wanting.{found_at, not_missing}
use Rattle.mk_sched_supply.proofs.feeds.place_of.Goals as goal

pub returns-in-Ok : goal.returns-in-Ok
returns-in-Ok c = λ sorted there. found_at c.args.wants.now (names_of c.args.eid.now c.args.attr.now) c.in-Ok.place c.in-Ok.ensures.within c.in-Ok.ensures.found

pub returns-in-Err : goal.returns-in-Err
returns-in-Err c = λ sorted there. not_missing c.args.wants.now (names_of c.args.eid.now c.args.attr.now) c.in-Err.place c.in-Err.ensures.found sorted there
