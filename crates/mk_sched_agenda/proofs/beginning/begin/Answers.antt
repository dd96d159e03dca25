-- Answers to the goals of `beginning::begin` that the prover leaves.
use Rattle.std.proofs.Common.{subst, sym, ap, ◌∙◌}
use Rattle.mk_nextstep.specs.Queues.{least}
use Rattle.mk_tiers.specs.Standing.{IsOwn}
use Rattle.mk_sched_agenda.specs.inner.Dues.{first_queue}
use Rattle.mk_sched_agenda.proofs.Tidying.{own_least}
use Rattle.mk_sched_agenda.proofs.Begins.{first_own}
use Rattle.mk_sched_agenda.proofs.beginning.begin.Goals as goal

pub set_own-requires-clause-own : goal.set_own-requires-clause-own
set_own-requires-clause-own c = subst IsOwn (sym (c.least-first.ensures ∙ ap least c.in_ok-queue.ensures))
    (own_least (first_queue c.args.limits.now c.args.sim.now) (first_own c.args.limits.now c.requires.until c.requires.loops c.args.sim.now c.requires.events))
