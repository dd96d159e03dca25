-- Answers to the goals of `turns::OpenTurns::close` that the prover leaves.
use Rattle.std.proofs.Common.{subst, sym, ◌<◌, List, Bool, length, arith}
use Rattle.mk_sched_agenda.proofs.Counting.{one_fewer}
use Rattle.mk_sched_agenda.proofs.turns.OpenTurns.close.Goals as goal

pub overflow_sub-self : goal.overflow_sub-self
overflow_sub-self c =
    let low = subst (λ (l : List Bool). c.args.sim < length l) (sym c.self.view_is) c.requires in
    let fewer = one_fewer c.self.inside.flags.items c.args.sim c.index.result.now low c.index.ensures c.if-index.true in
    let is = c.self.invariant in
    omega arith

pub invariant_of-self : goal.invariant_of-self
invariant_of-self c =
    let low = subst (λ (l : List Bool). c.args.sim < length l) (sym c.self.view_is) c.requires in
    let fewer = one_fewer c.self.inside.flags.items c.args.sim c.index.result.now low c.index.ensures c.if-index.true in
    let is = c.self.invariant in
    omega arith
