-- Answers to the goals of `turns::OpenTurns::open` that the prover leaves.
use Rattle.std.proofs.Common.{subst, sym, ◌≤◌, ◌<◌, List, Bool, length, arith}
use Rattle.mk_sched_agenda.proofs.Counting.{few, one_more}
use Rattle.mk_sched_agenda.proofs.turns.OpenTurns.open.Goals as goal

pub overflow_add-self : goal.overflow_add-self
overflow_add-self c =
    let low = few c.self.inside.flags.items in
    let len = c.self.inside.flags.ok in
    let small = c.self.inside.flags.small in
    let count : c.self.inside.count ≤ length c.self.inside.flags.items = subst (λ n. n ≤ length c.self.inside.flags.items) (sym c.self.invariant) low in
    record { fits = omega arith }

pub invariant_of-self : goal.invariant_of-self
invariant_of-self c =
    let low = subst (λ (l : List Bool). c.args.sim < length l) (sym c.self.view_is) c.requires in
    let more = one_more c.self.inside.flags.items c.args.sim c.index.result.now low c.index.ensures c.if-not-index.true in
    let is = c.self.invariant in
    omega arith
