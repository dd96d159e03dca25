-- Answers to the goals of `outlets::outlets_of` that the prover leaves.
use Rattle.std.proofs.Common.{◌≡◌, ℕ, length, subst, ap, arith}
use Rattle.mk_sched_agenda.specs.inner.Outlets.{AreRowsOf}
use Rattle.mk_sched_agenda.proofs.Rows.{rows_none}
use Rattle.mk_sched_agenda.proofs.outlets.outlets_of.Goals as goal

pub loop-place-init : goal.loop-place-init
loop-place-init c = (c.as_slice-conn-items.ensures, rows_none c.args.plan.now c.in_ok-rows.rows.items c.in_ok-rows.ensures.count c.in_ok-rows.ensures.none)

pub loop-place-preserved : goal.loop-place-preserved
loop-place-preserved c = (c.as_slice-conn-items.ensures, c.in_ok-add_conn.ensures)

pub returns : goal.returns
returns c =
    let count : length c.as_slice-conn-items.result.now ≡ length c.args.plan.now.conns = ap length c.as_slice-conn-items.ensures in
    let all : c.loop-place.place ≡ length c.args.plan.now.conns = omega arith in
    subst (λ (k : ℕ). AreRowsOf c.args.plan.now k c.loop-place.rows.items) all c.loop-place.invariant.1
