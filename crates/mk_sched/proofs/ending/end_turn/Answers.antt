-- Answers to the goals of `ending::end_turn` that the prover leaves.
use Rattle.std.proofs.Common.{◌∙◌}
use Rattle.mk_plan.specs.Journals.{view}
use Rattle.mk_sched.proofs.Judged.{is_open, no_step_end, no_fetch_end}
use Rattle.mk_sched.proofs.ending.end_turn.Goals as goal
use Rattle.mk_sched.proofs.ending.end_turn.Goals.{in_default-via-in-Stepping+in_default, in_default-via-in-Fetching+in_default, in_default-via-in_default}

pub unreachable-requires : goal.unreachable-requires
unreachable-requires c =
    let P = c.args.plan.now in
    let V = view P c.args.journal.now.entries in
    let m = c.args.message.now in
    let judged = c.requires.judged in
    elim c.in_default.branch [
      | in_default-via-in-Stepping+in_default w ↦ no_step_end P V c.args.sim.0 m c.args.place judged w.in_default.field-0-0 w.in_default.field-1-0 w.in_default.field-2-0 w.in_default.is-0 w.in_default.not-Success-1
      | in_default-via-in-Fetching+in_default w ↦ no_fetch_end P V c.args.sim.0 m c.args.place judged w.in_default.field-0-0 w.in_default.field-1-0 w.in_default.is-0 w.in_default.not-Success-1
      | in_default-via-in_default w ↦ is_open P c.args.sim.0 judged.turn.place m judged.right.right (judged.same ∙ w.in_default.is-0)
    ]
