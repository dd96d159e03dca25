-- Answers to the goals of `running::run_plan` that the prover leaves.
use Rattle.std.proofs.Common.{sym, subst, ◌++◌}
use Rattle.mk_outside.proofs.OnLogs.{adds_more}
use Rattle.mk_sched.specs.Cores.{CoreState}
use Rattle.mk_run.specs.inner.Turns.{AreLinksOpen, GoesOn}
use Rattle.mk_run.proofs.Turning.{ended_open}
use Rattle.mk_run.proofs.WholeRuns.{open_first, run_whole, run_in_parts}
use Rattle.mk_run.proofs.running.run_plan.Goals as goal

pub stop-requires : goal.stop-requires
stop-requires g c =
    let t = c.requires.underway in
    let e = c.drive-outcome.ensures.ended in
    ended_open _ t.0 c.drive-outcome.new.core (t.1 ++ e.0) c.drive-outcome.new.crew c.drive-outcome.result _ (e.2 t.0 t.1 (subst (λ (k : CoreState). GoesOn t.0 k t.1 c.args.crew) (sym c.in-Ok.ensures) t.2))
    (subst (AreLinksOpen t.0) (sym c.drive-outcome.ensures.same_links) t.3)

pub stop-requires-in-Err : goal.stop-requires-in-Err
stop-requires-in-Err g c = let t = c.requires.underway in open_first t.0 c.args.plan t.1 c.args.crew _ t.2 t.3

pub returns-in-Ok-clause-ran : goal.returns-in-Ok-clause-ran
returns-in-Ok-clause-ran g c =
    let e = c.drive-outcome.ensures.ended in
    let s = c.stop.ensures.stopped in (
      e.0 ++ s.0,
      adds_more e.0 s.0 _ _ _ e.1 s.1,
      (λ T log before low u. run_in_parts T c.drive-outcome.new.core.plan c.into_parts-plan.result.0 c.drive-outcome.new.core.entries c.into_parts-plan.result.1.entries (log ++ (e.0 ++ s.0)) before (g.F.Fleet.faults c.stop.new.fleet) c.drive-outcome.result
          c.into_parts-plan.ensures.plan c.into_parts-plan.ensures.journal c.args.plan
          (run_whole c.args.plan c.in-Ok.core c.drive-outcome.new.core c.args.crew c.drive-outcome.new.crew e.0 s.0 (g.F.Fleet.faults c.args.fleet.now) (g.F.Fleet.faults c.drive-outcome.new.fleet) (g.F.Fleet.faults c.stop.new.fleet) c.drive-outcome.result
          c.in-Ok.ensures c.drive-outcome.ensures.count c.stop.ensures.count e.2 s.2 s.3 s.4 T log before low u)),
    )
