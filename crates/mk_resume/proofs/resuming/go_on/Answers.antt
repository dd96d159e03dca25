-- Answers to the goals of `resuming::go_on` that the prover leaves.
use Rattle.std.proofs.Common.{◌++◌, subst, sym}
use Rattle.mk_outside.proofs.OnLogs.{adds_more}
use Rattle.mk_run.specs.inner.Turns.{AreLinksOpen}
use Rattle.mk_resume.proofs.Beginning.{stopping_open}
use Rattle.mk_resume.proofs.WholeRuns.{resumed_whole, resumed_in_parts}
use Rattle.mk_resume.proofs.resuming.go_on.Goals as goal

pub stop-requires : goal.stop-requires
stop-requires g c =
    let t = c.requires.fresh in
    let e = c.catch_up-end.ensures.ended in
    stopping_open _ t.0 c.args.core.entries c.catch_up-end.new.core (t.1 ++ e.0) c.catch_up-end.new.crew c.catch_up-end.result _ (e.2 t.0 t.1 t.2) (subst (AreLinksOpen t.0) (sym c.catch_up-end.ensures.same_links) t.3)

pub returns-clause-ran : goal.returns-clause-ran
returns-clause-ran g c =
    let e = c.catch_up-end.ensures.ended in
    let s = c.stop.ensures.stopped in (
      e.0 ++ s.0,
      adds_more e.0 s.0 _ _ _ e.1 s.1,
      (λ saved restored same T log before low u. resumed_in_parts T c.catch_up-end.new.core.plan c.into_parts-plan.result.0 saved c.catch_up-end.new.core.entries c.into_parts-plan.result.1.entries (log ++ (e.0 ++ s.0)) before (g.F.Fleet.faults c.stop.new.fleet) c.catch_up-end.result
          c.into_parts-plan.ensures.plan c.into_parts-plan.ensures.journal c.args.core.plan
          (resumed_whole c.args.core c.catch_up-end.new.core c.args.crew c.catch_up-end.new.crew e.0 s.0 (g.F.Fleet.faults c.args.fleet.now) (g.F.Fleet.faults c.catch_up-end.new.fleet) (g.F.Fleet.faults c.stop.new.fleet) c.catch_up-end.result
          c.catch_up-end.ensures.count c.stop.ensures.count e.2 s.2 s.3 s.4 saved restored same T log before low u)),
    )
