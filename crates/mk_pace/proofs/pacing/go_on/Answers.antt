-- Answers to the goals of `pacing::go_on` that the prover leaves.
use Rattle.std.proofs.Common.{◌++◌, subst, sym}
use Rattle.mk_run_links.specs.Places.{IsChannelLink}
use Rattle.mk_run_links.proofs.OnEntries.{on_no_clock}
use Rattle.mk_run.specs.inner.Turns.{AreLinksOpen}
use Rattle.mk_pace.proofs.Beginning.{stopping_open}
use Rattle.mk_pace.proofs.Telling.{rising_by, rising_clockless, rising_more}
use Rattle.mk_pace.proofs.WholeRuns.{paced_in_parts, paced_whole}
use Rattle.mk_pace.proofs.pacing.go_on.Goals as goal

pub stop-requires : goal.stop-requires
stop-requires g c =
    let t = c.requires.underway in
    let e = c.drive-end.ensures.ended in
    stopping_open _ t.0 c.drive-end.new.core (t.1 ++ e.0) c.drive-end.new.crew c.drive-end.new.waiting c.drive-end.result _ (e.2 t.0 t.1 t.2) (subst (AreLinksOpen t.0) (sym c.drive-end.ensures.same_links) t.3)

pub returns-clause-ran : goal.returns-clause-ran
returns-clause-ran g c =
    let e = c.drive-end.ensures.ended in
    let s = c.stop.ensures.stopped in (
      e.0 ++ s.0,
      rising_more e.0 s.0 _ _ _ (rising_by e.0 _ _ e.1 c.drive-end.ensures.rising) (rising_clockless s.0 _ _ s.1 (on_no_clock (IsChannelLink c.drive-end.new.crew.channels) s.0 s.4)),
      (λ S log before low u. paced_in_parts S c.args.waiting.tempo c.args.waiting.strict c.drive-end.new.core.plan c.into_parts-plan.result.0 c.drive-end.new.core.entries c.into_parts-plan.result.1.entries c.drive-end.new.waiting.moments c.into_moments.result (log ++ (e.0 ++ s.0)) before
          (g.F.Fleet.faults c.stop.new.fleet) c.drive-end.result c.into_parts-plan.ensures.plan c.into_parts-plan.ensures.journal c.into_moments.ensures c.args.core.plan
          (paced_whole c.args.core c.drive-end.new.core c.args.crew c.drive-end.new.crew c.args.waiting c.drive-end.new.waiting e.0 s.0 (g.F.Fleet.faults c.args.fleet.now) (g.F.Fleet.faults c.drive-end.new.fleet) (g.F.Fleet.faults c.stop.new.fleet) c.drive-end.result c.drive-end.ensures.count
          c.stop.ensures.count e.2 c.drive-end.ensures.on_tempo s.2 s.3 s.4 S log before low u)),
    )
