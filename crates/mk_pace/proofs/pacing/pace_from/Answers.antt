-- Answers to the goals of `pacing::pace_from` that the prover leaves.
use Rattle.std.proofs.Common.{List, subst}
use Rattle.mk_local.specs.declared.turn.Turn.{Turn}
use Rattle.mk_run_local.specs.Seen.{AreOf}
use Rattle.mk_run_crew.specs.Seen.{within_of}
use Rattle.mk_run_links.specs.Places.{IsChannelLink}
use Rattle.mk_run_links.proofs.OnEntries.{on_no_clock}
use Rattle.mk_pace.proofs.Early.{no_memory}
use Rattle.mk_pace.proofs.Telling.{rising_clockless}
use Rattle.mk_pace.proofs.WholeRuns.{goes_new, plan_paces}
use Rattle.mk_pace.proofs.pacing.pace_from.Goals as goal

pub make-requires-clause-valid : goal.make-requires-clause-valid
make-requires-clause-valid g c = c.requires.started.2.begun.valid

pub go_on-requires-clause-unhalted : goal.go_on-requires-clause-unhalted
go_on-requires-clause-unhalted g c = c.requires.started.2.begun.halt

pub go_on-requires-clause-known : goal.go_on-requires-clause-known
go_on-requires-clause-known g c = subst (λ (rows : List Turn). AreOf rows (within_of c.args.crew)) c.requires.started.1 c.requires.started.2.begun.known

pub go_on-requires-clause-underway : goal.go_on-requires-clause-underway
go_on-requires-clause-underway g c =
    let s = c.requires.started in
    let m = c.in-Ok.ensures in
    goes_new s.0 c.args.crew c.args.plan s.2 c.args.origin c.args.factor c.args.strict c.in-Ok.core c.in-Ok.waiting m.0 m.1 _ c.requires.open

pub returns-in-Ok-clause-ran : goal.returns-in-Ok-clause-ran
returns-in-Ok-clause-ran g c =
    let r = c.go_on.ensures.ran in
    let m = c.in-Ok.ensures in (
      r.0,
      r.1,
      plan_paces c.args.plan c.args.crew c.in-Ok.core c.in-Ok.waiting c.args.origin c.args.factor c.args.strict r.0 (g.F.Fleet.faults c.args.fleet.now) (g.F.Fleet.faults c.go_on.new.fleet) c.go_on.result.plan c.go_on.result.journal c.go_on.result.moments c.go_on.result.end m.0 m.1 r.2,
    )

pub returns-in-Err-clause-ran : goal.returns-in-Err-clause-ran
returns-in-Err-clause-ran g c =
    let s = c.stop_early.ensures.stopped in (
      s.0,
      rising_clockless s.0 _ _ s.1 (on_no_clock (IsChannelLink c.args.crew.channels) s.0 s.4),
      no_memory c.args.plan c.args.crew c.args.origin c.args.factor c.args.strict s.0 (g.F.Fleet.faults c.args.fleet.now) (g.F.Fleet.faults c.stop_early.new.fleet) c.stop_early.result s.2 s.3 s.4 c.stop_early.ensures.ran,
    )
