-- Answers to the goals of `resuming::resume_plan` that the prover leaves.
use Rattle.std.proofs.Common.{Bool, List, subst, sym}
use Rattle.mk_local.specs.declared.turn.Turn.{Turn}
use Rattle.mk_run_local.specs.Seen.{AreOf}
use Rattle.mk_run_crew.specs.Seen.{within_of}
use Rattle.mk_resume.specs.inner.Going.{PlanResumesAs}
use Rattle.mk_resume.proofs.Beginning.{begins_fresh, open_fresh, setting_at}
use Rattle.mk_resume.proofs.Refused.{plan_goes_on, plan_refuses}
use Rattle.mk_resume.proofs.Shown.{shows_on}
use Rattle.mk_resume.proofs.resuming.resume_plan.Goals as goal

pub accept-requires-clause-valid : goal.accept-requires-clause-valid
accept-requires-clause-valid g c = c.requires.started.2.begun.valid

pub go_on-requires-clause-unhalted : goal.go_on-requires-clause-unhalted
go_on-requires-clause-unhalted g c = c.requires.started.2.begun.halt

pub go_on-requires-clause-known : goal.go_on-requires-clause-known
go_on-requires-clause-known g c = subst (λ (rows : List Turn). AreOf rows (within_of c.args.crew)) c.requires.started.1 c.requires.started.2.begun.known

pub go_on-requires-clause-fresh : goal.go_on-requires-clause-fresh
go_on-requires-clause-fresh g c =
    let s = c.requires.started in
    let a = c.in-Onward.ensures in
    (setting_at s.0 c.args.crew c.args.plan s.2, s.0.log, begins_fresh s.0 c.args.crew c.args.plan s.2 c.args.saved c.in-Onward.core a.1 c.requires.known, open_fresh s.0 c.args.crew c.args.plan s.2 _ c.requires.open)

pub returns-in-Onward-clause-ran : goal.returns-in-Onward-clause-ran
returns-in-Onward-clause-ran g c =
    let r = c.go_on.ensures.ran in
    let a = c.in-Onward.ensures in (
      r.0,
      r.1,
      subst (λ (b : Bool). PlanResumesAs c.args.plan c.args.saved c.args.crew r.0 (g.F.Fleet.faults c.args.fleet.now) (g.F.Fleet.faults c.go_on.new.fleet) b c.go_on.result.plan c.go_on.result.journal c.go_on.result.end) (sym c.go_on.ensures.taken)
          (plan_goes_on c.args.plan c.args.saved c.args.crew c.in-Onward.core r.0 (g.F.Fleet.faults c.args.fleet.now) (g.F.Fleet.faults c.go_on.new.fleet) c.go_on.result.plan c.go_on.result.journal c.go_on.result.end a.0 a.1 c.requires.known r.2),
    )

pub returns-in-Refused-clause-ran : goal.returns-in-Refused-clause-ran
returns-in-Refused-clause-ran g c =
    let s = c.stop.ensures.stopped in
    let a = c.in-Refused.ensures in (
      s.0,
      s.1,
      subst (λ (b : Bool). PlanResumesAs c.args.plan c.args.saved c.args.crew s.0 (g.F.Fleet.faults c.args.fleet.now) (g.F.Fleet.faults c.stop.new.fleet) b c.in-Refused.ran.plan c.in-Refused.ran.journal c.in-Refused.ran.end) (sym a.0)
          (plan_refuses c.args.plan c.args.saved c.args.crew s.0 (g.F.Fleet.faults c.args.fleet.now) (g.F.Fleet.faults c.stop.new.fleet) c.in-Refused.ran.plan c.in-Refused.ran.journal c.in-Refused.ran.end a.1 s.2 s.3 s.4),
    )

pub returns-in-Onward-clause-shown : goal.returns-in-Onward-clause-shown
returns-in-Onward-clause-shown g c = shows_on g.O.Onlooker.looks c.args.onlooker.now c.go_on.new.onlooker c.args.plan c.args.saved c.in-Onward.core c.go_on.result.taken c.go_on.result.plan c.go_on.result.journal c.go_on.ensures.taken c.in-Onward.ensures.1 c.go_on.ensures.shown
