-- Answers to the goals of `crew::Crew::shake` that the prover leaves.
use Rattle.std.proofs.Common.{List, ◌++◌, ap, ◌∙◌, arith}
use Rattle.mk_base.specs.declared.LinkNo.{LinkNo}
use Rattle.mk_outside.specs.Counts.{HasRisen}
use Rattle.mk_outside.proofs.OnLogs.{adds_more}
use Rattle.mk_launch.specs.Starts.{links_in}
use Rattle.mk_local.specs.Registries.{rows_in}
use Rattle.mk_run_links.specs.Entries.{IsRunLink}
use Rattle.mk_run_links.specs.Places.{without_all}
use Rattle.mk_run_links.proofs.OnEntries.{on_no_clock}
use Rattle.mk_run_crew.specs.Seen.{crew_of}
use Rattle.mk_run_crew.proofs.Ending.{halted, halted_on}
use Rattle.mk_run_crew.proofs.Placing.{stopped_on}
use Rattle.mk_run_crew.proofs.crew.Crew.shake.Goals as goal
use Rattle.mk_run_links.proofs.OnStops.{risen_later}
use Rattle.mk_session.proofs.Polling.{risen_after}

pub returns-in-Ok-clause-ok : goal.returns-in-Ok-clause-ok
returns-in-Ok-clause-ok g c started new = c.in-Ok.ensures.ok started new

pub returns-in-Err-clause-err : goal.returns-in-Err-clause-err
returns-in-Err-clause-err g c started faults less new =
    let f0 = g.F.Fleet.faults c.args.fleet.now in
    let f1 = g.F.Fleet.faults c.set_up.new.fleet in
    let f2 = g.F.Fleet.faults c.stop.new.fleet in
    let b = c.in-Err.ensures.err started new in
    let s = c.stop.ensures.stopped in (
      b.0 ++ s.0,
      adds_more b.0 s.0 _ _ _ b.1 s.1,
      halted started c.args.setup.scenario c.args.setup.ranks (rows_in c.args.kinds.now) b.0 s.0 (HasRisen f0 f1) (HasRisen faults f2) c.in-Err.halt c.set_up.new.self b.2
          (stopped_on s.0 faults f1 f2 (crew_of c.set_up.new.self) (omega (arith, less, c.in-Err.ensures.count)) s.2) s.3 s.4 (λ r. risen_after faults f0 f2 less (risen_later f0 f1 f2 c.stop.ensures.count r)),
      on_no_clock (IsRunLink started c.args.setup.scenario) (b.0 ++ s.0) (halted_on started c.args.setup.scenario c.args.setup.ranks (rows_in c.args.kinds.now) b.0 s.0 (HasRisen f0 f1) c.in-Err.halt c.set_up.new.self b.2 s.4),
    )

pub returns-in-Err-clause-closed : goal.returns-in-Err-clause-closed
returns-in-Err-clause-closed g c =
    c.stop.ensures.closed ∙ ap (λ (ps : List _). without_all (links_in ps) (g.F.Fleet.open_links c.set_up.new.fleet)) c.in-Err.ensures.same_places ∙ ap (λ (ls : List LinkNo). without_all (links_in c.args.self.places) ls) c.in-Err.ensures.same_links
