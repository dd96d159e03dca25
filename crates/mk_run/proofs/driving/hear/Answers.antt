-- Answers to the goals of `driving::hear` that the prover leaves.
use Rattle.std.proofs.Common.{sym, ap, subst, ◌++◌, Err}
use Rattle.mk_outside.specs.Counts.{HasRisen}
use Rattle.mk_run_crew.specs.Seen.{crew_of}
use Rattle.mk_run.specs.inner.Turns.{IsStopping}
use Rattle.mk_run.proofs.Hearing.{heard_low, heard_in_range}
use Rattle.mk_run.proofs.Turning.{may_hear, past_it, heard_turn, stopped_unheard}
use Rattle.mk_run.proofs.driving.hear.Goals as goal

pub hear-requires-clause-some : goal.hear-requires-clause-some
hear-requires-clause-some g c = let t = c.requires.underway in may_hear t.0 c.args.core.now t.1 c.args.crew.now t.2 c.requires.waits.1

pub take-requires-clause-there : goal.take-requires-clause-there
take-requires-clause-there g c =
    let t = c.requires.underway in
    let h = c.in-Ok.ensures.heard c.requires.unhalted in
    heard_low t.0 c.args.core.now.plan c.args.core.now.entries (t.1 ++ h.0) c.in-Ok.sim c.in-Ok.message (crew_of c.hear.new.self) c.hear.new.self.sims
    (past_it t.0 c.args.core.now t.1 h.0 c.args.crew.now c.hear.new.self c.in-Ok.sim c.in-Ok.message t.2 c.requires.waits h.2 h.3 c.in-Ok.ensures.same_sims c.in-Ok.ensures.fit)

pub take-requires-clause-form : goal.take-requires-clause-form
take-requires-clause-form g c =
    let t = c.requires.underway in
    let h = c.in-Ok.ensures.heard c.requires.unhalted in
    heard_in_range t.0 c.args.core.now.plan c.args.core.now.entries (t.1 ++ h.0) c.in-Ok.sim c.in-Ok.message (crew_of c.hear.new.self) c.hear.new.self.sims
    (past_it t.0 c.args.core.now t.1 h.0 c.args.crew.now c.hear.new.self c.in-Ok.sim c.in-Ok.message t.2 c.requires.waits h.2 h.3 c.in-Ok.ensures.same_sims c.in-Ok.ensures.fit)

pub take-requires-clause-heard : goal.take-requires-clause-heard
take-requires-clause-heard g c =
    let t = c.requires.underway in
    let h = c.in-Ok.ensures.heard c.requires.unhalted in
    (t.0, t.1 ++ h.0, past_it t.0 c.args.core.now t.1 h.0 c.args.crew.now c.hear.new.self c.in-Ok.sim c.in-Ok.message t.2 c.requires.waits h.2 h.3 c.in-Ok.ensures.same_sims c.in-Ok.ensures.fit)

pub returns-in-Ok-clause-turned : goal.returns-in-Ok-clause-turned
returns-in-Ok-clause-turned g c =
    let h = c.in-Ok.ensures.heard c.requires.unhalted in
    (h.0, h.1, heard_turn _ c.args.core.now c.take.new.core h.0 c.args.crew.now c.hear.new.self c.take.new.crew c.in-Ok.sim c.in-Ok.message c.take.result c.requires.waits h.2 h.3 c.in-Ok.ensures.same_sims c.in-Ok.ensures.fit c.take.ensures.taken)

pub returns-in-Err-clause-turned : goal.returns-in-Err-clause-turned
returns-in-Err-clause-turned g c =
    let h = c.in-Err.ensures.heard c.requires.unhalted in (
      h.0,
      h.1,
      (λ T log u. subst (IsStopping (HasRisen (g.F.Fleet.faults c.args.fleet.now) (g.F.Fleet.faults c.hear.new.fleet)) T c.args.core.now (log ++ h.0) c.hear.new.self) (sym c.from.ensures)
          (stopped_unheard T c.args.core.now log h.0 c.args.crew.now c.hear.new.self c.in-Err.halt (HasRisen (g.F.Fleet.faults c.args.fleet.now) (g.F.Fleet.faults c.hear.new.fleet)) u c.requires.waits h.2 h.3
          (λ e. c.in-Err.ensures.cause c.requires.unhalted (ap Err e)))),
    )
