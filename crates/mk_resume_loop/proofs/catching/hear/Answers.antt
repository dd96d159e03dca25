-- Answers to the goals of `catching::hear` that the prover leaves.
use Rattle.std.proofs.Common.{◌++◌, Err, sym, ap, subst}
use Rattle.mk_outside.specs.Counts.{HasRisen}
use Rattle.mk_run_crew.specs.Seen.{crew_of}
use Rattle.mk_run.specs.declared.outcome.Outcome.{Outcome}
use Rattle.mk_resume_loop.specs.declared.ending.ResumeEnd.TheVariants as ends
use Rattle.mk_resume_loop.specs.inner.Turns.{IsStopping}
use Rattle.mk_resume_loop.proofs.Hearing.{met_in_range, met_low}
use Rattle.mk_resume_loop.proofs.Turning.{past_it}
use Rattle.mk_resume_loop.proofs.Turned.{heard_turn, may_hear, stopped_unheard}
use Rattle.mk_resume_loop.proofs.catching.hear.Goals as goal

pub hear-requires-clause-some : goal.hear-requires-clause-some
hear-requires-clause-some g c = let t = c.requires.underway in may_hear t.0 t.1 t.2 c.args.core.now t.3 c.args.crew.now c.args.behind.now t.4 c.requires.waits

pub accept-requires-clause-there : goal.accept-requires-clause-there
accept-requires-clause-there g c =
    let t = c.requires.underway in
    let h = c.in-Ok.ensures.heard c.requires.unhalted in
    met_low t.0 c.args.core.now.plan t.1 c.args.core.now.entries t.2 (t.3 ++ h.0) c.in-Ok.sim c.in-Ok.message (crew_of c.hear.new.self) c.hear.new.self.sims
    (past_it t.0 c.args.core.now t.1 t.2 t.3 h.0 c.args.crew.now c.hear.new.self c.args.behind.now c.in-Ok.sim c.in-Ok.message t.4 c.requires.waits.0 h.2 h.3 c.in-Ok.ensures.same_sims c.in-Ok.ensures.fit).0

pub accept-requires-clause-form : goal.accept-requires-clause-form
accept-requires-clause-form g c =
    let t = c.requires.underway in
    let h = c.in-Ok.ensures.heard c.requires.unhalted in
    met_in_range t.0 c.args.core.now.plan t.1 c.args.core.now.entries t.2 (t.3 ++ h.0) c.in-Ok.sim c.in-Ok.message (crew_of c.hear.new.self) c.hear.new.self.sims
    (past_it t.0 c.args.core.now t.1 t.2 t.3 h.0 c.args.crew.now c.hear.new.self c.args.behind.now c.in-Ok.sim c.in-Ok.message t.4 c.requires.waits.0 h.2 h.3 c.in-Ok.ensures.same_sims c.in-Ok.ensures.fit).0

pub accept-requires-clause-heard : goal.accept-requires-clause-heard
accept-requires-clause-heard g c =
    let t = c.requires.underway in
    let h = c.in-Ok.ensures.heard c.requires.unhalted in
    (t.0, t.1, t.2, t.3 ++ h.0, past_it t.0 c.args.core.now t.1 t.2 t.3 h.0 c.args.crew.now c.hear.new.self c.args.behind.now c.in-Ok.sim c.in-Ok.message t.4 c.requires.waits.0 h.2 h.3 c.in-Ok.ensures.same_sims c.in-Ok.ensures.fit)

pub returns-in-Ok-clause-turned : goal.returns-in-Ok-clause-turned
returns-in-Ok-clause-turned g c =
    let h = c.in-Ok.ensures.heard c.requires.unhalted in
    (h.0, h.1, heard_turn _ c.args.core.now c.accept.new.core h.0 c.args.crew.now c.hear.new.self c.accept.new.crew c.args.behind.now c.accept.new.behind c.in-Ok.sim c.in-Ok.message c.accept.result c.requires.waits h.2 h.3 c.in-Ok.ensures.same_sims c.in-Ok.ensures.fit c.accept.ensures.taken)

pub returns-in-Err-clause-turned : goal.returns-in-Err-clause-turned
returns-in-Err-clause-turned g c =
    let h = c.in-Err.ensures.heard c.requires.unhalted in (
      h.0,
      h.1,
      (λ T first heard log u. subst (λ (o : Outcome). IsStopping (HasRisen (g.F.Fleet.faults c.args.fleet.now) (g.F.Fleet.faults c.hear.new.fleet)) T first c.args.core.now (log ++ h.0) c.hear.new.self (ends.Outcome o)) (sym c.from.ensures)
          (stopped_unheard T first heard c.args.core.now log h.0 c.args.crew.now c.hear.new.self c.args.behind.now c.in-Err.halt (HasRisen (g.F.Fleet.faults c.args.fleet.now) (g.F.Fleet.faults c.hear.new.fleet)) u c.requires.waits h.2 h.3
          (λ e. c.in-Err.ensures.cause c.requires.unhalted (ap Err e)))),
    )
