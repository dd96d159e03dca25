-- Answers to the goals of `resuming::catch_up` that the prover leaves.
use Rattle.std.proofs.Common.{[], List, sym, subst}
use Rattle.mk_base.proofs.Lists.{append_nil}
use Rattle.mk_outside.specs.Counts.{HasRisen}
use Rattle.mk_outside.specs.declared.fleet.LogEntry.{LogEntry}
use Rattle.mk_outside.proofs.OnLogs.{adds_none}
use Rattle.mk_resume_loop.specs.inner.Turns.{IsStopping}
use Rattle.mk_resume_loop.proofs.Turned.{stopping_by}
use Rattle.mk_resume.proofs.Shown.{had_shown}
use Rattle.mk_resume.proofs.resuming.catch_up.Goals as goal

pub begin-requires-clause-underway : goal.begin-requires-clause-underway
begin-requires-clause-underway g c = let t = c.requires.fresh in (t.0, t.1, t.2.resuming, t.2.over)

pub drive-requires-clause-underway : goal.drive-requires-clause-underway
drive-requires-clause-underway g c = let t = c.requires.fresh in (t.0, c.args.core.now.entries, (λ i. 0), t.1, c.in-Ok.ensures.begun t.0 t.1 t.2.resuming t.2.over, t.3)

pub returns-in-Ok-clause-ended : goal.returns-in-Ok-clause-ended
returns-in-Ok-clause-ended g c = let e = c.drive.ensures.ended in (e.0, e.1, (λ T log u. e.2 T c.args.core.now.entries (λ i. 0) log (c.in-Ok.ensures.begun T log u.resuming u.over)))

pub returns-in-Err-clause-ended : goal.returns-in-Err-clause-ended
returns-in-Err-clause-ended g c = (
  [],
  adds_none _,
  (λ T log u. subst (λ (l : List LogEntry). IsStopping (HasRisen (g.F.Fleet.faults c.args.fleet.now) (g.F.Fleet.faults c.args.fleet.now)) T c.args.core.now.entries c.args.core.now l c.begin.new.crew c.in-Err.end) (sym (append_nil log))
      (stopping_by ⊥ (HasRisen (g.F.Fleet.faults c.args.fleet.now) (g.F.Fleet.faults c.args.fleet.now)) T c.args.core.now.entries c.args.core.now log c.begin.new.crew c.in-Err.end (λ e. absurd e) (c.in-Err.ensures.begun T log u.resuming u.over))),
)

pub returns-in-Err-clause-shown : goal.returns-in-Err-clause-shown
returns-in-Err-clause-shown g c = had_shown g.O.Onlooker.looks c.args.onlooker.now c.show.new.onlooker c.args.core.now.plan _ c.args.core.now.entries _ c.plan.ensures c.journal.ensures.same c.show.ensures.looked
