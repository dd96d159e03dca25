-- Answers to the goals of `pacing::pass` that the prover leaves.
use Rattle.std.proofs.Common.{[], sym, ap, ◌∙◌, subst, Result, Err}
use Rattle.std.proofs.lemmas.Result.{err_from_is_err_and}
use Rattle.mk_outside.specs.Counts.{HasRisen}
use Rattle.mk_outside.proofs.OnLogs.{adds_none}
use Rattle.mk_pace_laws.specs.declared.end.PaceEnd.{PaceEnd}
use Rattle.mk_pace_loop.specs.inner.Turns.{PassesAs}
use Rattle.mk_pace_loop.proofs.Gaining.{nothing_heard}
use Rattle.mk_pace_loop.proofs.Risen.{rises_none}
use Rattle.mk_pace_loop.proofs.Turning.{are_open, on_tempo, passed, passed_end, still_on, unsent_end}
use Rattle.mk_pace_loop.proofs.pacing.pass.Goals as goal

pub send_due-requires-clause-underway : goal.send_due-requires-clause-underway
send_due-requires-clause-underway g c = let t = c.requires.underway in (t.0, t.1, t.2, t.3)

pub returns-in_err-send_due-clause-passed : goal.returns-in_err-send_due-clause-passed
returns-in_err-send_due-clause-passed g c =
    let e = err_from_is_err_and c.from_residual.result c.from_residual.ensures.1 in (
      [],
      adds_none _,
      subst (λ (r : Result (Unit {0}) PaceEnd). PassesAs r c.args.told [] (HasRisen (g.F.Fleet.faults c.args.fleet.now) (g.F.Fleet.faults c.args.fleet.now)) c.args.core.now c.args.crew.now c.args.waiting.now c.args.core.now c.send_due.new.crew c.send_due.new.waiting)
          (sym (e.1 ∙ ap (λ (end : PaceEnd). Err end) e.2))
          (unsent_end _ c.args.told c.args.core.now c.args.crew.now c.send_due.new.crew c.args.waiting.now c.send_due.new.waiting c.in_err-send_due.field-0.0 c.in_err-send_due.ensures.sent),
    )

pub returns-in_err-send_due-clause-rising : goal.returns-in_err-send_due-clause-rising
returns-in_err-send_due-clause-rising g c = rises_none (g.F.Fleet.log c.args.fleet.now)

pub attend-requires-clause-open : goal.attend-requires-clause-open
attend-requires-clause-open g c = let t = c.requires.underway in are_open t.0 c.args.core.now t.1 c.send_due.new.crew c.send_due.new.waiting _ (c.in_ok-send_due.ensures.sent.1 t.0 t.1 t.2 t.3) t.4

pub attend-requires-clause-underway : goal.attend-requires-clause-underway
attend-requires-clause-underway g c = let t = c.requires.underway in (t.0, t.1, c.in_ok-send_due.ensures.sent.1 t.0 t.1 t.2 t.3)

pub returns-in-Ok-clause-passed : goal.returns-in-Ok-clause-passed
returns-in-Ok-clause-passed g c =
    let a = c.in-Ok.ensures.attended in
    (a.0, a.1, passed ⊥ ⊥ c.args.told c.args.core.now c.attend.new.core a.0 c.args.crew.now c.send_due.new.crew c.attend.new.crew c.args.waiting.now c.send_due.new.waiting c.attend.new.waiting (λ r. r) c.in_ok-send_due.ensures.sent a.2)

pub returns-in-Err-clause-passed : goal.returns-in-Err-clause-passed
returns-in-Err-clause-passed g c =
    let a = c.in-Err.ensures.attended in
    (a.0, a.1, passed_end _ _ c.args.told c.args.core.now c.attend.new.core a.0 c.args.crew.now c.send_due.new.crew c.attend.new.crew c.args.waiting.now c.send_due.new.waiting c.attend.new.waiting c.in-Err.end (λ r. r) c.in_ok-send_due.ensures.sent a.2)

pub returns-in-Ok-clause-still : goal.returns-in-Ok-clause-still
returns-in-Ok-clause-still g c = still_on c.args.crew.now c.send_due.new.crew c.attend.new.crew c.in_ok-send_due.ensures.still c.in-Ok.ensures.still

pub returns-in-Err-clause-still : goal.returns-in-Err-clause-still
returns-in-Err-clause-still g c = still_on c.args.crew.now c.send_due.new.crew c.attend.new.crew c.in_ok-send_due.ensures.still c.in-Err.ensures.still

pub returns-in-Ok-clause-on_tempo : goal.returns-in-Ok-clause-on_tempo
returns-in-Ok-clause-on_tempo g c = on_tempo c.args.waiting.now c.send_due.new.waiting c.attend.new.waiting c.in_ok-send_due.ensures.on_tempo c.in-Ok.ensures.on_tempo

pub returns-in-Err-clause-on_tempo : goal.returns-in-Err-clause-on_tempo
returns-in-Err-clause-on_tempo g c = on_tempo c.args.waiting.now c.send_due.new.waiting c.attend.new.waiting c.in_ok-send_due.ensures.on_tempo c.in-Err.ensures.on_tempo

pub returns-in_err-send_due-clause-batch : goal.returns-in_err-send_due-clause-batch
returns-in_err-send_due-clause-batch g c = nothing_heard c.args.core.now
