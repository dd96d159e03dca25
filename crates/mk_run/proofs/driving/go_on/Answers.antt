-- Answers to the goals of `driving::go_on` that the prover leaves.
use Rattle.std.proofs.Common.{[], sym, ap, ◌∙◌, subst, ◌++◌, Result, Err}
use Rattle.std.proofs.lemmas.Result.{err_from_is_err_and}
use Rattle.mk_outside.specs.Counts.{HasRisen}
use Rattle.mk_run.specs.declared.outcome.Outcome.{Outcome}
use Rattle.mk_run.specs.inner.Turns.{TurnsAs}
use Rattle.mk_run.proofs.Growing.{batch_on}
use Rattle.mk_run.proofs.Turning.{are_open, then_asked, waits_then}
use Rattle.mk_run.proofs.driving.go_on.Goals as goal

pub hear-requires-clause-open : goal.hear-requires-clause-open
hear-requires-clause-open g c = let t = c.requires.underway in are_open t.0 c.args.core.now t.1 c.args.crew.now _ t.2 t.3

pub hear-requires-clause-underway : goal.hear-requires-clause-underway
hear-requires-clause-underway g c = let t = c.requires.underway in (t.0, t.1, t.2)

pub ask_all-requires-clause-underway : goal.ask_all-requires-clause-underway
ask_all-requires-clause-underway g c =
    let t = c.requires.underway in
    let h = c.in_ok-hear.ensures.turned in
    (t.0, t.1 ++ h.0, h.2.1 t.0 t.1 t.2)

pub returns-in_err-hear-clause-turned : goal.returns-in_err-hear-clause-turned
returns-in_err-hear-clause-turned g c =
    let e = err_from_is_err_and c.from_residual.result c.from_residual.ensures.1 in
    let h = c.in_err-hear.ensures.turned in (
      h.0,
      h.1,
      subst (λ (r : Result (Unit {0}) Outcome). TurnsAs r h.0 (HasRisen (g.F.Fleet.faults c.args.fleet.now) (g.F.Fleet.faults c.hear.new.fleet)) c.args.core.now c.args.crew.now c.hear.new.core c.hear.new.crew) (sym (e.1 ∙ ap (λ (end : Outcome). Err end) e.2)) h.2,
    )

pub returns-clause-turned : goal.returns-clause-turned
returns-clause-turned g c =
    let h = c.in_ok-hear.ensures.turned in
    (h.0, h.1, then_asked _ c.args.core.now c.hear.new.core c.ask_all.new.core h.0 c.args.crew.now c.hear.new.crew c.ask_all.new.crew c.ask_all.result c.in_ok-hear.field-0 h.2 c.ask_all.ensures.asked_all)

pub returns-clause-batch : goal.returns-clause-batch
returns-clause-batch g c = batch_on c.args.core.now c.hear.new.core c.ask_all.new.core c.hear.ensures.batch c.ask_all.ensures.items

pub returns-clause-waits : goal.returns-clause-waits
returns-clause-waits g c = waits_then c.hear.new.core c.ask_all.new.core c.hear.new.crew c.ask_all.new.crew c.ask_all.result c.ask_all.ensures.asked_all

pub returns-clause-still : goal.returns-clause-still
returns-clause-still g c =
    let first = c.hear.ensures.still in
    let then = c.ask_all.ensures.still in
    record { places = then.places ∙ first.places; kinds = λ rows known. then.kinds rows (first.kinds rows known) }
