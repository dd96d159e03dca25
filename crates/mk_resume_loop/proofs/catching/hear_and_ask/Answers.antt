-- Answers to the goals of `catching::hear_and_ask` that the prover leaves.
use Rattle.std.proofs.Common.{◌++◌, ◌∙◌}
use Rattle.mk_onlooker.proofs.OnShowings.{batch_more}
use Rattle.mk_resume_loop.proofs.Turned.{are_open, asked_then}
use Rattle.mk_resume_loop.proofs.catching.hear_and_ask.Goals as goal

pub hear-requires-clause-open : goal.hear-requires-clause-open
hear-requires-clause-open g c =
    let t = c.requires.underway in
    are_open t.0 t.1 t.2 c.args.core.now t.3 c.args.crew.now c.args.behind.now _ t.4 t.5

pub hear-requires-clause-underway : goal.hear-requires-clause-underway
hear-requires-clause-underway g c = let t = c.requires.underway in (t.0, t.1, t.2, t.3, t.4)

pub ask_on-requires-clause-underway : goal.ask_on-requires-clause-underway
ask_on-requires-clause-underway g c =
    let t = c.requires.underway in
    let h = c.in_ok-hear.ensures.turned in
    let w = h.2.1 t.0 t.1 t.2 t.3 t.4 in
    (t.0, t.1, w.0, t.3 ++ h.0, w.1)

pub returns-clause-turned : goal.returns-clause-turned
returns-clause-turned g c =
    let h = c.in_ok-hear.ensures.turned in
    (h.0, h.1, asked_then _ c.args.core.now c.hear.new.core c.ask_on.new.core h.0 c.args.crew.now c.hear.new.crew c.ask_on.new.crew c.args.behind.now c.hear.new.behind c.hear.new.behind c.ask_on.result h.2.1 c.ask_on.ensures.asked)

pub returns-clause-batch : goal.returns-clause-batch
returns-clause-batch g c = batch_more c.args.core.now.entries c.hear.new.core.entries c.ask_on.new.core.entries c.in_ok-hear.ensures.batch c.ask_on.ensures.items

pub returns-clause-still : goal.returns-clause-still
returns-clause-still g c =
    let first = c.in_ok-hear.ensures.still in
    let then = c.ask_on.ensures.still in
    record { places = then.places ∙ first.places; kinds = λ rows known. then.kinds rows (first.kinds rows known) }
