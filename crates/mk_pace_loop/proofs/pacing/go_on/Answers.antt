-- Answers to the goals of `pacing::go_on` that the prover leaves.
use Rattle.std.proofs.Common.{◌++◌}
use Rattle.mk_pace_loop.proofs.Gaining.{batch_gained}
use Rattle.mk_pace_loop.proofs.Turning.{asked_end, asked_then, on_tempo}
use Rattle.mk_pace_loop.proofs.pacing.go_on.Goals as goal

pub ask_all-requires-clause-underway : goal.ask_all-requires-clause-underway
ask_all-requires-clause-underway g c =
    let t = c.requires.underway in
    let now = c.in_default.ensures.turned in
    (t.0, t.1 ++ now.0, c.tick.new.crew, now.2.1 t.0 t.1 t.2)

pub returns-in-Ok-clause-turned : goal.returns-in-Ok-clause-turned
returns-in-Ok-clause-turned g c =
    let now = c.in_default.ensures.turned in
    (now.0, now.1, asked_then (Unit {0}) c.args.core.now c.tick.new.core c.ask_all.new.core now.0 c.args.crew.now c.tick.new.crew c.args.waiting.now c.tick.new.waiting c.ask_all.new.waiting now.2 c.in-Ok.ensures.asked)

pub returns-in-Ok-clause-batch : goal.returns-in-Ok-clause-batch
returns-in-Ok-clause-batch g c = batch_gained c.args.core.now c.tick.new.core c.ask_all.new.core c.in_default.ensures.batch c.in-Ok.ensures.items

pub returns-in-Ok-clause-on_tempo : goal.returns-in-Ok-clause-on_tempo
returns-in-Ok-clause-on_tempo g c = on_tempo c.args.waiting.now c.tick.new.waiting c.ask_all.new.waiting c.in_default.ensures.on_tempo c.in-Ok.ensures.on_tempo

pub returns-in-Err-ask_all-clause-turned : goal.returns-in-Err-ask_all-clause-turned
returns-in-Err-ask_all-clause-turned g c =
    let now = c.in_default.ensures.turned in (
      now.0,
      now.1,
      asked_end _ c.args.core.now c.tick.new.core c.ask_all.new.core now.0 c.args.crew.now c.tick.new.crew c.args.waiting.now c.tick.new.waiting c.ask_all.new.waiting c.in-Err-ask_all.end now.2 c.in-Err-ask_all.ensures.asked,
    )

pub returns-in-Err-ask_all-clause-batch : goal.returns-in-Err-ask_all-clause-batch
returns-in-Err-ask_all-clause-batch g c = batch_gained c.args.core.now c.tick.new.core c.ask_all.new.core c.in_default.ensures.batch c.in-Err-ask_all.ensures.items

pub returns-in-Err-ask_all-clause-on_tempo : goal.returns-in-Err-ask_all-clause-on_tempo
returns-in-Err-ask_all-clause-on_tempo g c = on_tempo c.args.waiting.now c.tick.new.waiting c.ask_all.new.waiting c.in_default.ensures.on_tempo c.in-Err-ask_all.ensures.on_tempo
