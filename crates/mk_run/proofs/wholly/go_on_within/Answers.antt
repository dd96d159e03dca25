-- Answers to the goals of `wholly::go_on_within` that the prover leaves.
use Rattle.std.proofs.Common.{[]}
use Rattle.mk_run.proofs.Growing.{batch_on}
use Rattle.mk_run.proofs.Turning.{then_asked}
use Rattle.mk_run.proofs.wholly.go_on_within.Goals as goal

pub ask_all-requires-clause-underway : goal.ask_all-requires-clause-underway
ask_all-requires-clause-underway g c = let t = c.requires.underway in (t.0, [], c.in_ok-take_next.ensures.turned.1 t.0 [] t.1)

pub returns-clause-turned : goal.returns-clause-turned
returns-clause-turned g c = then_asked _ c.args.core.now c.take_next.new.core c.ask_all.new.core [] c.args.crew.now c.take_next.new.crew c.ask_all.new.crew c.ask_all.result c.in_ok-take_next.field-0 c.in_ok-take_next.ensures.turned c.ask_all.ensures.asked_all

pub returns-clause-batch : goal.returns-clause-batch
returns-clause-batch g c = batch_on c.args.core.now c.take_next.new.core c.ask_all.new.core c.take_next.ensures.batch c.ask_all.ensures.items
