-- Answers to the goals of `sheet::Sheet::go_on` that the prover leaves.
use Rattle.mk_scribe.proofs.Texts.{given_up, goes_on, idle}
use Rattle.mk_scribe.proofs.sheet.Sheet.go_on.Goals as goal

pub returns-in-Ok : goal.returns-in-Ok
returns-in-Ok c begun P J written m = goes_on c.args.self.now c.count_on.new.self P J c.args.fresh.now written _ _ c.in-Begun.is c.in-Ok.ensures c.line_count.ensures c.count_on.ensures m

pub returns-in-Err : goal.returns-in-Err
returns-in-Err c begun P J written m = given_up c.args.self.now c.give_up.new.self P J c.args.fresh.now written c.give_up.ensures m

pub returns-in-Unbegun : goal.returns-in-Unbegun
returns-in-Unbegun c begun P J written m = idle c.args.self.now P J c.args.fresh.now written begun c.in-Unbegun.is m
