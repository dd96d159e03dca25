-- Answers to the goals of `numbers::number_once` that the prover leaves.
use Rattle.std.proofs.Common.{ap, sym}
use Rattle.std.specs.Prelude.{is_some}
use Rattle.mk_connect_pairs.proofs.Numbering.{numbers_again, numbers_new}
use Rattle.mk_connect_pairs.proofs.numbers.number_once.Goals as goal

pub returns-in-Some : goal.returns-in-Some
returns-in-Some c = numbers_again c.args.kept.now c.args.model.now c.args.numbers.now c.in_ok-key.key c.requires c.in_ok-key.ensures (ap is_some (sym c.in-Some.ensures))

pub returns-in_ok-number-in-None : goal.returns-in_ok-number-in-None
returns-in_ok-number-in-None c = numbers_new c.args.kept.now c.args.model.now c.args.numbers.now c.number.new.numbers c.in_ok-key.key c.len.result c.requires c.len.ensures c.in_ok-key.ensures c.in_ok-number-in-None.ensures
