-- Answers to the goals of `forms::get_of` that the prover leaves.
use Rattle.std.proofs.Common.{refl, ◌∙◌, sym}
use Rattle.mk_async.specs.Asked.{get_in}
use Rattle.mk_async.proofs.Reading.{get_there, none_there, some_there}
use Rattle.mk_async.proofs.forms.get_of.Goals as goal

pub returns-then-are_wants-clause-request : goal.returns-then-are_wants-clause-request
returns-then-are_wants-clause-request c = (refl, some_there c.are_wants.result (get_in c.args.wants.now) c.if-are_wants.true (get_there c.args.wants.now ∙ sym c.are_wants.ensures))

pub returns-else-are_wants-clause-request : goal.returns-else-are_wants-clause-request
returns-else-are_wants-clause-request c = none_there c.are_wants.result (get_in c.args.wants.now) c.if-are_wants.false (get_there c.args.wants.now ∙ sym c.are_wants.ensures)
