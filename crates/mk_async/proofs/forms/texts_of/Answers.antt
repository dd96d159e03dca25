-- Answers to the goals of `forms::texts_of` that the prover leaves.
use Rattle.std.proofs.Common.{refl, ◌∙◌, sym}
use Rattle.mk_async.specs.inner.Forms.{texts_of}
use Rattle.mk_async.proofs.Reading.{texts_there, none_there, some_there}
use Rattle.mk_async.proofs.forms.texts_of.Goals as goal

pub returns-then-are_texts-clause-request : goal.returns-then-are_texts-clause-request
returns-then-are_texts-clause-request c = (refl, some_there c.are_texts.result (texts_of c.args.texts.now) c.if-are_texts.true (texts_there c.args.texts.now ∙ sym c.are_texts.ensures))

pub returns-else-are_texts-clause-request : goal.returns-else-are_texts-clause-request
returns-else-are_texts-clause-request c = none_there c.are_texts.result (texts_of c.args.texts.now) c.if-are_texts.false (texts_there c.args.texts.now ∙ sym c.are_texts.ensures)
