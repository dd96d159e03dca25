-- Answers to the goals of `forms::set_of` that the prover leaves.
use Rattle.std.proofs.Common.{refl, ◌∙◌, sym}
use Rattle.mk_async.specs.inner.Forms.{set_of}
use Rattle.mk_async.proofs.Reading.{set_there, none_there, some_there}
use Rattle.mk_async.proofs.forms.set_of.Goals as goal

pub returns-then-are_sources-clause-request : goal.returns-then-are_sources-clause-request
returns-then-are_sources-clause-request c = (refl, some_there c.are_sources.result (set_of c.args.sources.now) c.if-are_sources.true (set_there c.args.sources.now ∙ sym c.are_sources.ensures))

pub returns-else-are_sources-clause-request : goal.returns-else-are_sources-clause-request
returns-else-are_sources-clause-request c = none_there c.are_sources.result (set_of c.args.sources.now) c.if-are_sources.false (set_there c.args.sources.now ∙ sym c.are_sources.ensures)
