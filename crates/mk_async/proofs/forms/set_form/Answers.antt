-- Answers to the goals of `forms::set_form` that the prover leaves.
use Rattle.std.proofs.Common.{sym, ap, ◌∙◌, option_map}
use Rattle.mk_async.proofs.Giving.{range_members}
use Rattle.mk_async.proofs.forms.set_form.Goals as goal

pub returns-in-Some-clause-range : goal.returns-in-Some-clause-range
returns-in-Some-clause-range c = λ all. c.set_of.ensures.range (range_members c.args.tree.now c.in-Some.sources.now all (sym c.as_object.ensures ∙ ap (option_map (λ m. m.now)) c.in-Some.is))
