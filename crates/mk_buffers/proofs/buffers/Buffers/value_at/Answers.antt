-- Answers to the goals of `buffers::Buffers::value_at` that the prover leaves.
use Rattle.std.proofs.Common.{◌∙◌}
use Rattle.mk_buffers.proofs.Standing.{value_found, value_texts}
use Rattle.mk_buffers.proofs.buffers.Buffers.value_at.Goals as goal

pub returns-in-Some-clause-value : goal.returns-in-Some-clause-value
returns-in-Some-clause-value c = λ P S s given from. c.value_of.ensures ∙ value_found P c.args.self.now S c.args.entity c.args.attr.now c.args.at c.in-Some.outlet c.index.result.now s c.in-Some.ensures.found c.index.ensures from

pub returns-in-Some-clause-text : goal.returns-in-Some-clause-text
returns-in-Some-clause-text c = λ P S s given from. value_texts (λ v. v.now) c.value_of.result S s.texts c.args.at c.args.entity c.args.attr.now
    (c.value_of.ensures ∙ value_found P c.args.self.now S c.args.entity c.args.attr.now c.args.at c.in-Some.outlet c.index.result.now s c.in-Some.ensures.found c.index.ensures from)
