-- Answers to the goals of `index::Names::find` that the prover leaves.
use Rattle.std.proofs.Common.{◌∙◌, sym, ap, position}
use Rattle.std.specs.Str.{bytes_eq}
use Rattle.std.specs.String.{string_bytes}
use Rattle.mk_plan_names.proofs.Indexing.{entity_at}
use Rattle.mk_plan_names.proofs.index.Names.find.Goals as goal

pub returns-in-Some-clause-entity : goal.returns-in-Some-clause-entity
returns-in-Some-clause-entity c = λ P n. sym c.in-Some.is ∙ c.get_index_of.ensures.index ∙ ap (λ t. position (λ k. bytes_eq t (string_bytes k)) c.args.self.now.ids.keys) c.as_str.ensures ∙ entity_at P c.args.full_id.now c.args.self.now.ids.keys n.ids

pub returns-in-None-clause-entity : goal.returns-in-None-clause-entity
returns-in-None-clause-entity c = λ P n. sym c.in-None.is ∙ c.get_index_of.ensures.index ∙ ap (λ t. position (λ k. bytes_eq t (string_bytes k)) c.args.self.now.ids.keys) c.as_str.ensures ∙ entity_at P c.args.full_id.now c.args.self.now.ids.keys n.ids
