-- Answers to the goals of `index::Names::full_id` that the prover leaves.
use Rattle.std.proofs.Common.{◌≡◌, ◌+◌, ◌∙◌, ap, get_or, length, [], arith}
use Rattle.mk_plan.specs.Plans.{full_id}
use Rattle.mk_plan_names.proofs.Indexing.{key_at}
use Rattle.mk_plan_names.proofs.index.Names.full_id.Goals as goal

pub returns : goal.returns
returns c = λ P n.
    let zero_more : 0 + c.args.entity ≡ c.args.entity = omega arith in
    c.as_str.ensures.value
    ∙ key_at (full_id P) [] c.args.self.now.ids.keys 0 (length P.entities) c.args.entity c.index-as_slice-entity.result n.ids c.requires (c.index-as_slice-entity.is ∙ ap (λ l. get_or l c.args.entity c.index-as_slice-entity.result) c.as_slice.ensures.keys)
    ∙ ap (full_id P) zero_more
