-- Answers to the goals of `related::plain_content` that the prover leaves.
use Rattle.std.proofs.Common.{option_map, ap, ◌∙◌, subst}
use Rattle.std.specs.Prelude.{IsSome}
use Rattle.mk_plan.specs.Asks.{content_text}
use Rattle.mk_async.specs.Asked.{asked_in}
use Rattle.mk_async.specs.declared.request.Asked.{Asked}
use Rattle.mk_async.proofs.Relating.{each_content}
use Rattle.mk_async.proofs.related.plain_content.Goals as goal

pub returns-in_ok-related_of_each-in-RelatedOfEach-clause-content : goal.returns-in_ok-related_of_each-in-RelatedOfEach-clause-content
returns-in_ok-related_of_each-in-RelatedOfEach-clause-content c = λ look. ap (λ (a : Asked). option_map (content_text c.args.plan.now look) (asked_in a)) c.in-RelatedOfEach.is
    ∙ each_content c.args.plan.now look c.in-RelatedOfEach.ids.now c.in_ok-related_of_each-in-RelatedOfEach.field-0 (subst (λ (a : Asked). IsSome (asked_in a)) c.in-RelatedOfEach.is c.requires.form) c.in_ok-related_of_each-in-RelatedOfEach.ensures
