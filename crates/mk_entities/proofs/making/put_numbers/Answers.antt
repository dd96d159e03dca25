-- Answers to the goals of `making::put_numbers` that the prover leaves.
use Rattle.std.proofs.Common.{◌≡◌, ◌∙◌, ap, sym, [], filter_map, take, subst, ◌<◌, length, get_or}
use Rattle.std.specs.List.{cons_option}
use Rattle.mk_entities.specs.inner.Making.{number_in, with_numbers}
use Rattle.mk_entities.proofs.Families.{filter_map_more}
use Rattle.mk_entities.proofs.Numbers.{put_parts}
use Rattle.mk_entities.proofs.making.put_numbers.Goals as goal

pub loop-text-preserved : goal.loop-text-preserved
loop-text-preserved c =
    let number : c.get.result ≡ number_in c.args.names.now c.text-item.result = c.get.ensures ∙ ap (number_in c.args.names.now) c.as_str.ensures in
    let so_far = filter_map (number_in c.args.names.now) (take c.loop-text.text-index c.args.texts.now) in (
      c.loop-text.invariant.0,
      c.in_ok-put_number.ensures
          ∙ ap (λ k. with_numbers k (cons_option c.get.result [])) c.loop-text.invariant.1
          ∙ ap (λ r. with_numbers (with_numbers c.args.into.now.keys so_far) (cons_option r [])) number
          ∙ sym (put_parts c.args.into.now.keys so_far (cons_option (number_in c.args.names.now c.text-item.result) []))
          ∙ ap (with_numbers c.args.into.now.keys) (sym (filter_map_more (number_in c.args.names.now) c.args.texts.now c.loop-text.text-index c.text-item.result (subst (λ xs. c.loop-text.text-index < length xs) c.loop-text.invariant.0 c.loop-text-test.true) (c.text-item.is ∙ ap (λ xs. get_or xs c.loop-text.text-index c.text-item.result) c.loop-text.invariant.0))),
    )
