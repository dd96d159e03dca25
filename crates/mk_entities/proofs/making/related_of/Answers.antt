-- Answers to the goals of `making::related_of` that the prover leaves.
use Rattle.std.proofs.Common.{◌≡◌, ◌∙◌, ap, sym, subst, [], IfOk, filter_map, unwrap_or}
use Rattle.std.proofs.lemmas.List.Elements.{filter_map-append}
use Rattle.mk_entities.specs.inner.Making.{number_in, related_by, with_numbers}
use Rattle.mk_entities.proofs.Numbers.{put_parts}
use Rattle.mk_entities.proofs.making.related_of.Goals as goal

pub returns : goal.returns
returns c =
    let number = number_in c.args.names.now in
    let rel = filter_map number (unwrap_or c.args.entity.now.rel []) in
    let children = filter_map number c.args.entity.now.children in
    let keys : c.put_numbers.new.into.keys ≡ related_by number c.args.entity.now =
    c.in_ok-put_numbers.ensures
    ∙ ap (λ l. with_numbers l children) (c.in_ok-put_rel.ensures ∙ ap (λ l. with_numbers l rel) c.new-numbers.ensures.empty)
    ∙ sym (put_parts [] rel children)
    ∙ ap (with_numbers []) (sym (filter_map-append number (unwrap_or c.args.entity.now.rel []) c.args.entity.now.children)) in
    subst (λ l. IfOk c.listed.result (λ numbers. numbers ≡ l)) keys c.listed.ensures
