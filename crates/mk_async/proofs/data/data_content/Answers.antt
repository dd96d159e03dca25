-- Answers to the goals of `data::data_content` that the prover leaves.
use Rattle.std.proofs.Common.{◌++◌, ap, ◌∙◌, subst, sym}
use Rattle.std.specs.Prelude.{Some}
use Rattle.mk_plan.specs.Inputs.{value_at}
use Rattle.mk_async.specs.inner.Content.{AreContents, wants_text}
use Rattle.mk_async.specs.inner.Known.{knows_wants}
use Rattle.mk_async.specs.declared.request.Asked.TheVariants as as_asked
use Rattle.mk_async.proofs.Depths.{datum_written, supply_finds}
use Rattle.mk_async.proofs.Judging.{known_asked, known_there}
use Rattle.mk_async.proofs.Writing.{content_written}
use Rattle.mk_async.proofs.data.data_content.Goals as goal

pub put_wants-requires-clause-known : goal.put_wants-requires-clause-known
put_wants-requires-clause-known c = ap (knows_wants c.args.plan.now) c.entries.ensures.items ∙ known_asked c.args.plan.now c.requires.known.0 (as_asked.Get c.args.wants) c.requires.known.1

pub of-requires : goal.of-requires
of-requires c =
    let S = c.requires.stands.0 in
    datum_written c.args.plan.now (value_at S c.args.at) (supply_finds S c.args.at c.requires.stands.1.texts) c.args.wants.now c.put_wants.new.text.items
    c.entries.ensures.sorted
    (subst (AreContents c.args.plan.now (value_at S c.args.at)) c.entries.ensures.items (c.in_ok-put_wants.ensures.content S c.requires.stands.1))
    (c.in_ok-put_wants.ensures.written S c.requires.stands.1 ∙ (λ i. c.new-text.ensures.items i ++ wants_text c.args.plan.now (value_at S c.args.at) (c.entries.ensures.items i)))

pub returns : goal.returns
returns c = λ S stands. content_written (value_at S c.args.at) c.args.plan.now c.args.wants.now c.put_wants.new.text.items (known_there c.args.plan.now c.requires.known.0 (as_asked.Get c.args.wants) c.requires.known.1)
    (c.in_ok-put_wants.ensures.written S stands ∙ (λ i. c.new-text.ensures.items i ++ wants_text c.args.plan.now (value_at S c.args.at) (c.entries.ensures.items i))) ∙ ap Some (sym c.of.ensures)
