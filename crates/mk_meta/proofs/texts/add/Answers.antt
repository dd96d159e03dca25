-- The set of one text more has it.
use Rattle.std.proofs.Common.{◌∙◌, ◌++◌, ◌∷◌, [], ap, subst, sym}
use Rattle.mk_meta.specs.inner.TextSets.{HasTexts}
use Rattle.mk_meta.proofs.Sets.{has_more}
use Rattle.mk_meta.proofs.texts.add.Goals as goal

pub returns-clause-known : goal.returns-clause-known
returns-clause-known c = subst (HasTexts c.know.new.known) (sym (c.in_ok-push.ensures.ok ∙ ap (λ t. c.args.kept.now ++ t ∷ []) c.in_ok-copy.ensures)) (has_more c.args.known.now c.know.new.known c.args.kept.now c.args.text.now c.requires c.in_ok-know.ensures)
