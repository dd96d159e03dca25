-- Answers to the goals of `data::datum` that the prover leaves.
use Rattle.std.proofs.Common.{◌≡◌, true, sym, ap, ◌∙◌, subst}
use Rattle.mk_base.specs.Texts.{text_of}
use Rattle.mk_base.specs.Trees.{is_in_range, is_datum}
use Rattle.mk_base.proofs.OnTrees.{trees_compute}
use Rattle.mk_json.proofs.data.datum.Goals as goal

pub whole_datum-requires : goal.whole_datum-requires
unfolding trees_compute
whole_datum-requires c = subst (λ t. is_in_range t ≡ true) c.in-Whole.is c.requires

pub returns-in-Ok-clause-ok : goal.returns-in-Ok-clause-ok
unfolding trees_compute
returns-in-Ok-clause-ok c = (c.in-Ok.ensures ∙ ap text_of (sym c.in-Whole.is), ap is_datum c.in-Whole.is)
