-- Answers to the goals of `related::related` that the prover leaves.
use Rattle.std.proofs.Common.{◌≡◌, ℕ, List, subst, ap, ◌∙◌}
use Rattle.std.specs.Prelude.{IfOk}
use Rattle.mk_base.specs.Texts.{text_of}
use Rattle.mk_async.specs.Forms.{is_value}
use Rattle.mk_async.proofs.Relating.{related_same, related_value}
use Rattle.mk_async.proofs.related.related.Goals as goal

pub datum_of-requires : goal.datum_of-requires
datum_of-requires c = ap is_value c.in_ok-tree.ensures ∙ related_value c.args.plan.now c.args.id.now

pub returns : goal.returns
returns c = subst (λ (s : List ℕ). IfOk c.datum_of.result (λ text. text ≡ s)) (ap text_of c.in_ok-tree.ensures ∙ related_same c.args.plan.now c.args.id.now) c.datum_of.ensures
