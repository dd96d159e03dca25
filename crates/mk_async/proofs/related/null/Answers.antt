-- Answers to the goals of `related::null` that the prover leaves.
use Rattle.std.proofs.Common.{◌≡◌, ℕ, List, subst}
use Rattle.std.specs.Prelude.{IfOk}
use Rattle.mk_async.proofs.Relating.{null_value, text_null}
use Rattle.mk_async.proofs.related.null.Goals as goal

pub datum_of-requires : goal.datum_of-requires
datum_of-requires c = null_value

pub returns : goal.returns
returns c = subst (λ (s : List ℕ). IfOk c.datum_of.result (λ text. text ≡ s)) text_null c.datum_of.ensures
