-- The invariants and measures of the loops of `making::first_unknown`.
use Rattle.std.proofs.Common.{◌≡◌, drop, not, is_some}
use Rattle.std.specs.List.{find}
use Rattle.mk_entities.specs.inner.Making.{number_in}
use Rattle.mk_entities.proofs.making.first_unknown.Given as goal

abbrev pub invariant-loop-text : goal.invariant-loop-text
invariant-loop-text l = (l.text-items ≡ l.texts) × (find (λ text. not (is_some (number_in l.names text))) (drop l.text-index l.text-items) ≡ find (λ text. not (is_some (number_in l.names text))) l.texts)
