-- The invariants and measures of the loops of `making::name_all`.
use Rattle.std.proofs.Common.{◌≡◌, ℕ, ◌+◌, ◌<◌, ◌≤◌, ◌++◌, take, None}
use Rattle.mk_entities.specs.inner.Making.{fault_at, named_from}
use Rattle.mk_entities.proofs.making.name_all.Given as goal
use Rattle.mk_base.specs.Limits.{most_entities}

abbrev pub invariant-loop-n : goal.invariant-loop-n
invariant-loop-n l = record {
  passed : (k : ℕ) → k < l.n → fault_at l.fn.names l.count l.asked.model.now l.asked.meta.now l.entities k ≡ None;
  named : l.names ≡ l.fn.names ++ named_from l.count (take l.n l.entities);
  few : l.count + l.n ≤ most_entities;
}
