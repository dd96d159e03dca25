-- The invariants and measures of the loops of `same::same_all`.
use Rattle.std.proofs.Common.{◌≡◌, length, take}
use Rattle.mk_plan_same.proofs.same.same_all.Given as goal

abbrev pub invariant-loop-item : goal.invariant-loop-item
invariant-loop-item g l = record {
  items : l.item-items ≡ l.items;
  long : length l.items ≡ length l.others;
  place : l.place ≡ l.item-index;
  same : take l.item-index l.items ≡ take l.item-index l.others;
}
