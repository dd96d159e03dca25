-- The invariants and measures of the loops of `trees::+same`.
use Rattle.std.proofs.Common.{◌≡◌, length, take}
use Rattle.mk_record_compare.proofs.trees.+same.Given as goal

abbrev pub invariant-same_items-loop-item : goal.invariant-same_items-loop-item
invariant-same_items-loop-item l = record {
  items : l.item-items ≡ l.items;
  long : length l.items ≡ length l.others;
  place : l.place ≡ l.item-index;
  same : take l.item-index l.items ≡ take l.item-index l.others;
}

abbrev pub invariant-same_members-loop-name : goal.invariant-same_members-loop-name
invariant-same_members-loop-name l = record {
  entries : l.entries ≡ l.members;
  long : length l.members ≡ length l.others;
  place : l.place ≡ l.name-index;
  same : take l.name-index l.members ≡ take l.name-index l.others;
}
