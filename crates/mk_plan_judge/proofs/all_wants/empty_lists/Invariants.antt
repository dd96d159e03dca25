-- The invariants and measures of the loops of `all_wants::empty_lists`.
use Rattle.std.proofs.Common.{◌≡◌, List, [], length}
use Rattle.mk_base.specs.Lists.{IsIn}
use Rattle.mk_plan.specs.declared.Want.{Want}
use Rattle.mk_plan_judge.proofs.all_wants.empty_lists.Given as goal

abbrev pub invariant-loop : goal.invariant-loop
invariant-loop l = record {
  count : length l.lists.items ≡ l.counter;
  none : (ws : List Want) → IsIn ws l.lists.items → ws ≡ [];
}
