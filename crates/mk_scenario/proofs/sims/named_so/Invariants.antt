-- The invariants and measures of the loops of `sims::named_so`.
use Rattle.std.proofs.Common.{◌≡◌, ◌≤◌, length, take, codes}
use Rattle.std.specs.List.{filter}
use Rattle.mk_base.specs.Lists.{same_text}
use Rattle.mk_scenario.specs.Sims.{texts_under}
use Rattle.mk_scenario.proofs.sims.named_so.Given as goal

abbrev pub invariant-loop-table : goal.invariant-loop-table
invariant-loop-table l = record {
  told : l.number ≡ length (filter (λ n. same_text n l.name) (texts_under (codes "name") (take l.table-index l.tables)));
  few : l.number ≤ l.table-index;
}
