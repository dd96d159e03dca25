-- The invariants and measures of the loops of `first::other_among`.
use Rattle.std.proofs.Common.{◌≤◌}
use Rattle.std.specs.Prelude.{option_map}
use Rattle.mk_record_compare.proofs.Named.{IsWalked}
use Rattle.mk_record_compare.proofs.first.other_among.Given as goal

abbrev pub invariant-loop-entry : goal.invariant-loop-entry
invariant-loop-entry l = record {
  walked : IsWalked (option_map (λ m. m.now) l.messages) l.count l.entries l.fn.asks l.entry-index l.place l.before l.rest l.steps;
  place : l.place ≤ l.entry-index;
  before : l.before ≤ l.entry-index;
}
