-- The invariants and measures of the loops of `migrating::message_count`.
use Rattle.std.proofs.Common.{◌≡◌, ◌≤◌, length, take}
use Rattle.mk_plan.specs.Journals.{arrivals}
use Rattle.mosaikrun_records.proofs.migrating.message_count.Given as goal

abbrev pub invariant-loop-entry : goal.invariant-loop-entry
invariant-loop-entry l = record {
  count : l.count ≡ length (arrivals (take l.entry-index l.entries));
  small : l.count ≤ l.entry-index;
}
