-- The invariants and measures of the loops of `members::no_members`.
use Rattle.std.proofs.Common.{◌≡◌, [], length}
use Rattle.mk_connect_pairs.specs.Lookups.{HasMembers}
use Rattle.mk_connect_pairs.proofs.members.no_members.Given as goal

abbrev pub invariant-loop : goal.invariant-loop
invariant-loop l = (length l.members.items ≡ l.counter) × HasMembers [] l.members.items
