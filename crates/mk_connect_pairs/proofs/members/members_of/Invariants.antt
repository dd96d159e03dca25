-- The invariants and measures of the loops of `members::members_of`.
use Rattle.std.proofs.Common.{◌≡◌, take, length}
use Rattle.mk_connect_pairs.specs.Lookups.{HasMembers}
use Rattle.mk_connect_pairs.proofs.members.members_of.Given as goal

abbrev pub invariant-loop-number : goal.invariant-loop-number
invariant-loop-number l = (length l.members.items ≡ l.groups) × HasMembers (take l.number l.entities) l.members.items
