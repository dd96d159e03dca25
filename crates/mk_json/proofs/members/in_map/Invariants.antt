-- The invariants and measures of the loops of `members::in_map`.
use Rattle.std.proofs.Common.{◌≡◌, []}
use Rattle.mk_json.specs.inner.Gathered.{put_all, named}
use Rattle.mk_json.proofs.members.in_map.Given as goal

abbrev pub invariant-loop-name : goal.invariant-loop-name
invariant-loop-name l = put_all (named l.found.entries) l.name-iterator.rest.items ≡ put_all [] l.fn.all
