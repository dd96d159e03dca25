-- The invariants and measures of the loops of `members::put_few`.
use Rattle.std.proofs.Common.{◌≡◌, []}
use Rattle.mk_json.specs.inner.Gathered.{put_all}
use Rattle.mk_json.proofs.members.put_few.Given as goal

abbrev pub invariant-loop-name : goal.invariant-loop-name
invariant-loop-name l = put_all l.found l.name-iterator.rest.items ≡ put_all [] l.fn.all
