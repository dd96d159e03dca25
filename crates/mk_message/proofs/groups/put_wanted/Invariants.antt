-- The invariants and measures of the loops of `groups::put_wanted`.
use Rattle.std.proofs.Common.{◌≡◌, ◌++◌, drop}
use Rattle.mk_message.specs.inner.Streams.{rest_of, wanted_by_entity}
use Rattle.mk_message.proofs.groups.put_wanted.Given as goal

abbrev pub invariant-loop-want : goal.invariant-loop-want
invariant-loop-want l = l.out.items ++ rest_of wanted_by_entity l.previous (drop l.want-index l.rest) ≡ l.fn.out.items ++ (wanted_by_entity.first l.fn.first ++ rest_of wanted_by_entity l.fn.first l.rest)
