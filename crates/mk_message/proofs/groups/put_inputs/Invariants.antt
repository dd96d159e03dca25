-- The invariants and measures of the loops of `groups::put_inputs`.
use Rattle.std.proofs.Common.{◌≡◌, ◌++◌, drop}
use Rattle.mk_message.specs.inner.Streams.{rest_of, by_entity}
use Rattle.mk_message.proofs.groups.put_inputs.Given as goal

abbrev pub invariant-loop-input : goal.invariant-loop-input
invariant-loop-input l = l.out.items ++ rest_of by_entity l.previous (drop l.input-index l.rest) ≡ l.fn.out.items ++ (by_entity.first l.fn.first ++ rest_of by_entity l.fn.first l.rest)
