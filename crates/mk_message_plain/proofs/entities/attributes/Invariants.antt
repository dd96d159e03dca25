-- The invariants and measures of the loops of `entities::attributes`.
use Rattle.std.proofs.Common.{length}
use Rattle.mk_message_plain.specs.inner.Members.{Found}
use Rattle.mk_message_plain.proofs.entities.attributes.Given as goal

abbrev pub invariant-loop-name : goal.invariant-loop-name
invariant-loop-name l = Found 0 l.fn.text l.last l.found l.rest

abbrev pub decreases-loop-name : goal.decreases-loop-name
decreases-loop-name l = length l.rest
