-- For proofs alone. What simulators begin with.
use Rattle.std.specs.Prelude.{◌≡◌, length}
use Rattle.mk_plan.specs.declared.Plan.{Plan}
use Rattle.mk_buffers.specs.declared.tables.Starts.{Starts}
use Rattle.mk_buffers.specs.Marking.{AreAsking, IsLeastMark}
use Rattle.mk_buffers.specs.inner.Marking.{AreStarts}
use Rattle.mk_buffers.specs.inner.Standing.{AreUnset}

-- no value is set, each mark is at the start, those that ask are those of the plan, and each
-- simulator has a place for when its outlets are looked at again
pub record HasStarts (P : Plan) (s : Starts) : Type 0 where
  pub sets : AreUnset (length P.sims) s.sets.items
  pub asking : AreAsking P s.marks.asks
  pub least : IsLeastMark s.marks
  pub starts : AreStarts s.marks.marks
  pub marks : length s.marks.marks ≡ length P.sims
  pub noted : length s.next_marks.items ≡ length P.sims
