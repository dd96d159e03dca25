-- The invariants and measures of the loops of `parts::plan_entities`.
use Rattle.std.proofs.Common.{◌≡◌, take, length}
use Rattle.mk_connect.specs.ByPlace.{by_place}
use Rattle.mk_connect.specs.Made.{plan_entity}
use Rattle.mk_connect.specs.Related.{pairs_of}
use Rattle.mk_connect.proofs.parts.plan_entities.Given as goal

abbrev pub invariant-loop-i : goal.invariant-loop-i
invariant-loop-i l = l.entities ≡ by_place (plan_entity l.study.models.now (length l.study.entities.now) (pairs_of l.study.entities.now l.blocks)) 0 (take l.i l.entity-items)
