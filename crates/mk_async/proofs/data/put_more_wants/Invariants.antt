-- The invariants and measures of the loops of `data::put_more_wants`.
use Rattle.std.proofs.Common.{◌≡◌, ◌++◌, codes, flat_map, take}
use Rattle.mk_plan.specs.Deliveries.{Supply}
use Rattle.mk_plan.specs.Inputs.{value_at}
use Rattle.mk_buffers.specs.Standing.{StandFor}
use Rattle.mk_async.specs.inner.Content.{AreContents, want_text}
use Rattle.mk_async.proofs.data.put_more_wants.Given as goal

abbrev pub invariant-loop-want : goal.invariant-loop-want
invariant-loop-want l =
    ((S : Supply) → StandFor l.plan l.buffers S → l.text.items ≡ l.fn.text.items ++ flat_map (λ m. codes "," ++ want_text l.plan (value_at S l.at) m) (take l.want-index l.wants))
    × ((S : Supply) → StandFor l.plan l.buffers S → AreContents l.plan (value_at S l.at) (take l.want-index l.wants))
