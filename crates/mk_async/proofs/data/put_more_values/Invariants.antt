-- The invariants and measures of the loops of `data::put_more_values`.
use Rattle.std.proofs.Common.{◌≡◌, ◌++◌, codes, flat_map, take}
use Rattle.mk_async.specs.inner.Content.{AreNamed, member_text}
use Rattle.mk_async.proofs.data.put_more_values.Given as goal

abbrev pub invariant-loop-value : goal.invariant-loop-value
invariant-loop-value l = (l.text.items ≡ l.fn.text.items ++ flat_map (λ m. codes "," ++ member_text m.0 m.1) (take l.value-index l.values)) × AreNamed (take l.value-index l.values)
