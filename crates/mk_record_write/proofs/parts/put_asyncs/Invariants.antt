-- proofs/parts/put_asyncs/Invariants.antt
use Rattle.std.proofs.Common.{◌≡◌, ◌++◌, flat_map, take}
use Rattle.mk_record_read.specs.Texts.{async_line}
use Rattle.mk_record_write.proofs.parts.put_asyncs.Given as goal

abbrev pub invariant-loop-pair : goal.invariant-loop-pair
invariant-loop-pair l = l.out.items ≡ l.fn.out.items ++ flat_map async_line (take l.pair-index l.pairs)
