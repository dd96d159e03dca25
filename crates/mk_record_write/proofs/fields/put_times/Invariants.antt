-- proofs/fields/put_times/Invariants.antt
use Rattle.std.proofs.Common.{◌≡◌, ◌++◌, map, take, codes}
use Rattle.std.specs.List.{join_with_byte}
use Rattle.std.specs.Fmt.{signed_decimal}
use Rattle.mk_record_write.proofs.fields.put_times.Given as goal

abbrev pub invariant-loop-place : goal.invariant-loop-place
invariant-loop-place l = l.out.items ≡ (l.fn.out.items ++ codes "[") ++ join_with_byte 44 (map signed_decimal (take l.place l.times))
