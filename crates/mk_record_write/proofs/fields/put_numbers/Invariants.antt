-- proofs/fields/put_numbers/Invariants.antt
use Rattle.std.proofs.Common.{◌≡◌, ◌++◌, map, take, codes}
use Rattle.std.specs.List.{join_with_byte}
use Rattle.std.specs.Fmt.{decimal}
use Rattle.mk_record_write.proofs.fields.put_numbers.Given as goal

abbrev pub invariant-loop-place : goal.invariant-loop-place
invariant-loop-place l = l.out.items ≡ (l.fn.out.items ++ codes "[") ++ join_with_byte 44 (map decimal (take l.place l.numbers))
