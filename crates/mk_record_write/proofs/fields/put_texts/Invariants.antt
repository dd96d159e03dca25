-- proofs/fields/put_texts/Invariants.antt
use Rattle.std.proofs.Common.{◌≡◌, ◌++◌, true, map, take, codes}
use Rattle.std.specs.List.{join_with_byte, list_all}
use Rattle.std.specs.Str.{is_utf8}
use Rattle.mk_base.specs.Texts.{quoted}
use Rattle.mk_record_write.proofs.fields.put_texts.Given as goal

abbrev pub invariant-loop-place : goal.invariant-loop-place
invariant-loop-place l = record {
  written : l.out.items ≡ (l.fn.out.items ++ codes "[") ++ join_with_byte 44 (map quoted (take l.place l.texts));
  utf8 : list_all is_utf8 (take l.place l.texts) ≡ true;
}
