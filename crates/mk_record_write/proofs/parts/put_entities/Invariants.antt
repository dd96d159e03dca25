-- proofs/parts/put_entities/Invariants.antt
use Rattle.std.proofs.Common.{◌≡◌, ◌++◌, true, flat_map, take}
use Rattle.std.specs.List.{list_all}
use Rattle.std.specs.Str.{is_utf8}
use Rattle.mk_record_read.specs.Texts.{entity_line}
use Rattle.mk_record_write.proofs.parts.put_entities.Given as goal

abbrev pub invariant-loop-entity : goal.invariant-loop-entity
invariant-loop-entity l = record {
  written : l.out.items ≡ l.fn.out.items ++ flat_map entity_line (take l.entity-index l.entities);
  utf8 : list_all (λ e. is_utf8 e.eid) (take l.entity-index l.entities) ≡ true;
}
