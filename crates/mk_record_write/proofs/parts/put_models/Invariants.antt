-- proofs/parts/put_models/Invariants.antt
use Rattle.std.proofs.Common.{◌≡◌, ◌++◌, true, flat_map, take}
use Rattle.std.specs.List.{list_all}
use Rattle.mk_record_read.specs.Texts.{model_line}
use Rattle.mk_record_laws.specs.Again.{model_is_text}
use Rattle.mk_record_write.proofs.parts.put_models.Given as goal

abbrev pub invariant-loop-model : goal.invariant-loop-model
invariant-loop-model l = record {
  written : l.out.items ≡ l.fn.out.items ++ flat_map model_line (take l.model-index l.models);
  utf8 : list_all model_is_text (take l.model-index l.models) ≡ true;
}
