-- The invariants and measures of the loops of `meta::models_from`.
use Rattle.std.proofs.Common.{◌≡◌, Ok, map, take}
use Rattle.mk_base.specs.Verdicts.{all_well}
use Rattle.mk_meta.proofs.Names.{name_of, described_as}
use Rattle.mk_meta.specs.Metadata.{model_in}
use Rattle.mk_meta.proofs.meta.models_from.Given as goal

abbrev pub invariant-loop-name : goal.invariant-loop-name
invariant-loop-name l = record {
  told : all_well (map (model_in l.kind) (take l.name-index l.entries)) ≡ Ok l.models;
  named : map name_of l.models ≡ map described_as (take l.name-index l.entries);
}
