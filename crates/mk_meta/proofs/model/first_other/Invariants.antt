-- No text before the one that is looked at was unknown.
use Rattle.std.proofs.Common.{◌≡◌, drop}
use Rattle.mk_meta.specs.Metadata.{first_unknown}
use Rattle.mk_meta.proofs.model.first_other.Given as goal

abbrev pub invariant-loop-text : goal.invariant-loop-text
invariant-loop-text l = first_unknown l.attrs (drop l.text-index l.texts) ≡ first_unknown l.attrs l.texts
