-- For proofs alone. What a model names that isn't one of its attributes.
use Rattle.std.specs.Prelude.{ℕ, List, Option, None, if◌then◌else◌}
use Rattle.std.specs.Option.{option_or}
use Rattle.mk_meta.specs.declared.meta.ModelMeta.{ModelMeta}
use Rattle.mk_meta.specs.Metadata.{first_unknown}

-- the first of what triggers, unless any input is taken, and then of what isn't persistent
abbrev pub named_unknown : ModelMeta → Option (List ℕ)
named_unknown model = option_or (if model.any_inputs then None
    else first_unknown model.attrs model.trigger) (first_unknown model.attrs model.events)
