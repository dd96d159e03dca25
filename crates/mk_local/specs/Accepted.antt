-- What is read of each kind's metadata.
use Rattle.std.specs.Prelude.{◌≡◌, ℕ, true, false, List, [], ◌∷◌, option_to_list, Ok}
use Rattle.mk_base.specs.declared.SimKind.{SimKind}
use Rattle.mk_base.specs.declared.SimKind.TheVariants.{TimeBased, EventBased, Hybrid}
use Rattle.mk_meta.specs.declared.meta.ModelMeta.{ModelMeta}
use Rattle.mk_meta.specs.declared.meta.Meta.{Meta}
use Rattle.mk_meta.specs.Metadata.{meta_in}
use Rattle.mk_local.specs.declared.turn.Turn.{Turn}
use Rattle.mk_local.specs.Kinds.{type_of, model_of, setting_of, input_of, output_of, attrs_of}
use Rattle.mk_local.specs.Metadata.{metadata}

-- attributes that only a hybrid simulator names
abbrev pub if_hybrid : SimKind → List (List ℕ) → List (List ℕ)
if_hybrid TimeBased attrs = []
if_hybrid EventBased attrs = []
if_hybrid Hybrid attrs = attrs

-- the model of a kind, which may be created, has one parameter, and takes no inputs but its own; in
-- a hybrid simulator its input triggers and its output is an event
abbrev pub model_meta_of : Turn → ModelMeta
model_meta_of T = record {
  name = model_of T;
  public = true;
  params = setting_of T ∷ [];
  attrs = attrs_of T;
  any_inputs = false;
  trigger = if_hybrid (type_of T) (option_to_list (input_of T));
  events = if_hybrid (type_of T) (output_of T ∷ []);
}

-- the kind's type, and its one model
abbrev pub meta_of : Turn → Meta
meta_of T = record { kind = type_of T; models = model_meta_of T ∷ [] }

-- each kind's metadata passes the tests of a reply to `init`, and says its type and its model
abbrev pub IsMetadataAccepted : Type 0
IsMetadataAccepted = (T : Turn) → meta_in (metadata T) ≡ Ok (meta_of T)
