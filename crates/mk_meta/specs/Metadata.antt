-- The metadata that a reply to `init` has, or the first test that it fails.
use Rattle.std.specs.Prelude.{◌≡◌, IsTrue, ℕ, Bool, true, false, ◌==◌, not, codes, nat_le, ◌≤◌, List, [], map, length, Option, Some, None, option_and_then, unwrap_or, Result, Ok, Err, if◌then◌else◌}
use Rattle.std.specs.List.{find, before_first}
use Rattle.std.specs.List.Sorted.{IsStrictlySortedBy}
use Rattle.mk_base.specs.declared.SimKind.{SimKind}
use Rattle.mk_base.specs.declared.SimKind.TheVariants.{TimeBased, EventBased, Hybrid}
use Rattle.mk_base.specs.declared.json.Json.{Json}
use Rattle.mk_base.specs.Lists.{same_text, text_order, Each, is_among}
use Rattle.mk_base.specs.Trees.{bool_in, text_in, members_in, is_object, member, texts_in}
use Rattle.mk_base.specs.Names.{kind_named}
use Rattle.mk_base.specs.Verdicts.{held, no_text, all_well, after_found}
use Rattle.mk_meta.specs.declared.meta.ModelMeta.{ModelMeta}
use Rattle.mk_meta.specs.declared.meta.Meta.{Meta}
use Rattle.mk_meta.specs.declared.fault.MetaFault.{MetaFault}
use Rattle.mk_meta.specs.declared.fault.MetaFault.TheVariants.{NoVersion, Version, BadType, NoModels, Model, TriggerUnknown}
use Rattle.mk_base.specs.Limits.{most_models}

-- what is read of a member, or what stands for it where it is missing
abbrev pub unless_missing : {A : Type 0} → A → (Json → Option A) → Option Json → Option A
unless_missing instead read None = Some instead
unless_missing instead read (Some tree) = read tree

-- the version's text
abbrev pub version_in : Json → Option (List ℕ)
version_in reply = option_and_then text_in (member (codes "api_version") reply)

-- what stands before the version's first dot, or all of it, is 3
abbrev pub is_version_three : List ℕ → Bool
is_version_three version = same_text (before_first (λ b. b == 46) version) (codes "3")

-- the type of the simulator, time-based where the member is missing; none where it is no word for one
abbrev pub kind_in : Json → Option SimKind
kind_in reply = unless_missing TimeBased (λ tree. option_and_then kind_named (text_in tree))
    (member (codes "type") reply)

-- the type as it is written, or the empty text where it is no text
abbrev pub type_text : Json → List ℕ
type_text reply = unwrap_or (option_and_then text_in (member (codes "type") reply)) []

-- members that are few enough to be models
abbrev pub few_enough : List (List ℕ × Json) → Option (List (List ℕ × Json))
few_enough members = if nat_le (length members) most_models then Some members else None

-- the simulator's models, each a name and a description
abbrev pub models_in : Json → Option (List (List ℕ × Json))
models_in reply = option_and_then (λ tree. option_and_then few_enough (members_in tree))
    (member (codes "models") reply)

-- only hybrid simulators say which attributes trigger and which aren't persistent
abbrev pub is_hybrid : SimKind → Bool
is_hybrid TimeBased = false
is_hybrid EventBased = false
is_hybrid Hybrid = true

-- the list of texts under this name, empty where it is missing or the simulator isn't hybrid
abbrev pub hybrid_texts : SimKind → List ℕ → Json → Option (List (List ℕ))
hybrid_texts kind name tree = if is_hybrid kind then unless_missing [] texts_in (member name tree)
    else Some []

-- the first of the texts that isn't an attribute
abbrev pub first_unknown : List (List ℕ) → List (List ℕ) → Option (List ℕ)
first_unknown attrs texts = find (λ t. not (is_among attrs t)) texts

-- the last tests of a model: what triggers is an attribute, unless any input is taken, and what
-- isn't persistent is one
abbrev pub with_known : ModelMeta → Result ModelMeta MetaFault
with_known model =
    no_text (TriggerUnknown model.name) (if model.any_inputs then None
    else first_unknown model.attrs model.trigger) (
    no_text (TriggerUnknown model.name) (first_unknown model.attrs model.events) (
    Ok model))

-- the tests of a model's description: it is an object; `public`, `params`, `attrs`, `any_inputs`,
-- `trigger` and `non-persistent` are what they must be; each attribute named is one
abbrev pub model_in : SimKind → List ℕ × Json → Result ModelMeta MetaFault
model_in kind m =
    held (Model m.0 []) (is_object m.1) (
    after_found (Model m.0 (codes "public")) (option_and_then bool_in (member (codes "public") m.1))
    (λ public.
    after_found (Model m.0 (codes "params"))
    (option_and_then texts_in (member (codes "params") m.1))
    (λ params.
    after_found (Model m.0 (codes "attrs")) (option_and_then texts_in (member (codes "attrs") m.1))
    (λ attrs.
    after_found (Model m.0 (codes "any_inputs"))
    (unless_missing false bool_in (member (codes "any_inputs") m.1)) (λ any.
    after_found (Model m.0 (codes "trigger")) (hybrid_texts kind (codes "trigger") m.1) (λ trigger.
    after_found (Model m.0 (codes "non-persistent"))
    (hybrid_texts kind (codes "non-persistent") m.1)
    (λ events.
    with_known (record {
      name = m.0;
      public = public;
      params = params;
      attrs = attrs;
      any_inputs = any;
      trigger = trigger;
      events = events;
    }))))))))

-- the metadata of these models
abbrev pub with_models : SimKind → Result (List ModelMeta) MetaFault → Result Meta MetaFault
with_models kind (Ok models) = Ok (record { kind = kind; models = models })
with_models kind (Err fault) = Err fault

-- the models are few enough, distinct and in byte order
abbrev pub IsListed : List ModelMeta → Type 0
IsListed models = (length models ≤ most_models)
    × IsStrictlySortedBy text_order (map (λ (m : ModelMeta). m.name) models)

-- only a hybrid simulator's model names attributes that trigger or aren't persistent, and it has
-- those that it names, but for what triggers where any input is taken
pub record HasKnownAttrs (kind : SimKind) (model : ModelMeta) : Type 0 where
  pub trigger : is_hybrid kind ≡ false → model.trigger ≡ []
  pub events : is_hybrid kind ≡ false → model.events ≡ []
  pub triggers_known : model.any_inputs ≡ false
      → Each (λ t. IsTrue (is_among model.attrs t)) model.trigger
  pub events_known : Each (λ t. IsTrue (is_among model.attrs t)) model.events

-- the tests of a reply: a version that is 3, a type, models, and each model in byte order
abbrev pub meta_in : Json → Result Meta MetaFault
meta_in reply =
    after_found NoVersion (version_in reply) (λ version.
    held (Version version) (is_version_three version) (
    after_found (BadType (type_text reply)) (kind_in reply) (λ kind.
    after_found NoModels (models_in reply) (λ models.
    with_models kind (all_well (map (model_in kind) models))))))
