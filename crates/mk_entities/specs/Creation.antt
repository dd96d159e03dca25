-- The entities after a reply to `create`, or the first test that it fails.
use Rattle.std.specs.Prelude.{ℕ, ◌+◌, ◌==◌, Bool, false, not, ◌&&◌, nat_eq, nat_lt, List, [], ◌∷◌, ◌++◌, map, length, take, position, Option, Some, None, is_some, option_map, option_and_then, unwrap_or, Result, Ok, if◌then◌else◌, slice_get, filter}
use Rattle.std.specs.List.{find, list_any, range_with_len}
use Rattle.mk_base.specs.declared.SimNo.{SimNo}
use Rattle.mk_base.specs.declared.json.Json.{Json}
use Rattle.mk_base.specs.Lists.{same_text}
use Rattle.mk_base.specs.Trees.{items_of}
use Rattle.mk_base.specs.Verdicts.{unless, fault_unless}
use Rattle.mk_meta.specs.declared.meta.ModelMeta.{ModelMeta}
use Rattle.mk_meta.specs.declared.meta.Meta.{Meta}
use Rattle.mk_entities.specs.declared.described.Described.{Described}
use Rattle.mk_entities.specs.declared.entities.EntityInfo.{EntityInfo}
use Rattle.mk_entities.specs.declared.fault.CreateFault.{CreateFault}
use Rattle.mk_entities.specs.declared.fault.CreateFault.TheVariants.{Count, NoEid, TwiceEid, OfType, Related, TooMany}
use Rattle.mk_entities.specs.Descriptions.{reply_entities}
use Rattle.mk_base.specs.Limits.{most_entities}

-- the entity is the simulator's, and has this eid
abbrev pub is_named : SimNo → List ℕ → EntityInfo → Bool
is_named sim eid entity = (entity.sim.0 == sim.0) && same_text entity.eid eid

-- the number of the first entity of the simulator with this eid
abbrev pub entity_number : List EntityInfo → SimNo → List ℕ → Option ℕ
entity_number entities sim eid = position (is_named sim eid) entities

-- the first that is there
abbrev pub first_there : {X : Type 0} → List (Option X) → Option X
first_there [] = None
first_there (None ∷ xs) = first_there xs
first_there (Some x ∷ xs) = Some x

-- what follows a test that finds a text, and the fault where it finds none
abbrev pub after_text : CreateFault → Option (List ℕ) → (List ℕ → Option CreateFault)
    → Option CreateFault
after_text fault None next = Some fault
after_text fault (Some text) next = next text

-- the type of a child is some model of the simulator, that of another entity the model that was
-- created
abbrev pub is_model_of : List ℕ → Meta → Described → List ℕ → Bool
is_model_of model meta entity kind = if entity.is_child
    then list_any (λ (m : ModelMeta). same_text m.name kind) meta.models else same_text kind model

abbrev pub has_type : List ℕ → Meta → Described → Bool
has_type model meta entity = unwrap_or
    (option_map (is_model_of model meta entity) entity.kind) false

-- the first test that the n-th entity of a reply fails, where there are so many before it, with
-- these numbers: it has an eid, which is new; it is of the right type; there is room
abbrev pub entity_fault : (List ℕ → Option ℕ) → ℕ → List ℕ → Meta → ℕ → Described
    → Option CreateFault
entity_fault number count model meta n entity =
    after_text (NoEid n) entity.eid (λ eid.
    fault_unless (TwiceEid eid) (not (is_some (number eid))) (
    fault_unless (OfType eid) (has_type model meta entity) (
    fault_unless (TooMany (most_entities + 1)) (nat_lt count most_entities)
    None)))

-- the first text that a `rel` names and that is no eid; the empty text where it is no list of texts
abbrev pub unknown_related : (List ℕ → Option ℕ) → Option (List (List ℕ)) → Option (List ℕ)
unknown_related number None = Some []
unknown_related number (Some texts) = find (λ text. not (is_some (number text))) texts

-- the test of an entity's `rel`: each text of it is an eid of the simulator
abbrev pub rel_fault : (List ℕ → Option ℕ) → Described → Option CreateFault
rel_fault number entity = option_map (Related (unwrap_or entity.eid []))
    (unknown_related number entity.rel)

-- one of these texts has this number
abbrev pub has_number : (List ℕ → Option ℕ) → List (List ℕ) → ℕ → Bool
has_number number texts i = list_any
    (λ text. unwrap_or (option_map (nat_eq i) (number text)) false) texts

-- an entity as it is added, but for the related ones
abbrev pub draft : SimNo → ℕ → Described → EntityInfo
draft sim group entity = record {
  sim = sim;
  group = if entity.is_child then None else Some group;
  eid = unwrap_or entity.eid [];
  model = unwrap_or entity.kind [];
  related = [];
}

-- an entity as it is added, to so many in all: it is related to what its `rel` names and to its
-- children
abbrev pub added : (List ℕ → Option ℕ) → ℕ → SimNo → ℕ → Described → EntityInfo
added number count sim group entity = record (draft sim group entity) {
  related = filter (has_number number (unwrap_or entity.rel [] ++ entity.children))
      (range_with_len 0 count);
}

-- all entities after the reply's are added, as far as these can be told before the tests
abbrev pub drafts : List EntityInfo → SimNo → ℕ → List Described → List EntityInfo
drafts old sim group entities = old ++ map (draft sim group) entities

-- the first test that one of the reply's entities fails, each tested after those before it
abbrev pub first_entity_fault : List EntityInfo → SimNo → ℕ → List ℕ → Meta → List Described
    → Option CreateFault
first_entity_fault old sim group model meta entities =
    let before : ℕ → List EntityInfo = λ n. take (length old + n) (drafts old sim group entities) in
    first_there (map (λ n.
    option_and_then (entity_fault (entity_number (before n) sim) (length old + n) model meta n)
    (slice_get entities n)) (range_with_len 0 (length entities)))

-- the test that the reply has as many entities as were asked for, children not counted
abbrev pub count_fault : ℕ → Json → Option CreateFault
count_fault num reply = let count : ℕ = length (items_of reply) in fault_unless
    (Count num count) (count == num) None

-- these entities of a reply are added, unless one fails a test
abbrev pub with_entities : List EntityInfo → SimNo → ℕ → List ℕ → Meta → List Described
    → Result (List EntityInfo) CreateFault
with_entities old sim group model meta entities =
    let number : List ℕ → Option ℕ = entity_number (drafts old sim group entities) sim in
    unless (first_entity_fault old sim group model meta entities) (
    unless (first_there (map (rel_fault number) entities)) (
    Ok (old ++ map (added number (length old + length entities) sim group) entities)))

-- the entities after this reply: as many as were asked for, then each is tested, then each `rel`
abbrev pub entities_added : List EntityInfo → SimNo → ℕ → ℕ → List ℕ → Meta → Json
    → Result (List EntityInfo) CreateFault
entities_added old sim group num model meta reply = unless (count_fault num reply)
    (with_entities old sim group model meta (reply_entities reply))
