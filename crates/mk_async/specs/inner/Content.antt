-- For proofs alone. The content of an answer with values, as it is written.
use Rattle.std.specs.Prelude.{◌≡◌, ℕ, List, [], ◌++◌, Option, Some, None, fold, map, codes}
use Rattle.std.specs.BTreeMap.{insert_entry}
use Rattle.std.specs.List.Sorted.{IsStrictlySortedBy}
use Rattle.std.specs.Map.{keys_of}
use Rattle.std.specs.Str.{IsUtf8}
use Rattle.mk_base.specs.declared.json.Json.{Json}
use Rattle.mk_base.specs.Data.{IsDatumText, IsValueText}
use Rattle.mk_base.specs.Lists.{Each, text_order}
use Rattle.mk_base.specs.Texts.{quoted, object_text}
use Rattle.mk_base.specs.Trees.{text_in, items_in}
use Rattle.mk_plan.specs.declared.Plan.{Plan}
use Rattle.mk_plan.specs.Asks.{Lookup, entity_of}
use Rattle.mk_async.specs.inner.Known.{Members}

-- names with texts
abbrev pub Texts : Type 0
Texts = List (List ℕ × List ℕ)

-- a value that is there is put in under its attribute
abbrev pub put_value : Texts → List ℕ → Option (List ℕ) → Texts
put_value done attr None = done
put_value done attr (Some value) = insert_entry text_order done attr value

-- the value of an attribute that is named
abbrev pub put_named : Lookup → ℕ → Texts → Option (List ℕ) → Texts
put_named look e done None = done
put_named look e done (Some attr) = put_value done attr (look e attr)

abbrev pub put_attr : Lookup → ℕ → Texts → Json → Texts
put_attr look e done tree = put_named look e done (text_in tree)

-- the values of these attributes of an entity
abbrev pub values_by : Lookup → ℕ → List Json → Texts
values_by look e trees = fold (put_attr look e) [] trees

abbrev pub listed : Lookup → ℕ → Option (List Json) → Texts
listed look e None = []
listed look e (Some trees) = values_by look e trees

abbrev pub values_in : Lookup → Option ℕ → Option (List Json) → Texts
values_in look None trees = []
values_in look (Some e) trees = listed look e trees

-- what is wanted of the entity of a full id
abbrev pub values_of : Plan → Lookup → List ℕ → Json → Texts
values_of P look id tree = values_in look (entity_of P id) (items_in tree)

-- a member, by its name and its text
abbrev pub member_text : List ℕ → List ℕ → List ℕ
member_text name text = quoted name ++ codes ":" ++ text

abbrev pub want_text : Plan → Lookup → List ℕ × Json → List ℕ
want_text P look m = member_text m.0 (object_text (values_of P look m.0 m.1))

-- the content
abbrev pub wants_text : Plan → Lookup → Members → List ℕ
wants_text P look ms = object_text (map (λ (m : List ℕ × Json). let p : List ℕ
    × List ℕ = (m.0, object_text (values_of P look m.0 m.1)) in p) ms)

-- each value that is found is the text of a value
abbrev pub FindsValues : Lookup → Type 0
FindsValues look = (e : ℕ) (attr value : List ℕ) → look e attr ≡ Some value → IsValueText value

-- a name with the text of a value as the program keeps it
abbrev pub IsNamed : List ℕ → List ℕ → Type 0
IsNamed name text = IsUtf8 name × IsDatumText text

abbrev pub AreNamed : Texts → Type 0
AreNamed ms = Each (λ (m : List ℕ × List ℕ). IsNamed m.0 m.1) ms

-- such values, whose names rise
abbrev pub AreRising : Texts → Type 0
AreRising ms = IsStrictlySortedBy text_order (keys_of ms) × AreNamed ms

-- a full id with such values
abbrev pub IsContent : List ℕ → Texts → Type 0
IsContent id ms = IsUtf8 id × AreRising ms

abbrev pub AreContents : Plan → Lookup → Members → Type 0
AreContents P look ms = Each (λ (m : List ℕ × Json). IsContent m.0 (values_of P look m.0 m.1)) ms
