-- What a reply to `create` describes.
use Rattle.std.specs.Prelude.{ℕ, suc, zero, Bool, true, false, codes, List, [], ◌∷◌, map, filter_map, flat_map, Option, Some, None, is_some, option_and_then, unwrap_or, if◌then◌else◌}
use Rattle.mk_base.specs.declared.json.Json.{Json, Json-F, out-Json}
use Rattle.mk_base.specs.Lists.{all_there}
use Rattle.mk_base.specs.Trees.{text_in, member, nesting, items_of}
use Rattle.mk_base.specs.Names.{is_eid}
use Rattle.mk_meta.specs.Metadata.{unless_missing}
use Rattle.mk_entities.specs.declared.described.Described.{Described}

abbrev list_at : Json-F Json → Option (List Json)
list_at Json-F.Null = Some []
list_at (Json-F.List items) = Some items
list_at _ = None

-- the items of the list that the tree is, none of null
abbrev pub list_in : Json → Option (List Json)
list_in tree = list_at (out-Json tree)

-- the items of the list under this name, none where the member is missing or null
abbrev pub list_under : List ℕ → Json → Option (List Json)
list_under name tree = unless_missing [] list_in (member name tree)

-- the texts of the list under this name, none where the member is missing or null
abbrev pub texts_under : List ℕ → Json → Option (List (List ℕ))
texts_under name tree = option_and_then (λ (items : List Json). all_there (map text_in items))
    (list_under name tree)

-- what is described under `children`; nothing where it is no list
abbrev pub children_in : Json → List Json
children_in tree = unwrap_or (list_under (codes "children") tree) []

abbrev pub if_eid : List ℕ → Option (List ℕ)
if_eid text = if is_eid text then Some text else None

-- the eid of the entity that a tree describes, if it is a proper one and its children are a list
abbrev pub eid_in : Json → Option (List ℕ)
eid_in tree = if is_some (list_under (codes "children") tree)
    then option_and_then if_eid (option_and_then text_in (member (codes "eid") tree)) else None

-- the entity that a tree describes
abbrev pub described : Bool → Json → Described
described is_child tree = record {
  eid = eid_in tree;
  kind = option_and_then text_in (member (codes "type") tree);
  rel = texts_under (codes "rel") tree;
  children = filter_map eid_in (children_in tree);
  is_child = is_child;
}

-- the entities described under a tree, down to this many levels, each before its children
abbrev pub below : ℕ → Json → List Described
below zero tree = []
below (suc levels) tree = flat_map (λ child. described true child ∷ below levels child)
    (children_in tree)

-- the entity that a tree describes, and all under it
abbrev pub family : Bool → Json → List Described
family is_child tree = described is_child tree ∷ below (nesting tree) tree

-- the entities that a reply describes; a reply that is no list describes none
abbrev pub reply_entities : Json → List Described
reply_entities reply = flat_map (family false) (items_of reply)
