-- For proofs alone. The trees of related entities, as they are made.
use Rattle.std.specs.Prelude.{ℕ, Bool, ◌&&◌, nat_le, List, [], ◌∷◌, Option, Some, None, fold, map, codes}
use Rattle.std.specs.BTreeMap.{insert_entry}
use Rattle.mk_base.specs.declared.json.Json as tree
use Rattle.mk_base.specs.Lists.{text_order}
use Rattle.mk_base.specs.Texts.{text_of}
use Rattle.mk_base.specs.Trees.{text_in, is_whole, is_in_range, nesting}
use Rattle.mk_plan.specs.declared.Plan.{Plan}
use Rattle.mk_plan.specs.Plans.{full_id}
use Rattle.mk_plan.specs.Asks.{model_name, related_to}
use Rattle.mk_async.specs.inner.Known.{Members}

-- members that are put in one after another
abbrev pub gathered_by : {A : Type 0} → (A → List ℕ) → (A → tree.Json) → Members → List A → Members
gathered_by {A} key value done xs = fold
    (λ (ms : Members) (x : A). insert_entry text_order ms (key x) (value x)) done xs

-- an entity's description
abbrev pub type_tree : Plan → ℕ → tree.Json
type_tree P e = tree.Object ((codes "type", tree.Text (model_name P e)) ∷ [])

-- the descriptions of these entities, under their full ids
abbrev pub described : Plan → List ℕ → Members
described P es = gathered_by (full_id P) (type_tree P) [] es

-- the entities that are related to the one that is named
abbrev pub related_tree : Plan → List ℕ → tree.Json
related_tree P id = tree.Object (described P (related_to P id))

abbrev pub put_text : Plan → Members → Option (List ℕ) → Members
put_text P ms None = ms
put_text P ms (Some id) = insert_entry text_order ms id (related_tree P id)

abbrev pub put_read : Plan → Members → tree.Json → Members
put_read P ms t = put_text P ms (text_in t)

-- those of each text
abbrev pub each_read : Plan → List tree.Json → Members
each_read P ts = fold (put_read P) [] ts

abbrev pub each_text : Plan → List tree.Json → List ℕ
each_text P ts = text_of (tree.Object (each_read P ts))

-- a tree of whole numbers in range that nests at most this deep
abbrev pub fits : ℕ → tree.Json → Bool
fits d t = is_whole t && (nat_le (nesting t) d && is_in_range t)

-- the members' texts
abbrev pub texts : Members → List (List ℕ × List ℕ)
texts ms = map (λ (m : List ℕ × tree.Json). let p : List ℕ × List ℕ = (m.0, text_of m.1) in p) ms
