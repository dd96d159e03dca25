-- Worked examples: what a reply to `create` adds, and the first test that it fails.
use Rattle.std.proofs.Common.{◌≡◌, ℕ, List, [], ◌∷◌, Some, None, Ok, Err, refl, codes, true, false}
use Rattle.mk_base.specs.declared.SimNo.{SimNo}
use Rattle.mk_base.specs.declared.SimKind.TheVariants.{TimeBased}
use Rattle.mk_base.specs.declared.json.Json as j
use Rattle.mk_base.specs.declared.json.Json.{Json}
use Rattle.mk_base.proofs.OnTrees.{trees_compute}
use Rattle.mk_meta.specs.declared.meta.Meta.{Meta}
use Rattle.mk_meta.specs.declared.meta.ModelMeta.{ModelMeta}
use Rattle.mk_entities.specs.declared.entities.EntityInfo.{EntityInfo}
use Rattle.mk_entities.specs.declared.fault.CreateFault.TheVariants.{Count, NoEid, TwiceEid, OfType, Related}
use Rattle.mk_entities.specs.Creation.{entities_added, entity_number}

abbrev model : List ℕ → ModelMeta
model name = record { name = name; public = true; params = []; attrs = []; any_inputs = false; trigger = []; events = [] }

-- the metadata of a simulator with models M and N
abbrev two_models : Meta
two_models = record { kind = TimeBased; models = model (codes "M") ∷ model (codes "N") ∷ [] }

abbrev sim : ℕ → SimNo
sim n = record { 0 = n }

-- an entity as a reply describes it
abbrev entity : List ℕ → List ℕ → List Json → List Json → Json
entity eid kind rel children = j.Object ((codes "children", j.List children) ∷ (codes "eid", j.Text eid) ∷ (codes "rel", j.List rel) ∷ (codes "type", j.Text kind) ∷ [])

-- one without `rel` and `children`
abbrev plain : List ℕ → List ℕ → Json
plain eid kind = j.Object ((codes "eid", j.Text eid) ∷ (codes "type", j.Text kind) ∷ [])

-- an entity of simulator 1
abbrev other : EntityInfo
other = record { sim = sim 1; group = Some 0; eid = codes "a"; model = codes "M"; related = [] }

-- a, related to d, with the child b, which has the child c; then d
abbrev nested : Json
nested = j.List (entity (codes "a") (codes "M") (j.Text (codes "d") ∷ j.Text (codes "d") ∷ []) (entity (codes "b") (codes "N") [] (plain (codes "c") (codes "M") ∷ []) ∷ []) ∷ plain (codes "d") (codes "M") ∷ [])

abbrev nested_added : List EntityInfo
nested_added = other
    ∷ record { sim = sim 0; group = Some 7; eid = codes "a"; model = codes "M"; related = 2 ∷ 4 ∷ [] }
    ∷ record { sim = sim 0; group = None; eid = codes "b"; model = codes "N"; related = 3 ∷ [] }
    ∷ record { sim = sim 0; group = None; eid = codes "c"; model = codes "M"; related = [] }
    ∷ record { sim = sim 0; group = Some 7; eid = codes "d"; model = codes "M"; related = [] }
    ∷ []

-- each entity is followed by its children, and related to them
pub children_follow : entities_added (other ∷ []) (sim 0) 7 2 (codes "M") two_models nested ≡ Ok nested_added
unfolding trees_compute
children_follow = refl

-- an eid is looked for among its simulator's entities
pub number_by_simulator : entity_number nested_added (sim 0) (codes "a") ≡ Some 1
number_by_simulator = refl

-- one of two
pub one_of_two : entities_added [] (sim 0) 7 2 (codes "M") two_models (j.List (plain (codes "a") (codes "M") ∷ [])) ≡ Err (Count 2 1)
unfolding trees_compute
one_of_two = refl

-- the first child is of no model, before the second has no eid and `rel` names nothing
pub child_of_no_model : entities_added [] (sim 0) 7 1 (codes "M") two_models (j.List (entity (codes "a") (codes "M") (j.Text (codes "q") ∷ []) (plain (codes "b") (codes "X") ∷ plain (codes "time") (codes "M") ∷ []) ∷ [])) ≡ Err (OfType (codes "b"))
unfolding trees_compute
child_of_no_model = refl

-- the second child has no eid: of what is described it is the third
pub time_is_no_eid : entities_added [] (sim 0) 7 1 (codes "M") two_models (j.List (entity (codes "a") (codes "M") (j.Text (codes "q") ∷ []) (plain (codes "b") (codes "N") ∷ plain (codes "time") (codes "M") ∷ []) ∷ [])) ≡ Err (NoEid 2)
unfolding trees_compute
time_is_no_eid = refl

-- a child with its parent's eid
pub twice : entities_added [] (sim 0) 7 1 (codes "M") two_models (j.List (entity (codes "a") (codes "M") [] (plain (codes "a") (codes "X") ∷ []) ∷ [])) ≡ Err (TwiceEid (codes "a"))
unfolding trees_compute
twice = refl

-- another simulator's eid is no eid of this one
pub no_eid_of_this_one : entities_added (other ∷ []) (sim 0) 7 1 (codes "M") two_models (j.List (entity (codes "b") (codes "M") (j.Text (codes "b") ∷ j.Text (codes "a") ∷ []) [] ∷ [])) ≡ Err (Related (codes "b") (codes "a"))
unfolding trees_compute
no_eid_of_this_one = refl
