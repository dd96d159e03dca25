-- For proofs alone. What is made of a reply's entities, from the names of the simulator.
use Rattle.std.specs.Prelude.{ℕ, suc, ◌+◌, List, [], ◌∷◌, ◌++◌, map, fold, length, take, slice_get, Option, Some, None, unwrap_or, option_and_then, filter_map, Result, Ok, Err}
use Rattle.std.specs.List.{range_with_len}
use Rattle.std.specs.Ordering.{nat_cmp}
use Rattle.std.specs.BTreeSet.{insert_key}
use Rattle.mk_base.specs.declared.SimNo.{SimNo}
use Rattle.mk_base.specs.Lists.{value_under}
use Rattle.mk_meta.specs.declared.meta.Meta.{Meta}
use Rattle.mk_entities.specs.declared.described.Described.{Described}
use Rattle.mk_entities.specs.declared.entities.EntityInfo.{EntityInfo}
use Rattle.mk_entities.specs.declared.fault.CreateFault.{CreateFault}
use Rattle.mk_entities.specs.Creation.{draft, entity_fault, first_there}

-- the number that these names give a text
abbrev pub number_in : List (List ℕ × ℕ) → List ℕ → Option ℕ
number_in names text = value_under text names

-- the numbers with more of them, each at its place
abbrev pub with_numbers : List ℕ → List ℕ → List ℕ
with_numbers numbers more = fold (insert_key nat_cmp) numbers more

abbrev pub related_by : (List ℕ → Option ℕ) → Described → List ℕ
related_by number entity = with_numbers []
    (filter_map number (unwrap_or entity.rel [] ++ entity.children))

abbrev pub made_by : (List ℕ → Option ℕ) → SimNo → ℕ → Described → EntityInfo
made_by number sim group entity = record
    (draft sim group entity) { related = related_by number entity }

-- the eids of a reply's entities, numbered from n
abbrev pub named_from : ℕ → List Described → List (List ℕ × ℕ)
named_from n [] = []
named_from n (e ∷ es) = (unwrap_or e.eid [], n) ∷ named_from (suc n) es

-- the first test that the reply's n-th entity fails, where the simulator had these names
abbrev pub fault_at : List (List ℕ × ℕ) → ℕ → List ℕ → Meta → List Described → ℕ
    → Option CreateFault
fault_at names count model meta entities n = option_and_then
    (entity_fault (number_in (names ++ named_from count (take n entities)))
    (count + n) model meta n) (slice_get entities n)

abbrev pub first_fault : List (List ℕ × ℕ) → ℕ → List ℕ → Meta → List Described → Option CreateFault
first_fault names count model meta entities = first_there
    (map (fault_at names count model meta entities) (range_with_len 0 (length entities)))

-- the entities, or the fault
abbrev pub outcome : List EntityInfo → Option CreateFault → Result (List EntityInfo) CreateFault
outcome entities None = Ok entities
outcome entities (Some fault) = Err fault
