-- The index of a journal: where each simulator's entries stand.
use Rattle.std.specs.Prelude.{◌≡◌, ℕ, suc, List, [], ◌∷◌, length, filter, Some, slice_get, if◌then◌else◌}
use Rattle.mk_base.specs.Lists.{BeginsWith}
use Rattle.mk_plan.specs.declared.Entry.{Entry}
use Rattle.mk_resume_walk.specs.Walks.{is_of}

-- the places of simulator i's entries, where the first of all entries stands at `first`
abbrev pub places_from : ℕ → ℕ → List Entry → List ℕ
places_from i first [] = []
places_from i first (e ∷ J) = if is_of i e then first ∷ places_from i (suc first) J
    else places_from i (suc first) J

-- how many of the entries are simulator i's
abbrev pub own_count : ℕ → List Entry → ℕ
own_count i J = length (filter (is_of i) J)

-- an index: of each simulator the places of its entries, and how many entries there are
pub record Indexed : Type 0 where
  pub own : List (List ℕ)
  pub count : ℕ

-- the index is one of this journal: it has as many entries, and of each simulator that it has a list
-- for the places of its entries
pub record IsIndexOf (J : List Entry) (index : Indexed) : Type 0 where
  pub count : index.count ≡ length J
  pub own : (i : ℕ) (places : List ℕ) → slice_get index.own i ≡ Some places
      → places ≡ places_from i 0 J

-- the index is one of a beginning of K that goes on from J
pub record IsIndexOfPart (J K : List Entry) (index : Indexed) : Type 0 where
  pub part : List Entry
  pub begins : BeginsWith K part
  pub goes_on : BeginsWith part J
  pub is : IsIndexOf part index
