-- For proofs alone. The tree of minima, and the Steps that stand at its leaves.
use Rattle.std.specs.Prelude.{◌≡◌, ℕ, ◌+◌, ◌*◌, ◌<◌, ◌≤◌, List, length, Option, Some, None, slice_get, slice_index_or}
use Rattle.mk_pace_held.specs.declared.held.First.{First}
use Rattle.mk_pace_held.specs.declared.held.Held.{Held}
use Rattle.mk_pace_held.specs.Firsts.{IsNoLater, earlier_of, first_at}

-- what stands at a node
abbrev pub node_at : List (Option First) → ℕ → Option First
node_at nodes i = slice_index_or nodes i None

-- a node is the earlier of its two children
abbrev pub IsRight : List (Option First) → ℕ → Type 0
IsRight nodes i = node_at nodes i ≡ earlier_of (node_at nodes (2 * i)) (node_at nodes (2 * i + 1))

-- the nodes are those of a tree with so many leaves, and each inner node but maybe one is right
pub record IsTreeBut (except leaves : ℕ) (nodes : List (Option First)) : Type 0 where
  pub count : length nodes ≡ 2 * leaves
  pub right : (i : ℕ) → 1 ≤ i → i < leaves → (i ≡ except → ⊥) → IsRight nodes i

-- each inner node is right, since none has the number 0
abbrev pub IsTree : ℕ → List (Option First) → Type 0
IsTree leaves nodes = IsTreeBut 0 leaves nodes

-- it stands at a leaf, and none at the leaves is to be sent before it
pub record IsLeast (best : Option First) (leaves : List (Option First)) : Type 0 where
  pub some : (f : First) → best ≡ Some f → (k : ℕ) × (slice_get leaves k ≡ Some (Some f))
  pub least : (k : ℕ) (g : First) → slice_get leaves k ≡ Some (Some g)
      → (f : First) × (best ≡ Some f) × IsNoLater f g

-- at the leaf of each simulator stands the Step that its items begin with, if they do
pub record AreFirsts (leaves : List (Option First)) (lists : List (List Held)) : Type 0 where
  pub count : length leaves ≡ length lists
  pub each : (i : ℕ) (q : List Held) → slice_get lists i ≡ Some q
      → slice_get leaves i ≡ Some (first_at (record { 0 = i }) q)
