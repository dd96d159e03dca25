-- The tree of minima: it stays right while a leaf is set, and its root is the least at the leaves.
use Rattle.std.proofs.Common.{◌≡◌, ◌⊎◌, inl, inr, ℕ, zero, suc, ◌+◌, ◌-◌, ◌*◌, ◌/◌, ◌<◌, ◌≤◌, List, length, drop, replicate, Option, Some, None, slice_set, sym, ap, ◌∙◌, subst, arith}
use Rattle.std.proofs.lemmas.List.{drop-set-lt, drop-set-add, drop-replicate, get_or-drop, get_or-set_same, get_or-set_other, length-drop}
use Rattle.std.proofs.lemmas.Option.{get_or_from_slice_get, slice_get-get_or, slice_get_within}
use Rattle.mk_base.proofs.Counts.{same_or_not}
use Rattle.mk_base.proofs.Lists.{length_set}
use Rattle.mk_pace_held.specs.declared.held.First.{First}
use Rattle.mk_pace_held.specs.Firsts.{IsNoLater, earlier_of}
use Rattle.mk_pace_held.specs.inner.Minima.{IsLeast, IsRight, IsTree, IsTreeBut, node_at}
use Rattle.mk_pace_held.proofs.Choosing.{IsEarlier, earlier_is, no_later_on, no_later_self}

-- a leaf was set, and of what is above it only the parent of this node may be wrong
pub record IsRising (at leaf leaves : ℕ) (first : Option First) (old nodes : List (Option First)) : Type 0 where
  pub low : 1 ≤ at
  pub high : at < 2 * leaves
  pub right : IsTreeBut (at / 2) leaves nodes
  pub is : drop leaves nodes ≡ slice_set old leaf first

-- a node is right still after another was set that is no child of it
right_kept : (nodes : List (Option First)) (at i : ℕ) (x : Option First) → IsRight nodes i → (i ≡ at → ⊥) → (2 * i ≡ at → ⊥) → (2 * i + 1 ≡ at → ⊥) → IsRight (slice_set nodes at x) i
right_kept nodes at i x right here left other =
    get_or-set_other nodes at i x None here ∙ right ∙ sym (λ t. earlier_of (get_or-set_other nodes at (2 * i) x None left t) (get_or-set_other nodes at (2 * i + 1) x None other t))

-- a node is right once it was set to the earlier of its children
right_made : (nodes : List (Option First)) (i : ℕ) (x : Option First) → i < length nodes → 1 ≤ i → x ≡ earlier_of (node_at nodes (2 * i)) (node_at nodes (2 * i + 1)) → IsRight (slice_set nodes i x) i
right_made nodes i x below low is =
    get_or-set_same nodes i x None below ∙ is ∙ sym (λ t. earlier_of (get_or-set_other nodes i (2 * i) x None (λ e. omega (arith, e, low)) t) (get_or-set_other nodes i (2 * i + 1) x None (λ e. omega (arith, e, low)) t))

pub rising_begins : (nodes : List (Option First)) (leaf leaves : ℕ) (first : Option First) → IsTree leaves nodes → leaf < leaves → IsRising (leaves + leaf) leaf leaves first (drop leaves nodes) (slice_set nodes (leaves + leaf) first)
rising_begins nodes leaf leaves first tree below = record {
  low = omega arith;
  high = omega arith;
  right = record {
    count = length_set nodes (leaves + leaf) first ∙ tree.count;
    right = λ i low high apart. right_kept nodes (leaves + leaf) i first (tree.right i low high (λ e. omega (arith, e, low))) (λ e. omega (arith, e, high)) (λ e. apart (omega (arith, e))) (λ e. apart (omega (arith, e)));
  };
  is = drop-set-add leaves nodes leaf first;
}

pub rising_goes_on : (nodes : List (Option First)) (at leaf leaves : ℕ) (x first : Option First) (old : List (Option First)) → IsRising at leaf leaves first old nodes → 1 < at → x ≡ earlier_of (node_at nodes (2 * (at / 2))) (node_at nodes (2 * (at / 2) + 1)) → IsRising (at / 2) leaf leaves first old (slice_set nodes (at / 2) x)
rising_goes_on nodes at leaf leaves x first old rising more is = record {
  low = omega arith;
  high = omega (arith, rising.high);
  right = record {
    count = length_set nodes (at / 2) x ∙ rising.right.count;
    right = λ i low high apart. elim (same_or_not i (at / 2)) [
      | inl same ↦ subst (IsRight (slice_set nodes (at / 2) x)) (sym same) (right_made nodes (at / 2) x (omega (arith, rising.high, rising.right.count)) (omega arith) is)
      | inr other ↦ right_kept nodes (at / 2) i x (rising.right.right i low high other) other (λ e. apart (omega (arith, e))) (λ e. apart (omega (arith, e)))
    ];
  };
  is = drop-set-lt leaves nodes (at / 2) x (omega (arith, rising.high)) ∙ rising.is;
}

-- at the leaves of a new tree nothing stands
pub none_leaves : (leaves : ℕ) → drop leaves (replicate {A = Option First} (2 * leaves) None) ≡ replicate leaves None
none_leaves leaves = drop-replicate leaves (2 * leaves) None ∙ ap (λ (n : ℕ). replicate {A = Option First} n None) (omega arith)

module _ (nodes : List (Option First)) (leaves : ℕ) (tree : IsTree leaves nodes) where
  right_at : (i : ℕ) → 1 ≤ i → i < leaves → IsRight nodes i
  right_at i low high = tree.right i low high (λ e. omega (arith, e, low))

  -- no node is to be sent before its parent
  parent : (i : ℕ) (g : First) → 1 < i → i < 2 * leaves → node_at nodes i ≡ Some g → (r : First) × (node_at nodes (i / 2) ≡ Some r) × IsNoLater r g
  parent i g more below is = elim side [
    | inl left ↦
        let r = earlier.before_best g (ap (node_at nodes) (sym left) ∙ is) in (r.0, right ∙ r.1, r.2)
    | inr other ↦
        let r = earlier.before_next g (ap (node_at nodes) (sym other) ∙ is) in (r.0, right ∙ r.1, r.2)
  ]
    where
      side : (i ≡ 2 * (i / 2)) ⊎ (i ≡ 2 * (i / 2) + 1)
      side = grind arith

      right : IsRight nodes (i / 2)
      right = right_at (i / 2) (omega arith) (omega arith)

      earlier : IsEarlier (node_at nodes (2 * (i / 2))) (node_at nodes (2 * (i / 2) + 1)) (earlier_of (node_at nodes (2 * (i / 2))) (node_at nodes (2 * (i / 2) + 1)))
      earlier = earlier_is (node_at nodes (2 * (i / 2))) (node_at nodes (2 * (i / 2) + 1))

  -- no node is to be sent before the root
  above : (steps i : ℕ) (g : First) → i ≤ steps → 1 ≤ i → i < 2 * leaves → node_at nodes i ≡ Some g → (r : First) × (node_at nodes 1 ≡ Some r) × IsNoLater r g
  above zero i g few low below is = absurd (omega (arith, few, low))
  above (suc steps) i g few low below is = elim first [
    | inl one ↦ (g, ap (node_at nodes) (sym one) ∙ is, no_later_self g)
    | inr more ↦
        let p = parent i g more below is in
        let r = above steps (i / 2) p.0 (omega (arith, few, more)) (omega (arith, more)) (omega (arith, below)) p.1 in
        (r.0, r.1, no_later_on r.0 p.0 g r.2 p.2)
  ]
    where
      first : (i ≡ 1) ⊎ (1 < i)
      first = grind arith

  -- what stands at an inner node stands at a child of it
  child : (i : ℕ) (f : First) → 1 ≤ i → i < leaves → node_at nodes i ≡ Some f → (c : ℕ) × (i < c) × (c < 2 * leaves) × (node_at nodes c ≡ Some f)
  child i f low high is = elim (earlier_is (node_at nodes (2 * i)) (node_at nodes (2 * i + 1))).one [
    | inl left ↦ (2 * i, omega (arith, low), omega (arith, high), sym left ∙ sym right ∙ is)
    | inr other ↦ (2 * i + 1, omega (arith, low), omega (arith, high), sym other ∙ sym right ∙ is)
  ]
    where
      right : IsRight nodes i
      right = right_at i low high

  -- what stands at a node stands at a leaf
  beneath : (steps i : ℕ) (f : First) → 2 * leaves ≤ i + steps → 1 ≤ i → i < 2 * leaves → node_at nodes i ≡ Some f → (k : ℕ) × (k < leaves) × (node_at nodes (leaves + k) ≡ Some f)
  beneath zero i f far low below is = absurd (omega (arith, far, below))
  beneath (suc steps) i f far low below is = elim inner [
    | inl leaf ↦ (i - leaves, omega (arith, leaf, below), ap (node_at nodes) (omega (arith, leaf)) ∙ is)
    | inr high ↦
        let c = child i f low high is in
        beneath steps c.0 f (omega (arith, far, c.1)) (omega (arith, low, c.1)) c.2 c.3
  ]
    where
      inner : (leaves ≤ i) ⊎ (i < leaves)
      inner = grind arith

  pub leaf_count : length (drop leaves nodes) ≡ leaves
  leaf_count = omega (arith, length-drop leaves nodes, tree.count)

  -- the root is the least at the leaves
  pub root_is_least : (root : Option First) → 1 ≤ leaves → root ≡ node_at nodes 1 → IsLeast root (drop leaves nodes)
  root_is_least root some is = record {
    some = λ f e.
        let k = beneath (2 * leaves) 1 f (omega arith) (omega arith) (omega (arith, some)) (sym is ∙ e) in
        (k.0, slice_get-get_or (drop leaves nodes) k.0 None (omega (arith, leaf_count, k.1)) ∙ ap Some (get_or-drop leaves nodes k.0 None ∙ k.2));
    least = λ k g there.
        let below : k < length (drop leaves nodes) = slice_get_within (drop leaves nodes) k (Some g) there in
        let node : node_at nodes (leaves + k) ≡ Some g = sym (get_or-drop leaves nodes k None) ∙ get_or_from_slice_get (drop leaves nodes) k (Some g) None there in
        let r = above (2 * leaves) (leaves + k) g (omega (arith, below, leaf_count)) (omega (arith, some)) (omega (arith, below, leaf_count)) node in
        (r.0, is ∙ r.1, r.2);
  }
