-- The invariants and measures of the loops of `index::Index::new`.
use Rattle.std.proofs.Common.{◌≡◌, ℕ, ◌-◌, ◌≤◌, List, [], length, map, Some, slice_get}
use Rattle.mk_resume_walk.proofs.index.Index.new.Given as goal

abbrev pub invariant-loop-alloc : goal.invariant-loop-alloc
invariant-loop-alloc l = record {
  few : length l.own.items ≤ l.sims;
  empty : (i : ℕ) (places : List ℕ) → slice_get (map (λ v. v.items) l.own.items) i ≡ Some places → places ≡ [];
}

abbrev pub decreases-loop-alloc : goal.decreases-loop-alloc
decreases-loop-alloc l = l.sims - length l.own.items
