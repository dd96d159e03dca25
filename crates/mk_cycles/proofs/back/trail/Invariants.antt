-- The invariants and measures of the loops of `back::trail`.
use Rattle.std.proofs.Common.{◌≡◌, ◌-◌, [], ◌∷◌, ◌++◌, length}
use Rattle.mk_base.specs.Lists.{Each}
use Rattle.mk_cycles.specs.Cycles.{IsBack, IsGoneBackTo}
use Rattle.mk_cycles.specs.Edges.{IsChain}
use Rattle.mk_cycles.specs.inner.Tables.{leads}
use Rattle.mk_cycles.proofs.back.trail.Given as goal

abbrev pub decreases-going : goal.decreases-going
decreases-going l = l.table.sims - length l.path.order

abbrev pub invariant-going : goal.invariant-going
invariant-going l = record {
  count : l.path.count ≡ l.table.sims;
  here : IsGoneBackTo (leads l.table) l.table.sims l.placed.order l.sim;
  reached : Each (λ s. IsGoneBackTo (leads l.table) l.table.sims l.placed.order s) l.path.order;
  chain : IsChain (λ s p. IsBack (leads l.table) l.table.sims l.placed.order s p) (l.path.order ++ l.sim ∷ []);
}
