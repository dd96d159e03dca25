-- Labels of walks that don't touch a simulator, where no other one has a start.
use Rattle.std.proofs.Common.{◌≡◌, ℕ, zero, suc, ◌<◌, ◌≤◌, List, [], ◌∷◌, length, slice_index, ap, ◌∙◌, refl, arith, inl}
use Rattle.mk_base.specs.Lists.{IsIn}
use Rattle.mk_tiers.specs.declared.arcs.Arc.{Arc}
use Rattle.mk_tiers.specs.declared.net.Net.{Net}
use Rattle.mk_tiers.specs.Times.{never}
use Rattle.mk_tiers.specs.inner.Times.{over}
use Rattle.mk_tiers.specs.Arcs.{row}
use Rattle.mk_tiers.specs.inner.Arcs.{end}
use Rattle.mk_tiers.specs.inner.Outer.{IsAlone, IsLeastOuter, IsWithoutSim}
use Rattle.mk_tiers.specs.inner.Standing.{AreNets}
use Rattle.mk_tiers.proofs.Delays.{over_never}

-- n times that never come
abbrev pub nevers : ℕ → List ℕ
nevers zero = []
nevers (suc n) = never ∷ nevers n

at_nevers : (n i : ℕ) → i < n → slice_index (nevers n) i ≡ never
at_nevers zero i h = absurd (omega arith)
at_nevers (suc n) zero h = refl
at_nevers (suc n) (suc i) h = at_nevers n i (omega arith)

nevers_fit : (n i : ℕ) → slice_index (nevers n) i ≤ never
nevers_fit zero i = omega arith
nevers_fit (suc n) zero = omega arith
nevers_fit (suc n) (suc i) = nevers_fit n i

module _ (net : Net) (owns : List ℕ) (nets : AreNets (length owns) net) (sim : ℕ) where
  comes_never : (v : ℕ) (a : Arc) → IsIn a (row net.triggers.ins v) → end (nevers (length owns)) a ≡ never
  comes_never v a m = ap (λ (x : ℕ). over x a.way) (at_nevers (length owns) a.sim (nets.triggers.ins_below v a m)) ∙ over_never a.way

  pub alone_labels : sim < length owns → IsAlone owns sim → IsWithoutSim net owns sim (nevers (length owns))
  alone_labels under alone = record {
    reasons = λ v h. inl (at_nevers (length owns) v h);
    low = λ v h k. record {
      own = omega (arith, at_nevers (length owns) v h, alone v h k);
      arcs = λ a m. omega (arith, at_nevers (length owns) v h, comes_never v a m);
    };
    skipped = at_nevers (length owns) sim under;
    fits = nevers_fit (length owns);
  }

  pub alone_least : IsLeastOuter (row net.triggers.ins sim) (nevers (length owns)) sim never
  alone_least = record {
    arcs = λ a m k. omega (arith, comes_never sim a m);
    reason = inl refl;
  }
