-- The first simulator that can't be begun.
use Rattle.std.proofs.Common.{◌≡◌, ℕ, ◌<◌, ◌⊎◌, inl, inr, List, length, take, get_or, Some, refl, subst}
use Rattle.std.specs.Prelude.{slice_get}
use Rattle.std.proofs.lemmas.Option.{slice_get_read}
use Rattle.mk_base.specs.Lists.{Each}
use Rattle.mk_scenario.specs.declared.parts.SimPart.{SimPart}
use Rattle.mk_scenario.specs.declared.parts.Scenario.{Scenario}
use Rattle.mk_launch.specs.declared.faults.LaunchFault.{LaunchFault}
use Rattle.mk_launch.specs.declared.faults.LaunchFault.TheVariants.{Mem}
use Rattle.mk_launch.specs.Ready.{CanBegin, IsFirstFault, begin_fault}

pub first_fault : (S : Scenario) (kinds : List (List ℕ)) (items : List SimPart) (i : ℕ) (sim : SimPart) (fault : LaunchFault) → items ≡ S.sims → i < length items → sim ≡ get_or items i sim
    → Each (CanBegin kinds) (take i S.sims) → (fault ≡ Mem) ⊎ (begin_fault kinds sim.begin ≡ Some fault)
    → (fault ≡ Mem) ⊎ IsFirstFault S kinds (record { sim = record { 0 = i }; fault = fault })
first_fault S kinds items i sim fault same within is before (inl mem) = inl mem
first_fault S kinds items i sim fault same within is before (inr cause) =
    inr (record { sim = sim; there = subst (λ xs. slice_get xs i ≡ Some sim) same (slice_get_read items (length items) i sim refl within is); cause = cause; before = before })
