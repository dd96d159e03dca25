-- The simulators within the program as they begin.
use Rattle.std.proofs.Common.{◌≡◌, ℕ, zero, suc, ◌||◌, Bool, true, false, cond, List, [], ◌∷◌, map, slice_get, Option, Some, None, option_map, option_and_then, refl, sym, ap, ◌∙◌, subst}
use Rattle.mk_base.specs.declared.SimNo.{SimNo}
use Rattle.mk_plan.specs.declared.Message.{Message}
use Rattle.mk_base.specs.Lists.{IsIn, same_text, is_among}
use Rattle.mk_scenario.specs.declared.parts.Begin.{Begin}
use Rattle.mk_scenario.specs.declared.parts.Begin.TheVariants.{Command, Connect, Local}
use Rattle.mk_scenario.specs.declared.parts.SimPart.{SimPart}
use Rattle.mk_scenario.specs.declared.parts.Scenario.{Scenario}
use Rattle.mk_launch.specs.declared.faults.LaunchFault.TheVariants.{NoKind}
use Rattle.mk_launch.specs.Ready.{begin_fault}
use Rattle.mk_local.specs.declared.turn.Turn.{Turn}
use Rattle.mk_local.specs.Kinds.{has_kind, kind_named, name_of}
use Rattle.mk_local.specs.Simulators.{Simulator, new_simulator}
use Rattle.mk_local.proofs.Named.{named_in}
use Rattle.mk_run_local.specs.inner.Standing.{IsFit, AreFit}
use Rattle.mk_run_local.specs.Seen.{WithinState, AreOf, arrival, begun_as, first_of, new_within}

same_kinds : (name : List ℕ) (rows : List Turn) → is_among (map name_of rows) name ≡ has_kind name rows
same_kinds name [] = refl
same_kinds name (T ∷ rows) = ap (λ b. same_text (name_of T) name || b) (same_kinds name rows)

-- where a simulator can be begun within the program, its kind is there
pub kind_there : (rows : List Turn) (name : List ℕ) (b : Begin) → b ≡ Local name → begin_fault (map name_of rows) b ≡ None → has_kind name rows ≡ true
kind_there rows name b is none = sym (same_kinds name rows) ∙ by (is_among (map name_of rows) name) (ap (begin_fault (map name_of rows)) (sym is) ∙ none)
  where
    by : (h : Bool) → cond h None (Some NoKind) ≡ None → h ≡ true
    by true e = refl
    by false e = cc

of_begin : (rows : List Turn) (b : Begin) (L : Simulator) → begun_as rows b ≡ Some L → IsIn L.kind rows
of_begin rows (Command template) L is = cc
of_begin rows (Connect port) L is = cc
of_begin rows (Local name) L is = by (kind_named name rows) refl is
  where
    by : (o : Option Turn) → kind_named name rows ≡ o → option_map new_simulator o ≡ Some L → IsIn L.kind rows
    by None e is = cc
    by (Some T) e is = subst (λ (K : Turn). IsIn K rows) (let same : new_simulator T ≡ L = cc in ap (λ (M : Simulator). M.kind) same) (named_in name rows T e)

-- each simulator is of a kind that is there
new_of : (rows : List Turn) (S : Scenario) → AreOf rows (new_within rows S)
new_of rows S i L is = by S.sims i is
  where
    by : (sims : List SimPart) (n : ℕ) → option_and_then (λ (o : Option Simulator). o) (slice_get (map (first_of rows) sims) n) ≡ Some L → IsIn L.kind rows
    by [] n e = cc
    by (s ∷ sims) zero e = of_begin rows s.begin L e
    by (s ∷ sims) (suc n) e = by sims n e

-- none of them has entities
new_stands : (rows : List Turn) (S : Scenario) → AreFit (new_within rows S)
new_stands rows S = record { sims = λ i L is. by S.sims i L is; kept = tt }
  where
    first_fit : (b : Begin) (L : Simulator) → begun_as rows b ≡ Some L → IsFit L
    first_fit (Command template) L is = cc
    first_fit (Connect port) L is = cc
    first_fit (Local name) L is = one (kind_named name rows) is
      where
        one : (o : Option Turn) → option_map new_simulator o ≡ Some L → IsFit L
        one None e = cc
        one (Some T) e = subst IsFit (let same : new_simulator T ≡ L = cc in same) tt

    by : (sims : List SimPart) (n : ℕ) (L : Simulator) → option_and_then (λ (o : Option Simulator). o) (slice_get (map (first_of rows) sims) n) ≡ Some L → IsFit L
    by [] n L e = cc
    by (s ∷ sims) zero L e = first_fit s.begin L e
    by (s ∷ sims) (suc n) L e = by sims n L e

module _ (rows : List Turn) (S : Scenario) (sims : List (Option Simulator)) (queue : List (SimNo × Message)) (begun : sims ≡ map (first_of rows) S.sims) (empty : queue ≡ []) where
  same : record { sims = sims; kept = map arrival queue } ≡ new_within rows S
  same = ap (λ (s : List (Option Simulator)). let W : WithinState = record { sims = s; kept = map arrival queue } in W) begun
      ∙ ap (λ (q : List (SimNo × Message)). let W : WithinState = record { sims = map (first_of rows) S.sims; kept = map arrival q } in W) empty

  pub begun_stands : AreFit (record { sims = sims; kept = map arrival queue })
  begun_stands = subst AreFit (sym same) (new_stands rows S)

  pub begun_of : AreOf rows (record { sims = sims; kept = map arrival queue })
  begun_of = subst (AreOf rows) (sym same) (new_of rows S)
