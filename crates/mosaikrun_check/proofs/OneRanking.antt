-- Simulators that have ranks have no cycle, so of one file one status is said.
use Rattle.std.proofs.Common.{◌≡◌, ℕ, zero, suc, ◌<◌, ◌≤◌, Bool, List, [], ◌∷◌, ◌++◌, length, take, slice_get, Some, Result, Ok, Err, ◌⊎◌, inl, inr, refl, sym, ap, ◌∙◌, subst, arith}
use Rattle.std.proofs.lemmas.List.{take_all}
use Rattle.std.proofs.lemmas.Bool.{cases_lt}
use Rattle.mk_base.specs.Lists.{IsIn}
use Rattle.mk_base.proofs.Lists.{below_get, at_in}
use Rattle.mk_cycles.specs.Cycles.{IsCycle, IsUnplaced, IsLoop}
use Rattle.mk_cycles.specs.Edges.{has_edge}
use Rattle.mk_cycles.specs.Orders.{IsNext, IsOrder, IsRanking, MayFollow}
use Rattle.mk_cycles.specs.Outcomes.{numbers}
use Rattle.mk_cycles.proofs.Chains.{get_take, split_at}
use Rattle.mk_cycles.proofs.Loops.{reached_left}
use Rattle.mk_scenario_keys.specs.declared.fault.ScenarioFault.{ScenarioFault}
use Rattle.mk_scenario.specs.declared.parts.Scenario as parts
use Rattle.mk_scenario.specs.Scenarios.{scenario_of}
use Rattle.mk_connect.specs.Edges.{edges_of}
use Rattle.mosaikrun_endings.specs.declared.ending.Ending.{Ending}
use Rattle.mosaikrun_endings.specs.declared.ending.Ending.TheVariants.{Mem}
use Rattle.mosaikrun_endings.specs.Endings.{outcome_status, status_of}
use Rattle.mk_launch.specs.Ready.{CanBegin, IsPrepared}
use Rattle.mosaikrun_check.specs.Checks.{IsChecked, IsOutcome, IsUnchecked}
use Rattle.mosaikrun_check.specs.Runnable.{AreRanks, IsUnrunnable}
use Rattle.mk_base.proofs.Items.{at_each}

module _ (before : ℕ → ℕ → Bool) (n : ℕ) where
  one_next : (placed : List ℕ) (s t : ℕ) → IsNext before n placed s → IsNext before n placed t → s ≡ t
  one_next placed s t a b = let low = a.1 t b.0 in let high = b.1 s a.0 in omega (arith, low, high)

  -- two orders are the same as far as both go
  pub same_order : (o p : List ℕ) → IsOrder before n o → IsOrder before n p → (r : ℕ) → r ≤ length o → r ≤ length p → take r o ≡ take r p
  same_order o p io ip zero h k = refl
  same_order o p io ip (suc r) h k =
      let s = below_get o r (omega (arith, h)) in
      let t = below_get p r (omega (arith, k)) in
      let same = same_order o p io ip r (omega (arith, h)) (omega (arith, k)) in
      let other : IsNext before n (take r o) t.0 = subst (λ (l : List ℕ). IsNext before n l t.0) (sym same) (ip r t.0 t.1) in
      let next = one_next (take r o) s.0 t.0 (io r s.0 s.1) other in
      (split_at r s.0 o s.1).0 ∙ ap (λ (x : ℕ). take r o ++ x ∷ []) next ∙ ap (λ (l : List ℕ). l ++ t.0 ∷ []) same ∙ sym (split_at r t.0 p t.1).0

  -- a loop among those left begins with one that is left
  loop_left : (order walk : List ℕ) → IsLoop before n order walk → (first : ℕ) × IsUnplaced n order first
  loop_left order [] l = absurd l
  loop_left order (first ∷ more) l = (first, reached_left before n order first l.0)

  -- an order that goes no further is no shorter than one that has all, and then nobody is left
  no_cycle : (o p ranks : List ℕ) (s r : ℕ) → IsOrder before n o → length o ≡ n → IsOrder before n p → ((t : ℕ) → MayFollow before n p t → ⊥) → IsUnplaced n p s → slice_get o r ≡ Some s → ⊥
  no_cycle o p ranks s r io all ip stuck left place = elim (cases_lt (length p) n) [ inl short ↦ further short | inr long ↦ left.1 (among long) ]
    where
      further : length p < n → ⊥
      further short =
          let next = below_get o (length p) (omega (arith, short, all)) in
          let same : take (length p) o ≡ p = same_order o p io ip (length p) (omega (arith, short, all)) (omega arith) ∙ take_all (length p) p (omega arith) in
          stuck next.0 (subst (λ (l : List ℕ). MayFollow before n l next.0) same (io (length p) next.0 next.1).0)

      among : n ≤ length p → IsIn s p
      among long =
          let same : o ≡ take n p = sym (take_all n o (omega (arith, all))) ∙ same_order o p io ip n (omega (arith, all)) long in
          at_in s p r (get_take n r s p (subst (λ (l : List ℕ). slice_get l r ≡ Some s) same place)).1

  pub ranked_no_cycle : (ranks walk : List ℕ) → IsRanking before n ranks → IsCycle before n walk → ⊥
  ranked_no_cycle ranks walk R C =
      let first = loop_left C.0 walk C.3 in
      let few = first.1.0 in
      let rank = below_get ranks first.0 (omega (arith, few, R.3)) in
      no_cycle R.0 C.0 ranks first.0 rank.0 R.1 R.2 C.1 C.2 first.1 ((R.4 first.0 rank.0).0 rank.1)

-- the scenario that a file is, is one
same_scenario : (S T : parts.Scenario) → (verdict : Result parts.Scenario ScenarioFault) → verdict ≡ Ok S → verdict ≡ Ok T → S ≡ T
same_scenario S T verdict a b = let same = sym a ∙ b in cc

scenario_or_fault : (S : parts.Scenario) (fault : ScenarioFault) → (verdict : Result parts.Scenario ScenarioFault) → verdict ≡ Ok S → verdict ≡ Err fault → ⊥
scenario_or_fault S fault verdict a b = let same = sym a ∙ b in cc

-- a scenario with ranks, whose simulators can all be begun, can be run
pub runnable_or_not : (kinds : List (List ℕ)) (S : parts.Scenario) (ranks : List ℕ) (e : Ending) → AreRanks S ranks → IsPrepared S kinds → IsUnrunnable kinds S e → e ≡ Mem
runnable_or_not kinds S ranks e ranked prepared (inl mem) = mem
runnable_or_not kinds S ranks e ranked prepared (inr (inl circle)) = absurd (ranked_no_cycle (has_edge (edges_of S)) (length S.sims) ranks (numbers circle.walk) ranked circle.cycle)
runnable_or_not kinds S ranks e ranked prepared (inr (inr unprepared)) =
    let first = unprepared.unbegun.first in
    let none = at_each (CanBegin kinds) S.sims unprepared.unbegun.unready.sim.0 first.sim prepared first.there in
    let some = first.cause in
    let both = sym none ∙ some in
    absurd cc

-- what has a text has no fault
text_or_fault : (kinds : List (List ℕ)) (bytes text : List ℕ) (e : Ending) → IsChecked kinds bytes text → IsUnchecked kinds bytes e → e ≡ Mem
text_or_fault kinds bytes text e a (inl (inl mem)) = mem
text_or_fault kinds bytes text e a (inl (inr fault)) = absurd (scenario_or_fault a.scenario fault.0 (scenario_of bytes) a.read fault.2)
text_or_fault kinds bytes text e a (inr stuck) =
    let same = same_scenario a.scenario stuck.scenario (scenario_of bytes) a.read stuck.read in
    runnable_or_not kinds stuck.scenario a.ranks e (subst (λ (S : parts.Scenario). AreRanks S a.ranks) same a.ranked) (subst (λ (S : parts.Scenario). IsPrepared S kinds) same a.prepared) stuck.cause

-- a scenario that can't be run has the status 3
unrunnable_status : (kinds : List (List ℕ)) (S : parts.Scenario) (e : Ending) → IsUnrunnable kinds S e → (e ≡ Mem) ⊎ (status_of e ≡ 3)
unrunnable_status kinds S e (inl mem) = inl mem
unrunnable_status kinds S e (inr (inl circle)) = inr (ap status_of circle.is)
unrunnable_status kinds S e (inr (inr unprepared)) = inr (ap status_of unprepared.unbegun.is)

-- and so has a file's fault
pub fault_status : (kinds : List (List ℕ)) (bytes : List ℕ) (e : Ending) → IsUnchecked kinds bytes e → (e ≡ Mem) ⊎ (status_of e ≡ 3)
fault_status kinds bytes e (inl (inl mem)) = inl mem
fault_status kinds bytes e (inl (inr fault)) = inr (ap status_of fault.1)
fault_status kinds bytes e (inr stuck) = unrunnable_status kinds stuck.scenario e stuck.cause

pub one_status : (kinds : List (List ℕ)) (bytes : List ℕ) (o p : Result (List ℕ) Ending) → IsOutcome kinds bytes o → IsOutcome kinds bytes p → (o ≡ Err Mem → ⊥) → (p ≡ Err Mem → ⊥) → outcome_status o ≡ outcome_status p
one_status kinds bytes (Ok t) (Ok u) a b m n = refl
one_status kinds bytes (Ok t) (Err f) a b m n = absurd (n (ap Err (text_or_fault kinds bytes t f a b)))
one_status kinds bytes (Err e) (Ok u) a b m n = absurd (m (ap Err (text_or_fault kinds bytes u e b a)))
one_status kinds bytes (Err e) (Err f) a b m n = elim (fault_status kinds bytes e a) [ inl mem ↦ absurd (m (ap Err mem)) | inr three ↦ elim (fault_status kinds bytes f b) [ inl mem ↦ absurd (n (ap Err mem)) | inr too ↦ three ∙ sym too ] ]
