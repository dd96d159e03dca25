-- The fault of one test is that of tests in a row.
use Rattle.std.proofs.Common.{◌≡◌, Result, Ok, Err, inl, inr, ap, sym, subst}
use Rattle.mk_base.specs.Verdicts.{passed}
use Rattle.mk_scenario_keys.specs.Tests.{IsFaultOf}
use Rattle.mk_scenario_keys.specs.declared.fault.ScenarioFault.{ScenarioFault}

module _ {A B : Type 0} (next : A → Result B ScenarioFault) (e : ScenarioFault) where
  -- of the first
  pub refused_first : (r : Result A ScenarioFault) → IsFaultOf r e → IsFaultOf (passed r next) e
  refused_first r (inl none) = inl none
  refused_first r (inr is) = inr (ap (λ v. passed v next) is)

  -- of what follows the first
  pub refused_next : (r : Result A ScenarioFault) (x : A) → r ≡ Ok x → IsFaultOf (next x) e → IsFaultOf (passed r next) e
  refused_next r x is fault = subst (λ v. IsFaultOf (passed v next) e) (sym is) fault

-- of the second, whatever follows it
pub refused_second : {A B C : Type 0} (r : Result A ScenarioFault) (s : Result B ScenarioFault) (next : A → B → Result C ScenarioFault) (e : ScenarioFault) → IsFaultOf (passed r (λ _. s)) e → IsFaultOf (passed r (λ x. passed s (next x))) e
refused_second (Ok x) s next e fault = refused_first (next x) e s fault
refused_second (Err f) s next e (inl none) = inl none
refused_second (Err f) s next e (inr is) = inr cc
