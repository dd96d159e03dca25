-- From what comes of a scenario to what comes of the demo scenario.
use Rattle.std.proofs.Common.{◌≡◌, inl, inr, ℕ, true, false, List, [], Option, None, Result, Ok, Err, refl, ap, subst}
use Rattle.std.specs.Prelude.{IfErr}
use Rattle.mk_scenario.specs.declared.parts.Scenario.{Scenario}
use Rattle.mk_run_crew.specs.Wholly.{is_wholly_within}
use Rattle.mk_scenario_demo.specs.Demo.{demo_scenario}
use Rattle.mosaikrun_endings.specs.declared.ending.Ending.{Ending}
use Rattle.mosaikrun_endings.specs.declared.ending.Ending.TheVariants.{Mem}
use Rattle.mosaikrun_run.specs.declared.sayings.Form.TheVariants.{Summary}
use Rattle.mosaikrun_run.specs.Outcomes.{IsScenarioOutcome, Outside}
use Rattle.mosaikrun_demo.specs.Outcomes.{IsDemoOutcome}

-- a record that isn't wanted isn't made
unkept : (O : Outside) (S : Scenario) (text : Result (List ℕ) Ending) (kept : Option (List ℕ)) → IsScenarioOutcome O Summary false S text kept → kept ≡ None
unkept O S text kept (inl unready) = unready.idle.unrecorded
unkept O S text kept (inr (inl unrun)) = unrun.unrecorded
unkept O S text kept (inr (inr played)) = elim played.recorded [ inl made ↦ made | inr none ↦ none.0 ]

pub of_demo : (O : Outside) (size : ℕ) (S : Scenario) (text : Result (List ℕ) Ending) (kept : Option (List ℕ)) → S ≡ demo_scenario size → IsScenarioOutcome O Summary false S text kept → IsDemoOutcome O size text
of_demo O size S text kept is outcome =
    subst (λ (X : Scenario). IsScenarioOutcome O Summary false X text None) is
    (subst (λ (k : Option (List ℕ)). IsScenarioOutcome O Summary false S text k) (unkept O S text kept outcome) outcome)

-- its simulators are all within the program
pub all_within : (size : ℕ) (S : Scenario) → S ≡ demo_scenario size → is_wholly_within S ≡ true
all_within size S is = ap is_wholly_within is

-- or there was no memory for the scenario
pub no_memory : (O : Outside) (size : ℕ) → O.log ≡ [] → O.new_faults ≡ O.faults → IsDemoOutcome O size (Err Mem)
no_memory O size quiet same = inl (record { ending = Mem; is = refl; cause = inl refl; idle = record { quiet = quiet; same_faults = same; unrecorded = refl } })

pub if_err : {A E : Type 0} {X Y : E → Type 0} (r : Result A E) → ((e : E) → X e → Y e) → IfErr r X → IfErr r Y
if_err (Ok a) f x = tt
if_err (Err e) f x = f e x
