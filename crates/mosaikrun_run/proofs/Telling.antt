-- From what a run has come to, to what is said of it.
use Rattle.std.proofs.Common.{◌≡◌, ◌⊎◌, inl, inr, ℕ, Bool, true, ◌&&◌, List, [], ◌∷◌, map, Option, Some, None, Result, Ok, Err, refl, sym, ap, ◌∙◌, subst}
use Rattle.std.specs.Prelude.{IfOk, IfErr, IfSome, option_map}
use Rattle.std.specs.List.{list_all}
use Rattle.mk_plan.specs.declared.Plan.{Plan}
use Rattle.mk_plan.specs.declared.Journal.{Journal}
use Rattle.mk_plan.specs.declared.Entry.{Entry}
use Rattle.mk_plan.specs.declared.Entry.TheVariants.{Sent, Got}
use Rattle.mk_scenario.specs.declared.parts.Scenario.{Scenario}
use Rattle.mk_scenario.specs.Scenarios.{scenario_of}
use Rattle.mk_scenario.specs.Wellformed.{IsWellformed}
use Rattle.mk_local.specs.Kinds.{name_of}
use Rattle.mosaikrun_check.specs.Runnable.{IsRunnable, IsUnrunnable}
use Rattle.mosaikrun_check.specs.Checks.{IsUnread}
use Rattle.mk_record.specs.Writable.{is_writable}
use Rattle.mk_run.specs.declared.outcome.Outcome.{Outcome}
use Rattle.mk_run_crew.specs.declared.halt.Halt.{Halt}
use Rattle.mk_run_crew.specs.Wholly.{is_wholly_within}
use Rattle.mk_run.specs.Outcomes.{outcome_of}
use Rattle.mk_onlooker.specs.Showings.{AreInRange}
use Rattle.mk_run.specs.Ran.{RunsAs, HasRun}
use Rattle.mosaikrun_endings.specs.declared.ending.Ending.{Ending}
use Rattle.mosaikrun_endings.specs.declared.ending.Ending.TheVariants as ends
use Rattle.mosaikrun_sayings.specs.Sayings.{ids_of}
use Rattle.mosaikrun_run.specs.Sayings.{IsHalt, halt_ending, record_of, saying_of}
use Rattle.mosaikrun_run.specs.declared.sayings.Form.{Form}
use Rattle.mosaikrun_run.specs.declared.sayings.Form.TheVariants.{Report}
use Rattle.mosaikrun_run.specs.Outcomes.{IsIdle, IsReadAgain, IsRunOutcome, IsSaid, IsScenarioOutcome, Outside, attempt_in}

-- bytes are one scenario
pub one_scenario : (bytes : List ℕ) (S T : Scenario) → scenario_of bytes ≡ Ok S → scenario_of bytes ≡ Ok T → S ≡ T
one_scenario bytes S T one two = let both = sym one ∙ two in cc

-- what is in range may be written
pub writable : (J : List Entry) → AreInRange J → list_all is_writable J ≡ true
writable [] h = refl
writable (Sent s item ∷ J) h = writable J (λ H t m more is. h (Sent s item ∷ H) t m more (ap (λ l. Sent s item ∷ l) is))
writable (Got s m ∷ J) h = ap (λ b. b && list_all is_writable J) (h [] s m J refl) ∙ writable J (λ H t n more is. h (Got s m ∷ H) t n more (ap (λ l. Got s m ∷ l) is))

-- what holds of the value of an answer, by what held of it before
pub if_ok : {A E : Type 0} {X Y : A → Type 0} (r : Result A E) → ((a : A) → r ≡ Ok a → X a → Y a) → IfOk r X → IfOk r Y
if_ok (Ok a) f x = f a refl x
if_ok (Err e) f x = tt

pub if_err : {A E : Type 0} {X Y : E → Type 0} (r : Result A E) → ((e : E) → r ≡ Err e → X e → Y e) → IfErr r X → IfErr r Y
if_err (Ok a) f x = tt
if_err (Err e) f x = f e refl x

-- what holds of the items of a value holds of the value's list
pub if_mapped : {V : Type 0} (items : V → List ℕ) (Q : List ℕ → Type 0) (o : Option V) → IfSome o (λ r. Q (items r)) → IfSome (option_map items o) Q
if_mapped items Q None h = tt
if_mapped items Q (Some r) h = h

-- a record that wasn't made, where there is a text, was not wanted
pub made_with_text : {V : Type 0} (items : V → List ℕ) (wanted : Option (List ℕ)) (kept : Option V) (text : Result V Ending) (v : V) → text ≡ Ok v → (option_map items kept ≡ wanted) ⊎ ((kept ≡ None) × (text ≡ Err ends.Mem)) → (t : Result (List ℕ) Ending) → (option_map items kept ≡ wanted) ⊎ ((option_map items kept ≡ None) × (t ≡ Err ends.Mem))
made_with_text items wanted kept text v is (inl made) t = inl made
made_with_text items wanted kept text v is (inr none) t = let wrong = sym is ∙ none.1 in absurd cc

pub made_with_ending : {V : Type 0} (items : V → List ℕ) (wanted : Option (List ℕ)) (kept : Option V) (text : Result V Ending) (e : Ending) → text ≡ Err e → (option_map items kept ≡ wanted) ⊎ ((kept ≡ None) × (text ≡ Err ends.Mem)) → (t : Result (List ℕ) Ending) → t ≡ Err e → (option_map items kept ≡ wanted) ⊎ ((option_map items kept ≡ None) × (t ≡ Err ends.Mem))
made_with_ending items wanted kept text e is (inl made) t told = inl made
made_with_ending items wanted kept text e is (inr none) t told = inr (ap (option_map items) none.0, (let same = sym is ∙ none.1 in let this : e ≡ ends.Mem = cc in told ∙ ap (λ x. Err x) this))

-- what is said, where there may be no memory for the record
pub said_text : {V : Type 0} (items : V → List ℕ) (wanted : Result (List ℕ) Ending) (text told : Result V Ending) → (told ≡ text) ⊎ (told ≡ Err ends.Mem) → IfOk text (λ v. wanted ≡ Ok (items v)) → IfOk told (λ v. IsSaid wanted (Ok (items v)))
said_text {V} items wanted text told (inl same) h = subst (λ (r : Result V Ending). IfOk r (λ v. IsSaid wanted (Ok (items v)))) (sym same) (if_ok text (λ v is said. inl (sym said)) h)
said_text {V} items wanted text told (inr none) h = subst (λ (r : Result V Ending). IfOk r (λ v. IsSaid wanted (Ok (items v)))) (sym none) tt

pub said_ending : {V : Type 0} (wanted : Result (List ℕ) Ending) (text told : Result V Ending) → (told ≡ text) ⊎ (told ≡ Err ends.Mem) → IfErr text (λ e. IsSaid wanted (Err e)) → IfErr told (λ e. IsSaid wanted (Err e))
said_ending {V} wanted text told (inl same) h = subst (λ (r : Result V Ending). IfErr r (λ e. IsSaid wanted (Err e))) (sym same) h
said_ending {V} wanted text told (inr none) h = subst (λ (r : Result V Ending). IfErr r (λ e. IsSaid wanted (Err e))) (sym none) (inr refl)

module _ (O : Outside) (S : Scenario) (ranks : List ℕ) (end : Outcome) where
  abbrev Runs : Option Plan → Option Journal → Type 0
  Runs plan journal = RunsAs (attempt_in O S ranks) plan journal O.faults O.new_faults end

  -- a run with a plan and a journal
  pub has_run : (plan : Option Plan) (journal : Option Journal) (P : Plan) (J : Journal) → plan ≡ Some P → journal ≡ Some J → Runs plan journal → HasRun (attempt_in O S ranks) P J.entries O.faults O.new_faults end
  has_run plan journal P J is also run = subst (λ (j : Option Journal). Runs (Some P) j) also (subst (λ (p : Option Plan). Runs p journal) is run)

  -- a plan without a journal, or a journal without a plan, there is none
  pub not_one : (plan : Option Plan) (journal : Option Journal) (P : Plan) → plan ≡ Some P → journal ≡ None → Runs plan journal → ⊥
  not_one plan journal P is also run = subst (λ (j : Option Journal). Runs (Some P) j) also (subst (λ (p : Option Plan). Runs p journal) is run)

  pub not_other : (plan : Option Plan) (journal : Option Journal) (J : Journal) → plan ≡ None → journal ≡ Some J → Runs plan journal → ⊥
  not_other plan journal J is also run = subst (λ (j : Option Journal). Runs None j) also (subst (λ (p : Option Plan). Runs p journal) is run)

  -- without both, it halted
  pub is_halt : (plan : Option Plan) (journal : Option Journal) → plan ≡ None → journal ≡ None → Runs plan journal → IsHalt end
  is_halt plan journal is also run = let not = subst (λ (j : Option Journal). Runs None j) also (subst (λ (p : Option Plan). Runs p journal) is run) in (not.halt, not.is)

  module _ (form : Form) (wanted : Bool) (runnable : IsRunnable (map name_of O.kinds) S ranks) where
    pub played : (plan : Option Plan) (journal : Option Journal) (P : Plan) (J : Journal) → plan ≡ Some P → journal ≡ Some J → Runs plan journal → (ids : List (List ℕ)) → ids ≡ ids_of S → (text : Result (List ℕ) Ending) (kept : Option (List ℕ))
        → IsSaid (saying_of form ids P J.entries end) text → (kept ≡ record_of wanted P J.entries) ⊎ ((kept ≡ None) × (text ≡ Err ends.Mem)) → IfSome kept (IsReadAgain P J.entries) → IsScenarioOutcome O form wanted S text kept
    played plan journal P J is also run ids are text kept said recorded again = inr (inr (record {
      ranks = ranks;
      runnable = runnable;
      plan = P;
      journal = J.entries;
      outcome = end;
      run = has_run plan journal P J is also run;
      said = subst (λ (i : List (List ℕ)). IsSaid (saying_of form i P J.entries end) text) are said;
      recorded = recorded;
      again = again;
    }))

    pub unplayed : (plan : Option Plan) (journal : Option Journal) → plan ≡ None → journal ≡ None → Runs plan journal → (ids : List (List ℕ)) → ids ≡ ids_of S → (text : Result (List ℕ) Ending) (kept : Option (List ℕ))
        → ((h : Halt) → end ≡ outcome_of h → IsSaid (Err (halt_ending ids h)) text) → kept ≡ None → IsScenarioOutcome O form wanted S text kept
    unplayed plan journal is also run ids are text kept said none =
        let not = subst (λ (j : Option Journal). Runs None j) also (subst (λ (p : Option Plan). Runs p journal) is run) in
        inr (inl (record {
          ranks = ranks;
          runnable = runnable;
          halt = not.halt;
          halted = not.halted;
          said = subst (λ (i : List (List ℕ)). IsSaid (Err (halt_ending i not.halt)) text) are (said not.halt not.is);
          unrecorded = none;
        }))

-- or nothing was done
pub idle : (O : Outside) (kept : Option (List ℕ)) → kept ≡ None → O.log ≡ [] → O.new_faults ≡ O.faults → IsIdle O kept
idle O kept none quiet same = record { quiet = quiet; same_faults = same; unrecorded = none }

pub unready : (O : Outside) (form : Form) (wanted : Bool) (S : Scenario) (e : Ending) (text : Result (List ℕ) Ending) (kept : Option (List ℕ)) → text ≡ Err e → kept ≡ None → O.log ≡ [] → O.new_faults ≡ O.faults → IsUnrunnable (map name_of O.kinds) S e → IsScenarioOutcome O form wanted S text kept
unready O form wanted S e text kept is none quiet same cause = inl (record { ending = e; is = is; cause = cause; idle = idle O kept none quiet same })

pub no_scenario : (O : Outside) (wanted : Bool) (bytes : List ℕ) (e : Ending) (text : Result (List ℕ) Ending) (kept : Option (List ℕ)) → text ≡ Err e → kept ≡ None → O.log ≡ [] → O.new_faults ≡ O.faults → IsUnread bytes e → IsRunOutcome O wanted bytes text kept
no_scenario O wanted bytes e text kept is none quiet same cause = inl (record { ending = e; is = is; cause = cause; idle = idle O kept none quiet same })

-- what comes of a scenario comes of the bytes that are it
pub of_bytes : (O : Outside) (wanted : Bool) (bytes : List ℕ) (S : Scenario) (text : Result (List ℕ) Ending) (kept : Option (List ℕ)) → scenario_of bytes ≡ Ok S → IsWellformed S → IsScenarioOutcome O Report wanted S text kept → IsRunOutcome O wanted bytes text kept
of_bytes O wanted bytes S text kept read wellformed outcome = inr (record { scenario = S; read = read; wellformed = wellformed; outcome = outcome })

-- the bytes are one scenario
pub within_also : (S T : Scenario) (bytes : List ℕ) → scenario_of bytes ≡ Ok S → scenario_of bytes ≡ Ok T → is_wholly_within S ≡ true → is_wholly_within T ≡ true
within_also S T bytes one other all = subst (λ (X : Scenario). is_wholly_within X ≡ true) (one_scenario bytes S T one other) all
