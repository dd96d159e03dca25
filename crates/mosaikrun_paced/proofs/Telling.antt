-- From what a paced run has come to, to what is said of it.
use Rattle.std.proofs.Common.{◌≡◌, ◌⊎◌, inl, inr, ℕ, Bool, List, [], ◌∷◌, map, Option, Some, None, Result, Ok, Err, sym, ap, ◌∙◌, subst}
use Rattle.std.specs.Prelude.{IfSome, true}
use Rattle.std.specs.List.{list_all}
use Rattle.mk_plan.specs.declared.Plan.{Plan}
use Rattle.mk_plan.specs.declared.Journal.{Journal}
use Rattle.mk_scenario.specs.declared.parts.Scenario.{Scenario}
use Rattle.mk_scenario.specs.Scenarios.{scenario_of}
use Rattle.mk_scenario.specs.Wellformed.{IsWellformed}
use Rattle.mk_local.specs.Kinds.{name_of}
use Rattle.mk_record.specs.Writable.{is_writable}
use Rattle.mk_run.specs.Outcomes.{outcome_of}
use Rattle.mk_run_crew.specs.declared.halt.Halt.{Halt}
use Rattle.mk_pace_laws.specs.declared.end.Moment.{Moment}
use Rattle.mk_pace_laws.specs.declared.end.PaceEnd.{PaceEnd}
use Rattle.mk_pace_laws.specs.declared.end.PaceEnd.TheVariants as ends
use Rattle.mk_pace_laws.specs.Clocks.{IsRising}
use Rattle.mk_pace_laws.specs.Paced.{HasNotPaced, HasPaced, PacesAs}
use Rattle.mk_outside.specs.Counts.{HasRisen}
use Rattle.mosaikrun_check.specs.Checks.{IsUnread}
use Rattle.mosaikrun_check.specs.Runnable.{IsRunnable, IsUnrunnable}
use Rattle.mosaikrun_endings.specs.declared.ending.Ending.{Ending}
use Rattle.mosaikrun_endings.specs.declared.ending.Ending.TheVariants as endings
use Rattle.mosaikrun_sayings.specs.Sayings.{ids_of}
use Rattle.mosaikrun_run.specs.Outcomes.{IsReadAgain, IsSaid, Outside, attempt_in}
use Rattle.mosaikrun_run.specs.Sayings.{halt_ending, record_of}
use Rattle.mosaikrun_run.proofs.Telling.{idle, writable}
use Rattle.mosaikrun_paced.specs.Outcomes.{IsPacedOutcome, IsPacedScenario}
use Rattle.mosaikrun_paced.specs.Sayings.{pace_saying}
use Rattle.mosaikrun_paced.specs.inner.Halts.{IsHaltEnd}

-- a clock that wasn't looked at didn't go back
pub rising_none : IsRising []
rising_none [] after n is = cc
rising_none (x ∷ before) after n is = cc

module _ (O : Outside) (S : Scenario) (ranks : List ℕ) (factor : ℕ) (strict : Option ℕ) (moments : List Moment) (end : PaceEnd) where
  abbrev Paces : Option Plan → Option Journal → Type 0
  Paces plan journal = PacesAs (attempt_in O S ranks) factor strict plan journal moments O.faults O.new_faults end

  moved : (plan : Option Plan) (journal : Option Journal) → Paces plan journal → (p : Option Plan) (j : Option Journal) → plan ≡ p → journal ≡ j → Paces p j
  moved plan journal run p j is also = subst (λ (x : Option Journal). Paces p x) also (subst (λ (x : Option Plan). Paces x journal) is run)

  -- what the journal has may be written
  pub may_be_written : (plan : Option Plan) (journal : Option Journal) (P : Plan) (J : Journal) → plan ≡ Some P → journal ≡ Some J → Paces plan journal → list_all is_writable J.entries ≡ true
  may_be_written plan journal P J is also run =
      let h : HasPaced (attempt_in O S ranks) factor strict P J.entries moments O.faults O.new_faults end = moved plan journal run (Some P) (Some J) is also in
      writable J.entries h.run.in_range

  -- a plan without a journal, or a journal without a plan, there is none
  pub not_one : (plan : Option Plan) (journal : Option Journal) (P : Plan) → plan ≡ Some P → journal ≡ None → Paces plan journal → ⊥
  not_one plan journal P is also run = moved plan journal run (Some P) None is also

  pub not_other : (plan : Option Plan) (journal : Option Journal) (J : Journal) → plan ≡ None → journal ≡ Some J → Paces plan journal → ⊥
  not_other plan journal J is also run = moved plan journal run None (Some J) is also

  -- without both, it halted
  without : (plan : Option Plan) (journal : Option Journal) → plan ≡ None → journal ≡ None → Paces plan journal → HasNotPaced (attempt_in O S ranks) (HasRisen O.faults O.new_faults) end
  without plan journal is also run = let none : Paces None None = moved plan journal run None None is also in none.0

  pub is_halt : (plan : Option Plan) (journal : Option Journal) → plan ≡ None → journal ≡ None → Paces plan journal → IsHaltEnd end
  is_halt plan journal is also run = let h = without plan journal is also run in subst IsHaltEnd (sym h.is) (h.run.halt, h.run.is)

  module _ (wanted : Bool) (runnable : IsRunnable (map name_of O.kinds) S ranks) (ids : List (List ℕ)) (are : ids ≡ ids_of S) (text : Result (List ℕ) Ending) (kept : Option (List ℕ)) where
    pub paced : (plan : Option Plan) (journal : Option Journal) (P : Plan) (J : Journal) → plan ≡ Some P → journal ≡ Some J → Paces plan journal → IsSaid (pace_saying ids P J.entries end) text
        → (kept ≡ record_of wanted P J.entries) ⊎ ((kept ≡ None) × (text ≡ Err endings.Mem)) → IfSome kept (IsReadAgain P J.entries) → IsPacedScenario O factor strict wanted S text kept
    paced plan journal P J is also run said recorded again = inr (inr (record {
      ranks = ranks;
      runnable = runnable;
      plan = P;
      journal = J.entries;
      moments = moments;
      end = end;
      run = moved plan journal run (Some P) (Some J) is also;
      said = subst (λ (i : List (List ℕ)). IsSaid (pace_saying i P J.entries end) text) are said;
      recorded = recorded;
      again = again;
    }))

    pub unpaced : (plan : Option Plan) (journal : Option Journal) → plan ≡ None → journal ≡ None → Paces plan journal → ((h : Halt) → end ≡ ends.Outcome (outcome_of h) → IsSaid (Err (halt_ending ids h)) text) → kept ≡ None → IsPacedScenario O factor strict wanted S text kept
    unpaced plan journal is also run said none =
        let h = without plan journal is also run in
        inr (inl (record {
          unrun = record {
            ranks = ranks;
            runnable = runnable;
            halt = h.run.halt;
            halted = h.run.halted;
            said = subst (λ (i : List (List ℕ)). IsSaid (Err (halt_ending i h.run.halt)) text) are (said h.run.halt (h.is ∙ ap (λ x. ends.Outcome x) h.run.is));
            unrecorded = none;
          };
          awake = h.awake;
        }))

-- or nothing was done
pub unready : (O : Outside) (factor : ℕ) (strict : Option ℕ) (wanted : Bool) (S : Scenario) (e : Ending) (text : Result (List ℕ) Ending) (kept : Option (List ℕ)) → text ≡ Err e → kept ≡ None → O.log ≡ [] → O.new_faults ≡ O.faults → IsUnrunnable (map name_of O.kinds) S e → IsPacedScenario O factor strict wanted S text kept
unready O factor strict wanted S e text kept is none quiet same cause = inl (record { ending = e; is = is; cause = cause; idle = idle O kept none quiet same })

pub no_scenario : (O : Outside) (factor : ℕ) (strict : Option ℕ) (wanted : Bool) (bytes : List ℕ) (e : Ending) (text : Result (List ℕ) Ending) (kept : Option (List ℕ)) → text ≡ Err e → kept ≡ None → O.log ≡ [] → O.new_faults ≡ O.faults → IsUnread bytes e → IsPacedOutcome O factor strict wanted bytes text kept
no_scenario O factor strict wanted bytes e text kept is none quiet same cause = inl (record { ending = e; is = is; cause = cause; idle = idle O kept none quiet same })

-- what comes of a scenario comes of the bytes that are it
pub of_bytes : (O : Outside) (factor : ℕ) (strict : Option ℕ) (wanted : Bool) (bytes : List ℕ) (S : Scenario) (text : Result (List ℕ) Ending) (kept : Option (List ℕ)) → scenario_of bytes ≡ Ok S → IsWellformed S → IsPacedScenario O factor strict wanted S text kept → IsPacedOutcome O factor strict wanted bytes text kept
of_bytes O factor strict wanted bytes S text kept read wellformed outcome = inr (record { scenario = S; read = read; wellformed = wellformed; outcome = outcome })
