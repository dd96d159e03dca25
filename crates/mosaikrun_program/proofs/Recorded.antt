-- How a run's record is that of the journal which its scribe has.
use Rattle.std.proofs.Common.{◌≡◌, ◌⊎◌, inl, inr, ℕ, Bool, true, List, [], Option, Some, None, Result, Ok, Err, sym, ◌∙◌, subst, option_map}
use Rattle.std.specs.Prelude.{IfSome, IfOk, IfErr}
use Rattle.mk_outside.specs.declared.fleet.LogEntry.{LogEntry}
use Rattle.mk_plan.specs.declared.Plan.{Plan}
use Rattle.mk_plan.specs.declared.Entry.{Entry}
use Rattle.mk_onlooker.specs.Showings.{IsShown}
use Rattle.mk_progress.specs.declared.both.Both.{Both}
use Rattle.mk_progress.specs.Both.{looks_of_both}
use Rattle.mk_progress.proofs.OnBoth.{first_shown}
use Rattle.mk_record_read.specs.Texts.{record_text}
use Rattle.mk_scenario.specs.declared.parts.Scenario.{Scenario}
use Rattle.mk_scenario.specs.Scenarios.{scenario_of}
use Rattle.mk_scenario_keys.specs.declared.fault.ScenarioFault.{ScenarioFault}
use Rattle.mk_scribe.specs.declared.scribe.Scribe.{Scribe}
use Rattle.mk_scribe.specs.Desks.{Desk, IsNew, desk_of, looks_of}
use Rattle.mk_scribe.proofs.Noting.{shown_begins}
use Rattle.mk_scribe.proofs.Texts.{if_told}
use Rattle.mosaikrun_endings.specs.declared.ending.Ending.{Ending}
use Rattle.mosaikrun_run.specs.Outcomes.{IsRunOutcome, Outside}
use Rattle.mosaikrun_run.specs.Shown.{HasShown}
use Rattle.mosaikrun_resume.specs.Shown.{HasShownOnward}
use Rattle.mosaikrun_program.specs.inner.Drafting.{HasRecord}

-- bytes that are no scenario leave no record
pub none_unread : (O : Outside) (wanted : Bool) (bytes : List ℕ) (text : Result (List ℕ) Ending) (kept : Option (List ℕ)) (f : ScenarioFault) → IsRunOutcome O wanted bytes text kept → scenario_of bytes ≡ Err f → kept ≡ None
none_unread O wanted bytes text kept f (inl idle) e = idle.idle.unrecorded
none_unread O wanted bytes text kept f (inr run) e = let read = run.read in cc

no_record : (record_ : Option (List ℕ)) (H : List ℕ → Type 0) → record_ ≡ None → IfSome record_ H
no_record record_ H none = subst (λ (r : Option (List ℕ)). IfSome r H) (sym none) tt

module _ {S B : Type 0} (written : S → Option (List ℕ)) (faults shortages : S → ℕ) (looks : B → Plan → List Entry → Bool → B → Type 0)
    (record_ : Option (List ℕ)) (old new : Both (Scribe S) B) (begin : IsNew (desk_of written faults shortages old.first)) (empty : IfSome (desk_of written faults shortages old.first).draft.written (λ bytes. bytes ≡ [])) where
  has_it : (P : Plan) (pause : Bool) (had J : List Entry) → IsShown (looks_of_both (looks_of written faults shortages) looks) P pause had J old new → IfSome record_ (λ bytes. bytes ≡ record_text P J) → IfSome record_ (HasRecord (desk_of written faults shortages new.first))
  has_it P pause had J shown recorded = if_told record_ (λ bytes is. (
    P,
    J,
    (shown_begins written faults shortages P pause had J old.first new.first begin empty (first_shown (looks_of written faults shortages) looks P pause had J old new shown)).0,
    is,
  )) recorded

  pub run_has : (pause : Bool) → HasShown (looks_of_both (looks_of written faults shortages) looks) pause record_ old new → IfSome record_ (HasRecord (desk_of written faults shortages new.first))
  run_has pause (inl none) = no_record record_ (HasRecord (desk_of written faults shortages new.first)) none.1
  run_has pause (inr is) = has_it is.plan pause [] is.journal is.shown is.recorded

  pub onward_has : HasShownOnward (looks_of_both (looks_of written faults shortages) looks) record_ old new → IfSome record_ (HasRecord (desk_of written faults shortages new.first))
  onward_has (inl none) = no_record record_ (HasRecord (desk_of written faults shortages new.first)) none.1
  onward_has (inr is) = has_it is.plan true is.had is.journal is.shown is.recorded

  -- of the bytes of a scenario's file, which may be none
  pub read_has : (bytes : List ℕ) (pause : Scenario → Bool) (r : Result Scenario ScenarioFault) → scenario_of bytes ≡ r → ((s : Scenario) → scenario_of bytes ≡ Ok s → HasShown (looks_of_both (looks_of written faults shortages) looks) (pause s) record_ old new)
      → ((f : ScenarioFault) → scenario_of bytes ≡ Err f → record_ ≡ None) → IfSome record_ (HasRecord (desk_of written faults shortages new.first))
  read_has bytes pause (Ok s) e shown none = run_has (pause s) (shown s e)
  read_has bytes pause (Err f) e shown none = no_record record_ (HasRecord (desk_of written faults shortages new.first)) (none f e)
