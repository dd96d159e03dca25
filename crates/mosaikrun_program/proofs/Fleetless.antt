-- Which runs do nothing with the fleet.
use Rattle.std.proofs.Common.{◌≡◌, inl, inr, ℕ, true, List, Option, Ok, sym, ◌∙◌, subst}
use Rattle.mk_base.proofs.Lists.{some_same}
use Rattle.mk_outside.specs.Folders.{Files}
use Rattle.mk_scenario.specs.declared.parts.Scenario.{Scenario}
use Rattle.mk_scenario.specs.Scenarios.{scenario_of}
use Rattle.mk_run_crew.specs.Wholly.{is_wholly_within}
use Rattle.mosaikrun_words.specs.declared.request.Request.TheVariants.{Run, Resume, Paced}
use Rattle.mosaikrun_program.specs.Commands.{IsAsked, HasBytes}
use Rattle.mosaikrun_program.specs.Fleetless.{IsHeldWithin, IsWithin, NeedsNoFleet}
use Rattle.mosaikrun_program.proofs.Answering.{one_request}

same_scenario : {n m : List ℕ} {s t : Option (List ℕ)} → Run n s ≡ Run m t → n ≡ m
same_scenario same = cc

same_again : {n m r q : List ℕ} {s t : Option (List ℕ)} → Resume n r s ≡ Resume m q t → n ≡ m
same_again same = cc

not_again : {n m q : List ℕ} {s t : Option (List ℕ)} → Run n s ≡ Resume m q t → ⊥
not_again wrong = cc

-- the run that is asked for is the one in which no simulator has a link
pub run_within : (words : List (List ℕ)) (files : Option Files) (name : List ℕ) (saved : Option (List ℕ)) → IsAsked words (Run name saved) → NeedsNoFleet words files → IsHeldWithin files name
run_within words files name saved asked (inl no_run) = absurd (no_run.run name saved asked)
run_within words files name saved asked (inr (inr again)) = absurd (not_again (one_request words (Run name saved) (Resume again.name again.recorded again.saved) asked again.asked))
run_within words files name saved asked (inr (inl run)) = subst (λ (n : List ℕ). IsHeldWithin files n) (same_scenario (one_request words (Run run.name run.saved) (Run name saved) run.asked asked)) run.file

-- so is one that goes on
pub resume_within : (words : List (List ℕ)) (files : Option Files) (name recorded : List ℕ) (saved : Option (List ℕ)) → IsAsked words (Resume name recorded saved) → NeedsNoFleet words files → IsHeldWithin files name
resume_within words files name recorded saved asked (inl no_run) = absurd (no_run.resume name recorded saved asked)
resume_within words files name recorded saved asked (inr (inl run)) = absurd (not_again (one_request words (Run run.name run.saved) (Resume name recorded saved) run.asked asked))
resume_within words files name recorded saved asked (inr (inr again)) =
    subst (λ (n : List ℕ). IsHeldWithin files n) (same_again (one_request words (Resume again.name again.recorded again.saved) (Resume name recorded saved) again.asked asked)) again.file

-- a run by a clock needs the fleet
pub pace_needs : (words : List (List ℕ)) (files : Option Files) (name : List ℕ) (factor : ℕ) (strict : Option ℕ) (saved : Option (List ℕ)) → IsAsked words (Paced name factor strict saved) → NeedsNoFleet words files → ⊥
pace_needs words files name factor strict saved asked (inl no_run) = no_run.paced name factor strict saved asked
pace_needs words files name factor strict saved asked (inr (inl run)) = let wrong = one_request words (Run run.name run.saved) (Paced name factor strict saved) run.asked asked in cc
pace_needs words files name factor strict saved asked (inr (inr again)) = let wrong = one_request words (Resume again.name again.recorded again.saved) (Paced name factor strict saved) again.asked asked in cc

-- the file's bytes are those that were read
pub bytes_within : (files : Option Files) (name bytes : List ℕ) → HasBytes files name bytes → IsHeldWithin files name → IsWithin bytes
bytes_within files name bytes is h = subst (λ (b : List ℕ). IsWithin b) (some_same (sym h.there ∙ (subst (λ (o : Option Files). HasBytes o name bytes) h.told is).0)) h.within

-- where the bytes that are run are those that were read, they are such a scenario
pub does_nothing : {X : Type 0} (files : Option Files) (name bytes run : List ℕ) → HasBytes files name bytes → run ≡ bytes → ((S : Scenario) → scenario_of run ≡ Ok S → is_wholly_within S ≡ true → X) → IsHeldWithin files name → X
does_nothing files name bytes run is same within h =
    let w = subst (λ (b : List ℕ). IsWithin b) (sym same) (bytes_within files name bytes is h) in
    within w.scenario w.read w.within
