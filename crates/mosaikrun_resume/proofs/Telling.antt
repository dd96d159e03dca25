-- From what a resumed run has come to, to what is said of it.
use Rattle.std.proofs.Common.{◌≡◌, ◌⊎◌, inl, inr, ℕ, Bool, true, false, List, [], map, Option, Some, None, Result, Err, refl, sym, ap, ◌∙◌, subst}
use Rattle.std.specs.Prelude.{IfSome}
use Rattle.std.specs.List.{list_all}
use Rattle.mk_plan.specs.declared.Plan.{Plan}
use Rattle.mk_plan.specs.declared.Journal.{Journal}
use Rattle.mk_scenario.specs.declared.parts.Scenario.{Scenario}
use Rattle.mk_local.specs.Kinds.{name_of}
use Rattle.mk_record_read.specs.declared.saved.Saved.{Saved}
use Rattle.mk_record.specs.Reading.{reading, Said}
use Rattle.mk_record.specs.Seen.{came}
use Rattle.mk_record.specs.Writable.{is_writable}
use Rattle.mk_run.specs.Outcomes.{outcome_of}
use Rattle.mk_run_crew.specs.declared.halt.Halt.{Halt}
use Rattle.mk_run_crew.specs.declared.halt.Halt.TheVariants as halt
use Rattle.mk_resume_loop.specs.declared.ending.ResumeEnd.{ResumeEnd}
use Rattle.mk_resume_loop.specs.declared.ending.ResumeEnd.TheVariants as ends
use Rattle.mk_resume.specs.Resumed.{HasResumed, IsRefusedBy, ResumesAs}
use Rattle.mosaikrun_check.specs.Runnable.{IsRunnable}
use Rattle.mosaikrun_endings.specs.declared.ending.Ending.{Ending}
use Rattle.mosaikrun_endings.specs.declared.ending.Ending.TheVariants as endings
use Rattle.mosaikrun_records.specs.Saved.{IsUnread}
use Rattle.mosaikrun_sayings.specs.Sayings.{ids_of}
use Rattle.mosaikrun_run.specs.Outcomes.{IsReadAgain, IsSaid, Outside, attempt_in}
use Rattle.mosaikrun_run.specs.Sayings.{halt_ending, record_of}
use Rattle.mosaikrun_run.proofs.Telling.{idle, writable}
use Rattle.mosaikrun_resume.specs.Outcomes.{IsSavedOutcome, IsStudyOutcome}
use Rattle.mosaikrun_resume.specs.Sayings.{resume_saying}
use Rattle.mosaikrun_resume.specs.inner.Refusals.{IsRefusalEnd}

module _ (O : Outside) (S : Scenario) (ranks : List ℕ) (saved : Saved) (end : ResumeEnd) where
  abbrev Resumes : Bool → Option Plan → Option Journal → Type 0
  Resumes taken plan journal = ResumesAs (attempt_in O S ranks) saved taken plan journal O.faults O.new_faults end

  module _ (taken : Bool) (plan : Option Plan) (journal : Option Journal) (run : Resumes taken plan journal) where
    moved : (t : Bool) (p : Option Plan) (j : Option Journal) → taken ≡ t → plan ≡ p → journal ≡ j → Resumes t p j
    moved t p j is also too = subst (λ (x : Option Journal). Resumes t p x) too (subst (λ (x : Option Plan). Resumes t x journal) also (subst (λ (x : Bool). Resumes x plan journal) is run))

    -- what the journal has may be written, where the record was taken
    pub may_be_written : (P : Plan) (J : Journal) → plan ≡ Some P → journal ≡ Some J → taken ≡ true → list_all is_writable J.entries ≡ true
    may_be_written P J also too is = let h : HasResumed (attempt_in O S ranks) saved P J.entries O.faults O.new_faults end = moved true (Some P) (Some J) is also too in writable J.entries h.run.in_range

    -- a plan without a journal, or a journal without a plan, there is none
    pub not_one : (P : Plan) → plan ≡ Some P → journal ≡ None → ⊥
    not_one P also too = elim taken as (λ t. taken ≡ t → ⊥) [ true ↦ λ is. moved true (Some P) None is also too | false ↦ λ is. moved false (Some P) None is also too ] refl

    pub not_other : (J : Journal) → plan ≡ None → journal ≡ Some J → ⊥
    not_other J also too = elim taken as (λ t. taken ≡ t → ⊥) [ true ↦ λ is. moved true None (Some J) is also too | false ↦ λ is. moved false None (Some J) is also too ] refl

    -- without both it was refused, or it was halted
    without : plan ≡ None → journal ≡ None → Resumes false None None
    without also too = elim taken as (λ t. taken ≡ t → Resumes false None None) [ true ↦ λ is. absurd (moved true None None is also too) | false ↦ λ is. moved false None None is also too ] refl

    refused_end : (P : Plan) (e : ResumeEnd) → IsRefusedBy P saved e → IsRefusalEnd e
    refused_end P (ends.Outcome o) h = (halt.Mem, h.1)
    refused_end P (ends.OtherPlan n) h = tt
    refused_end P (ends.OtherEntry n) h = tt
    refused_end P (ends.Differs sim place kept heard) h = h

    pub is_refusal : plan ≡ None → journal ≡ None → IsRefusalEnd end
    is_refusal also too = elim (without also too) [
      | inl h ↦ refused_end h.0 end h.1
      | inr h ↦ subst IsRefusalEnd (sym h.1) (h.2.halt, h.2.is)
    ]

    module _ (wanted : Bool) (runnable : IsRunnable (map name_of O.kinds) S ranks) (ids : List (List ℕ)) (are : ids ≡ ids_of S) (text : Result (List ℕ) Ending) (kept : Option (List ℕ)) where
      pub some : (P : Plan) (J : Journal) → plan ≡ Some P → journal ≡ Some J → IsSaid (resume_saying ids P J.entries end) text
          → (taken ≡ true → (kept ≡ record_of wanted P J.entries) ⊎ ((kept ≡ None) × (text ≡ Err endings.Mem))) → IfSome kept (IsReadAgain P J.entries) → (taken ≡ false → kept ≡ None) → IsSavedOutcome O wanted S ranks saved text kept
      some P J also too said recorded again unrecorded = elim taken as (λ t. taken ≡ t → IsSavedOutcome O wanted S ranks saved text kept) [
        | true ↦ λ is. inr (inr (record {
          plan = P;
          journal = J.entries;
          end = end;
          run = moved true (Some P) (Some J) is also too;
          said = as_said P J said;
          recorded = recorded is;
          again = again;
        }))
        | false ↦ λ is.
            let h = moved false (Some P) (Some J) is also too in
            inr (inl (record {
              plan = P;
              journal = J.entries;
              end = end;
              cause = inr h.0;
              refused = h.1;
              said = as_said P J said;
              unrecorded = unrecorded is;
            }))
      ] refl
        where
          as_said : (P : Plan) (J : Journal) → IsSaid (resume_saying ids P J.entries end) text → IsSaid (resume_saying (ids_of S) P J.entries end) text
          as_said P J h = subst (λ (i : List (List ℕ)). IsSaid (resume_saying i P J.entries end) text) are h

      pub refused : plan ≡ None → journal ≡ None → ((h : Halt) → end ≡ ends.Outcome (outcome_of h) → IsSaid (Err (halt_ending ids h)) text) → ((P : Plan) → IsSaid (resume_saying ids P [] end) text) → kept ≡ None → IsSavedOutcome O wanted S ranks saved text kept
      refused also too halted said none = elim (without also too) [
        | inl h ↦ inr (inl (record {
          plan = h.0;
          journal = [];
          end = end;
          cause = inl h.1;
          refused = h.2;
          said = subst (λ (i : List (List ℕ)). IsSaid (resume_saying i h.0 [] end) text) are (said h.0);
          unrecorded = none;
        }))
        | inr h ↦ inl (record {
          ranks = ranks;
          runnable = runnable;
          halt = h.2.halt;
          halted = h.2.halted;
          said = subst (λ (i : List (List ℕ)). IsSaid (Err (halt_ending i h.2.halt)) text) are (halted h.2.halt (h.1 ∙ ap (λ x. ends.Outcome x) h.2.is));
          unrecorded = none;
        })
      ]

-- or nothing was done
pub no_record : (O : Outside) (wanted : Bool) (S : Scenario) (ranks bytes : List ℕ) (e : Ending) (text : Result (List ℕ) Ending) (kept : Option (List ℕ)) → text ≡ Err e → kept ≡ None → O.log ≡ [] → O.new_faults ≡ O.faults → IsUnread bytes e → IsStudyOutcome O wanted S ranks bytes text kept
no_record O wanted S ranks bytes e text kept is none quiet same cause = inl (record { ending = e; is = is; cause = cause; idle = idle O kept none quiet same })

-- what comes of a record comes of the bytes that are it
pub of_record : (O : Outside) (wanted : Bool) (S : Scenario) (ranks bytes : List ℕ) (saved : Saved) (text : Result (List ℕ) Ending) (kept : Option (List ℕ)) → reading bytes ≡ Said saved.plan (map came saved.arrivals) saved.asks → IsSavedOutcome O wanted S ranks saved text kept → IsStudyOutcome O wanted S ranks bytes text kept
of_record O wanted S ranks bytes saved text kept read outcome = inr (record { saved = saved; read = read; outcome = outcome })
