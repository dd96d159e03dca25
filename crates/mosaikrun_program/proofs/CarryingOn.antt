-- What a run that goes on from a record has come to, as an answer.
use Rattle.std.proofs.Common.{◌≡◌, ◌≤◌, ℕ, List, [], ◌∷◌, inl, inr, map, Option, None, Result, Err, refl, arith}
use Rattle.std.specs.Prelude.{is_some}
use Rattle.mk_outside.specs.Counts.{HasRisen}
use Rattle.mk_local.specs.Kinds.{name_of}
use Rattle.mk_record_mend.specs.Mended.{mended}
use Rattle.mosaikrun_words.specs.declared.request.Request.TheVariants.{Resume}
use Rattle.mosaikrun_check.specs.Checks.{IsUnchecked}
use Rattle.mosaikrun_endings.specs.declared.ending.Ending.{Ending}
use Rattle.mosaikrun_resume.specs.Outcomes.{IsStudy, IsStudyOutcome}
use Rattle.mosaikrun_program.specs.Around.{Around}
use Rattle.mosaikrun_program.specs.Commands.{IsAsked, HasBytes, IsUnreadable}
use Rattle.mosaikrun_program.specs.Running.{RunAnswer}
use Rattle.mosaikrun_program.specs.Program.{EndedAs}
use Rattle.mosaikrun_program.proofs.Answering.{is_memory}
use Rattle.mosaikrun_program.proofs.Playing.{none_saved, performed}
use Rattle.mosaikrun_program.proofs.Resuming.{refused_not}

pub low : {a b c : ℕ} → a ≤ b → b ≤ c → a ≤ c
low x y = omega (arith, x, y)

module _ (S : Around) (scenario recorded : List ℕ) (name : Option (List ℕ)) (asked : IsAsked S.words (Resume scenario recorded name)) where
  abbrev kinds : List (List ℕ)
  kinds = map name_of S.outside.kinds

  -- the scenario was refused, or memory was wanting
  pub first_refused : (bytes : List ℕ) (e : Ending) → HasBytes S.folder.files scenario bytes → IsUnchecked kinds bytes e → S.output.after ≡ S.output.before → S.folder.files_after ≡ S.folder.files → S.outside.log ≡ [] → S.outside.new_faults ≡ S.outside.faults → EndedAs S (Err e)
  first_refused bytes e held cause unput unsaved log faults = elim (is_memory e) [
    | inl mem ↦ inr (inl (record {
      request = Resume scenario recorded name;
      asked = asked;
      stuck = record { read = []; held = tt; on = tt; name = scenario; next = refl; cause = inl mem };
      untouched = record { unput = unput; unsaved = unsaved; log = log; faults = faults };
    }))
    | inr not ↦ performed S (Err e) (inr (record {
      request = Resume scenario recorded name;
      asked = asked;
      run = record {
        read = bytes ∷ [];
        held = (held, tt);
        text = Err e;
        kept = None;
        outcome = (refused_not kinds bytes e cause not, λ old. inl (record { ending = e; is = refl; cause = cause; idle = record { quiet = log; same_faults = faults; unrecorded = refl } }));
        ended = (unput, inl refl, inl (none_saved S.folder name unsaved));
      };
    }))
  ]

  -- the record's file isn't read
  pub second_stuck : (bytes : List ℕ) (e : Ending) → HasBytes S.folder.files scenario bytes → IsStudy kinds bytes → IsUnreadable S.folder.files recorded (HasRisen S.folder.faults S.folder.new_faults) e
      → S.output.after ≡ S.output.before → S.folder.files_after ≡ S.folder.files → S.outside.log ≡ [] → S.outside.new_faults ≡ S.outside.faults → EndedAs S (Err e)
  second_stuck bytes e held study cause unput unsaved log faults = inr (inl (record {
    request = Resume scenario recorded name;
    asked = asked;
    stuck = record { read = bytes ∷ []; held = (held, tt); on = study; name = recorded; next = refl; cause = cause };
    untouched = record { unput = unput; unsaved = unsaved; log = log; faults = faults };
  }))

  -- both were read
  pub gone_on : (answer : Result (Unit {0}) Ending) (bytes old : List ℕ) → HasBytes S.folder.files scenario bytes → HasBytes S.folder.files recorded old → (study : IsStudy kinds bytes) (text : Result (List ℕ) Ending) (kept : Option (List ℕ))
      → IsStudyOutcome S.outside (is_some name) study.scenario study.ranks (mended old) text kept → RunAnswer S.folder S.output name text kept answer → EndedAs S answer
  gone_on answer bytes old held too study text kept outcome said = performed S answer (inr (record {
    request = Resume scenario recorded name;
    asked = asked;
    run = record { read = bytes ∷ old ∷ []; held = (held, (too, tt)); text = text; kept = kept; outcome = inr (record { study = study; outcome = outcome }); ended = said };
  }))
