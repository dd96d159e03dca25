-- For proofs alone. Beside `Blames`, which has what a reader needs: what the comparison of two
-- journals comes to.
use Rattle.std.specs.Prelude.{◌≡◌, ◌⊎◌, ℕ, List, Some, None, Result, Ok, Err}
use Rattle.mk_plan.specs.declared.Plan.{Plan}
use Rattle.mk_plan.specs.declared.Entry.{Entry}
use Rattle.mk_plan.specs.Journals.{view}
use Rattle.mk_plan.specs.Orderly.{IsOrderly}
use Rattle.mk_plan.specs.Agreement.{IsFinished}
use Rattle.mk_plan_same.specs.Parts.{IsFirstOther}
use Rattle.mk_blame.specs.declared.verdict.Verdict.{Verdict}
use Rattle.mk_blame.specs.Verdicts.{IsVerdict}
use Rattle.mk_blame.specs.Written.{verdict_text}
use Rattle.mosaikrun_endings.specs.declared.ending.Ending.{Ending}
use Rattle.mosaikrun_endings.specs.declared.ending.Ending.TheVariants as ends

-- the journal is orderly, owes nothing, and all is done in it
pub record IsWholeOf (P : Plan) (J : List Entry) : Type 0 where
  pub orderly : IsOrderly P J
  pub paid : (view P J).owed ≡ None
  pub finished : IsFinished P J

-- the text is that of the verdict on two journals of a plan
pub record IsVerdictText (P : Plan) (J K : List Entry) (text : List ℕ) : Type 0 where
  pub verdict : Verdict
  pub judged : IsVerdict P J K verdict
  pub is : text ≡ verdict_text P verdict

-- the plans are the same, and the text is that of the verdict
pub record IsJudged (P : Plan) (J : List Entry) (Q : Plan) (K : List Entry) (text : List ℕ)
    : Type 0 where
  pub same : IsFirstOther P Q None
  pub text_is : IsVerdictText P J K text

-- the ending names the first part in which the plans differ
pub record IsOther (P Q : Plan) (e : Ending) : Type 0 where
  pub part : ℕ
  pub differs : IsFirstOther P Q (Some part)
  pub is : e ≡ ends.OtherPlan part

-- what the comparison of a journal of one plan and one of another comes to
abbrev pub IsComparison : Plan → List Entry → Plan → List Entry → Result (List ℕ) Ending → Type 0
IsComparison P J Q K (Ok text) = IsJudged P J Q K text
IsComparison P J Q K (Err e) = (e ≡ ends.Mem) ⊎ IsOther P Q e
