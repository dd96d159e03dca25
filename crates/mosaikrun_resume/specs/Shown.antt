-- What was shown to an onlooker of a resumed run, and the run's new record.
use Rattle.std.specs.Prelude.{◌≡◌, ◌⊎◌, ℕ, Bool, true, List, Option, None, IfSome}
use Rattle.mk_plan.specs.declared.Plan.{Plan}
use Rattle.mk_plan.specs.declared.Entry.{Entry}
use Rattle.mk_onlooker.specs.Showings.{IsShown}
use Rattle.mk_record.specs.Texts.{record_text}

-- the whole journal of a plan was shown, first all of it that the old record's messages had made,
-- and a new record that there is has these two
pub record IsShownOnward {O : Type 0} (looks : O → Plan → List Entry → Bool → O → Type 0)
    (record_ : Option (List ℕ)) (old new : O) : Type 0 where
  pub plan : Plan
  pub had : List Entry
  pub journal : List Entry
  pub shown : IsShown looks plan true had journal old new
  pub recorded : IfSome record_ (λ bytes. bytes ≡ record_text plan journal)

-- nothing was shown of a run that didn't take the old record, and there is no new one; or all of its
-- journal was
abbrev pub HasShownOnward : {O : Type 0} → (O → Plan → List Entry → Bool → O → Type 0)
    → Option (List ℕ) → O → O → Type 0
HasShownOnward looks record_ old new = ((new ≡ old) × (record_ ≡ None))
    ⊎ IsShownOnward looks record_ old new
