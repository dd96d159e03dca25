-- What was shown to an onlooker of a run, and the run's record.
use Rattle.std.specs.Prelude.{◌≡◌, ◌⊎◌, ℕ, Bool, List, [], Option, None, IfSome}
use Rattle.mk_plan.specs.declared.Plan.{Plan}
use Rattle.mk_plan.specs.declared.Entry.{Entry}
use Rattle.mk_onlooker.specs.Showings.{IsShown}
use Rattle.mk_record.specs.Texts.{record_text}

-- the whole journal of a plan was shown, from its first entry on, and a record that there is has
-- these two
pub record IsShownFirst {O : Type 0} (looks : O → Plan → List Entry → Bool → O → Type 0)
    (pause : Bool) (record_ : Option (List ℕ)) (old new : O) : Type 0 where
  pub plan : Plan
  pub journal : List Entry
  pub shown : IsShown looks plan pause [] journal old new
  pub recorded : IfSome record_ (λ bytes. bytes ≡ record_text plan journal)

-- nothing was shown of a run without a journal, and there is no record; or all of its journal was
abbrev pub HasShown : {O : Type 0} → (O → Plan → List Entry → Bool → O → Type 0) → Bool
    → Option (List ℕ) → O → O → Type 0
HasShown looks pause record_ old new = ((new ≡ old) × (record_ ≡ None))
    ⊎ IsShownFirst looks pause record_ old new
