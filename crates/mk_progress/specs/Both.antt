-- What two onlookers of one run are shown.
use Rattle.std.specs.Prelude.{Bool, List}
use Rattle.mk_plan.specs.declared.Plan.{Plan}
use Rattle.mk_plan.specs.declared.Entry.{Entry}
use Rattle.mk_onlooker.specs.Showings.{IsShown}
use Rattle.mk_progress.specs.declared.both.Both.{Both}

module _ {A B : Type 0} (first : A → Plan → List Entry → Bool → A → Type 0)
    (second : B → Plan → List Entry → Bool → B → Type 0) where
  -- a look of both
  abbrev pub looks_of_both : Both A B → Plan → List Entry → Bool → Both A B → Type 0
  looks_of_both old P fresh pause new = first old.first P fresh pause new.first
      × second old.second P fresh pause new.second

  -- each of them was shown the journal that was shown
  abbrev pub IsShownToBoth : Type 0
  IsShownToBoth = (P : Plan) (pause : Bool) (had J : List Entry) (old new : Both A B)
      → IsShown looks_of_both P pause had J old new
      → IsShown first P pause had J old.first new.first
      × IsShown second P pause had J old.second new.second
