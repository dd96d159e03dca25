-- What is read of a record that was mended.
use Rattle.std.specs.Prelude.{◌≡◌, ℕ, List, [], ◌∷◌, Some}
use Rattle.mk_base.specs.Lists.{BeginsWith}
use Rattle.mk_plan.specs.declared.Plan.{Plan}
use Rattle.mk_plan.specs.declared.Entry.{Entry}
use Rattle.mk_plan.specs.Journals.{arrivals}
use Rattle.mk_record_read.specs.Reading.{State, Going, Said, line_step, reading}
use Rattle.mk_record_read.specs.Texts.{record_text}
use Rattle.mk_record_laws.specs.Again.{steps_of}
use Rattle.mk_record_mend.specs.Mended.{mended}

-- each of these lines may stand where it does, and together they lead from one state to another
abbrev pub Leads : State → List (List ℕ) → State → Type 0
Leads S [] T = S ≡ T
Leads S (line ∷ lines) T = (U : State) × (line_step S line ≡ Going U) × Leads U lines T

-- the text, once it is mended, is the record of a beginning of the journal, and is read as such: the
-- plan, the messages of this beginning and its Steps
pub record IsBeginningOf (P : Plan) (J : List Entry) (text : List ℕ) : Type 0 where
  pub beginning : List Entry
  pub begins : BeginsWith J beginning
  pub recorded : mended text ≡ record_text P beginning
  pub read : reading (mended text) ≡ Said P (arrivals beginning) (Some (steps_of beginning))
