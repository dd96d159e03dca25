-- What a scribe works at: a draft, and a sheet with the lines that aren't there yet.
use Rattle.std.specs.Prelude.{◌≡◌, ℕ, ◌⊎◌, Bool, true, List, [], ◌++◌, length, Option, IfSome}
use Rattle.mk_base.specs.Lists.{BeginsWith}
use Rattle.mk_plan.specs.declared.Plan.{Plan}
use Rattle.mk_plan.specs.declared.Entry.{Entry}
use Rattle.mk_record_read.specs.Entries.{entries_of}
use Rattle.mk_record_read.specs.Texts.{record_text}
use Rattle.mk_scribe.specs.declared.scribe.Scribe.{Scribe}
use Rattle.mk_scribe.specs.declared.sheet.Sheet.{Sheet}
use Rattle.mk_scribe.specs.declared.sheet.Writing.{Writing}
use Rattle.mk_scribe.specs.declared.sheet.Writing.TheVariants.{Unbegun, Begun, Lost}
use Rattle.mk_scribe.specs.Drafts.{Draft, IsLater, HasRefused, draft_of}
use Rattle.mk_scribe.specs.Openings.{opening_text}

pub record Desk : Type 0 where
  pub draft : Draft
  pub sheet : Sheet

-- the desk of a scribe over a sink
abbrev pub desk_of : {S : Type 0} → (S → Option (List ℕ)) → (S → ℕ) → (S → ℕ) → Scribe S → Desk
desk_of written faults shortages scribe = record {
  draft = draft_of written faults shortages scribe.draft;
  sheet = scribe.sheet;
}

-- what was written and the lines that aren't there yet are the text of the record of a plan and a
-- journal so far; of a record that was given up, what was written is a beginning
abbrev pub Makes : Writing → Plan → List Entry → Option (List ℕ) → List ℕ → ℕ → Type 0
Makes Unbegun P J written lines count = (J ≡ []) × (count ≡ 0) × (lines ≡ [])
    × IfSome written (λ bytes. bytes ≡ [])
Makes Begun P J written lines count = (count ≡ length (entries_of J))
    × IfSome written (λ bytes. bytes ++ lines ≡ opening_text P J)
Makes Lost P J written lines count = (lines ≡ [])
    × IfSome written (λ bytes. BeginsWith (opening_text P J) bytes)

-- the same of a sheet
abbrev pub MakesOn : Sheet → Plan → List Entry → Option (List ℕ) → Type 0
MakesOn sheet P J written = Makes sheet.writing P J written sheet.lines.items sheet.count

-- the desk has the journal, if it has a draft
abbrev pub Has : Desk → Plan → List Entry → Type 0
Has desk P J = desk.draft.is_there ≡ true → MakesOn desk.sheet P J desk.draft.written

-- nothing was done at the desk
pub record IsNew (desk : Desk) : Type 0 where
  pub unbegun : desk.sheet.writing ≡ Unbegun
  pub uncounted : desk.sheet.count ≡ 0
  pub no_line : desk.sheet.lines.items ≡ []

-- a look: what the desk has goes on by what is shown; and after a pause no line waits, unless the
-- draft has refused some
pub record Notes (old : Desk) (P : Plan) (fresh : List Entry) (pause : Bool)
    (new : Desk) : Type 0 where
  pub later : IsLater old.draft new.draft
  pub has : (J : List Entry) → Has old P J → Has new P (J ++ fresh)
  pub prompt : pause ≡ true → new.draft.is_there ≡ true
      → (new.sheet.lines.items ≡ []) ⊎ HasRefused old.draft new.draft

-- a look of a scribe over a sink
abbrev pub looks_of : {S : Type 0} → (S → Option (List ℕ)) → (S → ℕ) → (S → ℕ) → Scribe S → Plan
    → List Entry → Bool → Scribe S → Type 0
looks_of written faults shortages old P fresh pause new =
    Notes (desk_of written faults shortages old) P fresh pause (desk_of written faults shortages new)

-- the end: what is written then is a beginning of the record of what the desk had; and the whole of
-- it, unless the draft has refused some, or the record was given up or not begun
pub record Closes (old : Desk) (new : Draft) : Type 0 where
  pub later : IsLater old.draft new
  pub beginning : (P : Plan) (J : List Entry) → Has old P J
      → IfSome new.written (λ bytes. BeginsWith (record_text P J) bytes)
  pub whole : (P : Plan) (J : List Entry) → Has old P J → old.sheet.writing ≡ Begun
      → IfSome new.written (λ bytes. bytes ≡ record_text P J) ⊎ HasRefused old.draft new
