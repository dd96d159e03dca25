-- What each step at a desk does.
use Rattle.std.specs.Prelude.{◌≡◌, ◌≢◌, ℕ, ◌+◌, ◌≤◌, ◌⊎◌, Bool, true, false, List, [], ◌++◌, length, take, drop, codes, Option, IfSome}
use Rattle.std.specs.Fmt.{decimal}
use Rattle.mk_outside.specs.Sinks.{TookBeginning, appended}
use Rattle.mk_plan.specs.declared.Plan.{Plan}
use Rattle.mk_plan.specs.declared.Entry.{Entry}
use Rattle.mk_record_read.specs.Texts.{record_text}
use Rattle.mk_scribe.specs.declared.sheet.Sheet.{Sheet}
use Rattle.mk_scribe.specs.declared.sheet.Writing.TheVariants.{Unbegun, Lost}
use Rattle.mk_scribe.specs.Drafts.{Draft, HasRefused, IsLater}
use Rattle.mk_scribe.specs.Desks.{Desk, Has, MakesOn}

-- the record is given up
abbrev pub IsGivenUp : Sheet → Type 0
IsGivenUp sheet = (sheet.writing ≡ Lost) × (sheet.lines.items ≡ [])

-- more lines were counted
abbrev pub Counts : Sheet → ℕ → Sheet → Type 0
Counts old more new = IsGivenUp new ⊎ ((new.count ≡ old.count + more)
    × (new.lines.items ≡ old.lines.items) × (new.writing ≡ old.writing))

-- a sheet that was begun is left, and another one begun
abbrev pub Begins : Sheet → Plan → Sheet → Type 0
Begins old P new = (new.writing ≢ Unbegun) × ((J : List Entry) (written : Option (List ℕ))
    → MakesOn old P J written → MakesOn new P J written)

-- a sheet that was begun goes on by these entries
abbrev pub GoesOn : Sheet → List Entry → Sheet → Type 0
GoesOn old fresh new = old.writing ≢ Unbegun → (P : Plan) (J : List Entry)
    (written : Option (List ℕ)) → MakesOn old P J written → MakesOn new P (J ++ fresh) written

-- a sheet goes on by these entries
abbrev pub Adds : Sheet → Plan → List Entry → Sheet → Type 0
Adds old P fresh new = (J : List Entry) (written : Option (List ℕ)) → MakesOn old P J written
    → MakesOn new P (J ++ fresh) written

-- the first lines, so many bytes, were put into the draft: all of them, unless it has refused some
pub record Moves (old : Draft) (lines : List ℕ) (new : Draft) (rest : List ℕ) : Type 0 where
  pub later : IsLater old new
  pub done : ℕ
  pub within : done ≤ length lines
  pub put : new.written ≡ appended (take done lines) old.written
  pub left : rest ≡ drop done lines
  pub all : (rest ≡ []) ⊎ HasRefused old new

-- the `end` line of a record with so many lines of entries
abbrev pub end_line : ℕ → List ℕ
end_line count = codes "end " ++ decimal count ++ codes "\n"

-- all of it was put into the draft; or not, and then a beginning of it was, and the draft has
-- refused some
abbrev pub PutsEnd : Bool → Draft → ℕ → Draft → Type 0
PutsEnd true old count new = new.written ≡ appended (end_line count) old.written
PutsEnd false old count new = TookBeginning (end_line count) old.written new.written
    × HasRefused old new

-- it was put into the draft after what stood there
pub record Ends (old : Draft) (count : ℕ) (new : Draft) (all : Bool) : Type 0 where
  pub later : IsLater old new
  pub put : PutsEnd all old count new

-- a draft is the whole record of what the desk had; or not, and then it has refused some
abbrev pub IsAll : Bool → Desk → Draft → Type 0
IsAll true old new = (P : Plan) (J : List Entry) → Has old P J
    → IfSome new.written (λ bytes. bytes ≡ record_text P J)
IsAll false old new = HasRefused old.draft new
