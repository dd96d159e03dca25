-- What drafts are of a run.
use Rattle.std.specs.Prelude.{◌≡◌, ℕ, ◌⊎◌, Bool, true, List, [], ◌++◌, Option, IfSome}
use Rattle.mk_base.specs.Lists.{BeginsWith}
use Rattle.mk_plan.specs.declared.Plan.{Plan}
use Rattle.mk_plan.specs.declared.Entry.{Entry}
use Rattle.mk_record_read.specs.Texts.{record_text}
use Rattle.mk_onlooker.specs.Showings.{IsShown, Saw}
use Rattle.mk_scribe.specs.declared.scribe.Scribe.{Scribe}
use Rattle.mk_scribe.specs.declared.sheet.Writing.TheVariants.{Begun}
use Rattle.mk_scribe.specs.Desks.{Has, IsNew, desk_of, looks_of}
use Rattle.mk_scribe.specs.Drafts.{HasRefused, IsLater}
use Rattle.mk_scribe.specs.Openings.{opening_text}

module _ {S : Type 0} (written : S → Option (List ℕ)) (faults shortages : S → ℕ) where
  -- a new scribe with an empty draft that was shown a journal has it, and its draft is a beginning of
  -- the journal's record
  abbrev pub DraftsAreRecords : Type 0
  DraftsAreRecords = (P : Plan) (pause : Bool) (had J : List Entry) (old new : Scribe S)
      → IsNew (desk_of written faults shortages old)
      → IfSome (desk_of written faults shortages old).draft.written (λ bytes. bytes ≡ [])
      → IsShown (looks_of written faults shortages) P pause had J old new
      → Has (desk_of written faults shortages new) P J
      × IfSome (desk_of written faults shortages new).draft.written
      (λ bytes. BeginsWith (record_text P J) bytes)

  -- what is shown to it later only adds to its draft
  abbrev pub DraftsGrow : Type 0
  DraftsGrow = (P : Plan) (pause : Bool) (batches : List (List Entry)) (old new : Scribe S)
      → Saw (looks_of written faults shortages) P pause batches old new
      → IsLater (desk_of written faults shortages old).draft (desk_of written faults shortages new).draft

  -- after a look at a pause in which it refused nothing, it is all of the record of what was shown by
  -- then, without the `end` line, where the record wasn't given up
  abbrev pub PausesLeaveNothing : Type 0
  PausesLeaveNothing = (P : Plan) (J fresh : List Entry) (old new : Scribe S)
      → Has (desk_of written faults shortages old) P J
      → looks_of written faults shortages old P fresh true new
      → new.sheet.writing ≡ Begun
      → IfSome (desk_of written faults shortages new).draft.written
      (λ bytes. bytes ≡ opening_text P (J ++ fresh))
      ⊎ HasRefused (desk_of written faults shortages old).draft (desk_of written faults shortages new).draft
