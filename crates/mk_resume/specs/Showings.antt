-- What a resumed run shows to who looks on at it.
use Rattle.std.specs.Prelude.{◌≡◌, Bool, true, false, List, map, Option, Some, None}
use Rattle.mk_plan.specs.declared.Plan.{Plan}
use Rattle.mk_plan.specs.declared.Entry.{Entry}
use Rattle.mk_plan.specs.declared.Journal.{Journal}
use Rattle.mk_record_read.specs.declared.saved.Saved.{Saved}
use Rattle.mk_record_read.specs.Seen.{came}
use Rattle.mk_record_compare.specs.Differences.{IsOther}
use Rattle.mk_record_restored.specs.Restored.{IsRestored}
use Rattle.mk_onlooker.specs.Showings.{IsShown}

-- where the record's messages were taken, the journal that they made was shown, and what the run
-- added to it; it begins with all that the record has. Where they weren't, nothing was shown
abbrev pub ShowsAsResumed : {O : Type 0} → (O → Plan → List Entry → Bool → O → Type 0) → Saved
    → Bool → Option Plan → Option Journal → O → O → Type 0
ShowsAsResumed looks saved true (Some P) (Some J) old new = (had : List Entry)
    × IsRestored P (map came saved.arrivals) had
    × IsOther (map came saved.arrivals) saved.asks had None
    × IsShown looks P true had J.entries old new
ShowsAsResumed looks saved true (Some P) None old new = ⊥
ShowsAsResumed looks saved true None J old new = ⊥
ShowsAsResumed looks saved false P J old new = new ≡ old
