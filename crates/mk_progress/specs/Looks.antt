-- What the line of progress does at a look, and at the end.
use Rattle.std.specs.Prelude.{◌≡◌, ℕ, ◌+◌, ◌≤◌, ◌⊎◌, ℤ, pos, Bool, true, false, List, Option, length, if◌then◌else◌}
use Rattle.mk_outside.specs.Sinks.{TookBeginning, appended}
use Rattle.mk_plan.specs.declared.Plan.{Plan}
use Rattle.mk_plan.specs.declared.Entry.{Entry}
use Rattle.mk_progress.specs.declared.line.ProgressLine.{ProgressLine}
use Rattle.mk_progress.specs.Dues.{is_asking, next_due}
use Rattle.mk_progress.specs.Lines.{blank_text, line_text, told_text}
use Rattle.mk_progress.specs.Tallies.{tally_after}

-- a line that isn't there yet, over this sink and this clock: nothing is counted, and none is due
-- before the first second has passed
pub record IsNewLine {S C : Type 0} (over : S) (by : C) (on : Bool)
    (line : ProgressLine S C) : Type 0 where
  pub sink : line.sink ≡ over
  pub clock : line.clock ≡ by
  pub is_on : line.is_on ≡ on
  pub no_steps : line.tally.steps ≡ 0
  pub no_time : line.tally.time ≡ pos 0
  pub next : line.due.next ≡ 1000
  pub looks : line.due.looks ≡ 0
  pub width : line.width ≡ 0

-- the whole text was taken, or a beginning of it
abbrev pub TookAll : Bool → List ℕ → Option (List ℕ) → Option (List ℕ) → Type 0
TookAll true text old new = new ≡ appended text old
TookAll false text old new = TookBeginning text old new

-- no line is put
pub record PutsNothing {S C : Type 0} (old new : ProgressLine S C) : Type 0 where
  pub sink : new.sink ≡ old.sink
  pub is_on : new.is_on ≡ old.is_on
  pub next : new.due.next ≡ old.due.next
  pub width : new.width ≡ old.width

-- a line is put, which is due: it tells of all that was counted. The next one is due 200 ms later;
-- none is put any more where the sink didn't take all of this one
pub record PutsLine {S C : Type 0} (written : S → Option (List ℕ)) (last : C → ℕ)
    (old : ProgressLine S C) (until : ℤ) (new : ProgressLine S C) : Type 0 where
  pub due : old.due.next ≤ last new.clock
  pub next : new.due.next ≡ next_due (last new.clock)
  pub width : new.width ≡ length (told_text until new.tally (last new.clock))
  pub taken : TookAll new.is_on (line_text old.width until new.tally (last new.clock))
      (written old.sink) (written new.sink)

-- the clock is asked, and then a line may be put
pub record Tells {S C : Type 0} (written : S → Option (List ℕ)) (last : C → ℕ)
    (old : ProgressLine S C) (until : ℤ) (new : ProgressLine S C) : Type 0 where
  pub tally : new.tally ≡ old.tally
  pub looks : new.due.looks ≡ old.due.looks
  pub rising : last old.clock ≤ last new.clock
  pub said : PutsNothing old new ⊎ PutsLine written last old until new

-- a look of a line that is on
pub record GoesOn {S C : Type 0} (written : S → Option (List ℕ)) (last : C → ℕ)
    (old : ProgressLine S C) (P : Plan) (fresh : List Entry) (pause : Bool)
    (new : ProgressLine S C) : Type 0 where
  pub counted : new.tally ≡ tally_after old.tally fresh
  pub looks : new.due.looks ≡ (if is_asking pause old.due.looks then 0 else old.due.looks + 1)
  pub unasked : is_asking pause old.due.looks ≡ false → new.clock ≡ old.clock
  pub rising : last old.clock ≤ last new.clock
  pub said : PutsNothing old new ⊎ PutsLine written last old P.until new

-- a look: where the line is off it does nothing
pub record LineLooks {S C : Type 0} (written : S → Option (List ℕ)) (last : C → ℕ)
    (old : ProgressLine S C) (P : Plan) (fresh : List Entry) (pause : Bool)
    (new : ProgressLine S C) : Type 0 where
  pub silent : old.is_on ≡ false → new ≡ old
  pub goes_on : old.is_on ≡ true → GoesOn written last old P fresh pause new

-- a look of a line over a sink, by a clock
abbrev pub looks_of_line : {S C : Type 0} → (S → Option (List ℕ)) → (C → ℕ) → ProgressLine S C
    → Plan → List Entry → Bool → ProgressLine S C → Type 0
looks_of_line written last old P fresh pause new = LineLooks written last old P fresh pause new

-- no line is there any more; what took it away may have been refused
pub record IsTakenAway {S C : Type 0} (written : S → Option (List ℕ))
    (old new : ProgressLine S C) : Type 0 where
  pub width : new.width ≡ 0
  pub said : (new.sink ≡ old.sink)
      ⊎ TookBeginning (blank_text old.width) (written old.sink) (written new.sink)

-- the end: a line that is there is taken away; else nothing is done
pub record LineEnds {S C : Type 0} (written : S → Option (List ℕ))
    (old new : ProgressLine S C) : Type 0 where
  pub none : (old.is_on ≡ false) ⊎ (old.width ≡ 0) → new ≡ old
  pub there : old.is_on ≡ true → IsTakenAway written old new
