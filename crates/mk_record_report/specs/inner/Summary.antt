-- For proofs alone. What is counted of each simulator's items while a summary is made.
use Rattle.std.specs.Prelude.{◌≡◌, ℕ, List, [], length, slice_get, Option, Some, None, if◌then◌else◌}
use Rattle.std.specs.List.{sum_by}
use Rattle.mk_plan.specs.declared.Item.{Item}
use Rattle.mk_plan.specs.declared.Item.TheVariants.{Step, GetData, Answer, Refuse}
use Rattle.mk_plan.specs.declared.Entry.{Entry}
use Rattle.mk_plan.specs.Journals.{sent, sent_to}
use Rattle.mk_plan.specs.Report.{is_step, steps_in, values_sent}
use Rattle.mk_record_report.specs.declared.tallies.Tally.{Tally}

-- how many input values the item has
abbrev pub value_count : Item → ℕ
value_count (Step at ins advance) = length ins
value_count (GetData wants) = 0
value_count (Answer id content) = 0
value_count (Refuse id reason) = 0

-- how many Steps are among these items, and how many input values over them
pub record IsTally (tally : Tally) (items : List Item) : Type 0 where
  pub steps : tally.steps ≡ length (steps_in items)
  pub values : tally.values ≡ values_sent items

-- a tally for each simulator, of what it was sent in these entries
pub record AreTallies (count : ℕ) (J : List Entry) (tallies : List Tally) : Type 0 where
  pub all : length tallies ≡ count
  pub each : (i : ℕ) (tally : Tally) → slice_get tallies i ≡ Some tally → IsTally tally (sent J i)

-- how many input values there are over all
abbrev pub all_values : List Tally → ℕ
all_values tallies = sum_by (λ (t : Tally). t.values) tallies

-- the item, if it is a Step
abbrev pub step_in : Option Item → Option Item
step_in None = None
step_in (Some item) = if is_step item then Some item else None

-- the Step that an entry sends to a simulator, if it is one
abbrev pub step_to : ℕ → Entry → Option Item
step_to i e = step_in (sent_to i e)

-- the second item, if there is one, else the first
abbrev pub later : Option Item → Option Item → Option Item
later first None = first
later first (Some item) = Some item

-- the Steps of a simulator, or none where no simulator is named
abbrev pub steps_at : (ℕ → List Item) → Option ℕ → List Item
steps_at items None = []
steps_at items (Some i) = steps_in (items i)
