-- For proofs alone. What is kept of each simulator's items while a report is made.
use Rattle.std.specs.Prelude.{◌≡◌, ℕ, List, length, flat_map, slice_get, Some, if◌then◌else◌}
use Rattle.mk_plan.specs.declared.Item.{Item}
use Rattle.mk_plan.specs.declared.Entry.{Entry}
use Rattle.mk_plan.specs.Journals.{sent}
use Rattle.mk_plan.specs.Report.{line_of, is_step, steps_in}
use Rattle.mk_record_report.specs.declared.parts.Part.{Part}

-- the lines of these items, and how many Steps are among them
pub record IsPart (part : Part) (items : List Item) : Type 0 where
  pub lines : part.lines.items ≡ flat_map line_of items
  pub steps : part.steps ≡ length (steps_in items)

-- a part for each simulator, of what it was sent in these entries
pub record AreParts (count : ℕ) (J : List Entry) (parts : List Part) : Type 0 where
  pub all : length parts ≡ count
  pub each : (i : ℕ) (part : Part) → slice_get parts i ≡ Some part → IsPart part (sent J i)

-- how many Steps the item is
abbrev pub step_count : Item → ℕ
step_count item = if is_step item then 1 else 0
