-- How far a run is: its Steps and their times.
use Rattle.std.specs.Prelude.{ℕ, ◌+◌, ◌*◌, ◌/◌, ℤ, List, length, filter_map, fold, Option, Some, None}
use Rattle.std.specs.Int.{int_max}
use Rattle.mk_plan.specs.declared.Entry.{Entry}
use Rattle.mk_plan.specs.declared.Entry.TheVariants.{Sent, Got}
use Rattle.mk_plan.specs.declared.Item.{Item}
use Rattle.mk_plan.specs.declared.Item.TheVariants.{Step, GetData, Answer, Refuse}
use Rattle.mk_progress.specs.declared.tally.Tally.{Tally}
use Rattle.mk_progress.specs.Numbers.{in_64_bits}

-- the time of an item, if it is a Step
abbrev pub item_time : Item → Option ℤ
item_time (Step at inputs max_advance) = Some at.time
item_time (GetData wanted) = None
item_time (Answer id content) = None
item_time (Refuse id reason) = None

-- the time of an entry, if it is a Step
abbrev pub step_time : Entry → Option ℤ
step_time (Sent s item) = item_time item
step_time (Got s m) = None

-- the times of the Steps among the entries
abbrev pub step_times : List Entry → List ℤ
step_times = filter_map step_time

-- the greatest of a time and these
abbrev pub latest : ℤ → List ℤ → ℤ
latest = fold int_max

-- the tally after these entries
abbrev pub tally_after : Tally → List Entry → Tally
tally_after tally fresh = record {
  time = latest tally.time (step_times fresh);
  steps = in_64_bits (tally.steps + length (step_times fresh));
}

-- how many Steps a second there were, of so many in so many milliseconds
abbrev pub rate : ℕ → ℕ → ℕ
rate steps passed = steps * 1000 / passed
