-- The text of a record up to its last entry.
use Rattle.std.specs.Prelude.{ℕ, List, ◌++◌, flat_map}
use Rattle.mk_plan.specs.declared.Plan.{Plan}
use Rattle.mk_plan.specs.declared.Entry.{Entry}
use Rattle.mk_record_read.specs.Entries.{entries_of}
use Rattle.mk_record_read.specs.Texts.{entry_line, plan_text}

-- the lines of a plan and those of a journal: the text of their record without its `end` line
abbrev pub opening_text : Plan → List Entry → List ℕ
opening_text P J = plan_text P ++ flat_map entry_line (entries_of J)
