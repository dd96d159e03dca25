-- For proofs alone. Beside `Migrations`, which has what a reader needs.
use Rattle.std.specs.Prelude.{Bool, true, false}
use Rattle.mk_plan.specs.declared.Entry.{Entry}
use Rattle.mk_plan.specs.declared.Entry.TheVariants as entries

-- the entry is a message
abbrev pub is_message : Entry → Bool
is_message (entries.Sent s item) = false
is_message (entries.Got s m) = true
