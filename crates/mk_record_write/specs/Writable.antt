-- Which entries of a journal can be written into its record.
use Rattle.std.specs.Prelude.{Bool, true}
use Rattle.mk_plan.specs.declared.Entry.{Entry}
use Rattle.mk_plan.specs.declared.Entry.TheVariants.{Sent, Got}
use Rattle.mk_plan.specs.Messages.{is_message_in_range}

-- the numbers of its message, if it is one, are those that a payload may have
abbrev pub is_writable : Entry → Bool
is_writable (Sent s item) = true
is_writable (Got s m) = is_message_in_range m
