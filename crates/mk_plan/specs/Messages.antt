-- Which whole numbers a message may have.
use Rattle.std.specs.Prelude.{Bool, true, ◌&&◌}
use Rattle.std.specs.List.{list_all}
use Rattle.mk_base.specs.Trees.{is_in_range}
use Rattle.mk_plan.specs.declared.Message.{Message}
use Rattle.mk_plan.specs.declared.Message.TheVariants.{Ask, Success, Failure}

-- each whole number in the message, in its content or its arguments, is one that a tree may have
abbrev pub is_message_in_range : Message → Bool
is_message_in_range (Ask id name args named) = list_all is_in_range args && is_in_range named
is_message_in_range (Success id content) = is_in_range content
is_message_in_range (Failure id text) = true
