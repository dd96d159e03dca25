-- What is known of a message whose payload is written plainly.
use Rattle.std.specs.Prelude.{◌≡◌, ℕ, ◌≤◌, List, true}
use Rattle.mk_base.specs.Proper.{is_proper}
use Rattle.mk_base.specs.Trees.{is_in_range, nesting}
use Rattle.mk_message.specs.Written.{message_text, message_tree}
use Rattle.mk_plan.specs.declared.Message.{Message}

-- the payload is the message's own, and its tree can be written
pub record IsWritten (m : Message) (payload : List ℕ) : Type 0 where
  pub text : payload ≡ message_text m
  pub proper : is_proper (message_tree m) ≡ true
  pub in_range : is_in_range (message_tree m) ≡ true
  pub shallow : nesting (message_tree m) ≤ 3
