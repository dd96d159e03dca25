-- Answers to the goals of `message::object_of` that the prover leaves.
use Rattle.std.proofs.Common.{sym}
use Rattle.mk_message_plain.proofs.Messages.{empty_content, empty_text}
use Rattle.mk_message_plain.proofs.message.object_of.Goals as goal

pub returns-then-is_text-clause-text : goal.returns-then-is_text-clause-text
returns-then-is_text-clause-text c = empty_text c.args.rest.now c.new.result (sym c.if-is_text.ensures) c.new.ensures

pub returns-then-is_text-clause-content : goal.returns-then-is_text-clause-content
returns-then-is_text-clause-content c = empty_content c.new.result c.new.ensures
