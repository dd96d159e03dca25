-- For proofs alone. What a servant answers to a message.
use Rattle.std.specs.Prelude.{◌≡◌, ℕ, true, false, List, Option, None, Some}
use Rattle.mk_plan.specs.declared.Call.{Call}
use Rattle.mk_plan.specs.declared.Item.{Item}
use Rattle.mk_plan.specs.declared.Message.{Message}
use Rattle.mk_message.specs.Written.{message_text}
use Rattle.mk_local.specs.Simulators.{Simulator}
use Rattle.mk_local.specs.Calls.{call_reply}
use Rattle.mk_simapi.specs.Replies.{is_stop, is_stop_call, item_answer, reply_to}
use Rattle.mk_simapi.specs.declared.servant.Answer.{Answer}
use Rattle.mk_simapi.specs.declared.servant.Answer.TheVariants as answer

-- the payload of the reply, or that there is none, or that the message is a stop
abbrev pub AnswersAs : Answer → Simulator → Message → Type 0
AnswersAs (answer.Reply payload) L m = (is_stop m ≡ false) × (reply : Message)
    × (reply_to L m ≡ Some reply) × (payload.items ≡ message_text reply)
AnswersAs answer.Nothing L m = (is_stop m ≡ false) × (reply_to L m ≡ None)
AnswersAs answer.Stop L m = is_stop m ≡ true

-- the same of a call
abbrev pub CallsAs : Answer → Simulator → ℕ → Call → Type 0
CallsAs (answer.Reply payload) L id call = (is_stop_call call ≡ false) × (reply : Message)
    × (call_reply L id call ≡ Some reply) × (payload.items ≡ message_text reply)
CallsAs answer.Nothing L id call = ⊥
CallsAs answer.Stop L id call = is_stop_call call ≡ true

-- the payload of the reply to a request that asks for this item, or for none
abbrev pub IsItemPayload : List ℕ → Simulator → ℕ → Option Item → Type 0
IsItemPayload payload L id item = (reply : Message) × (item_answer L id item ≡ Some reply)
    × (payload ≡ message_text reply)
