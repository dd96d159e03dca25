-- What a simulator of a kind replies to the messages that it hears, up to a stop.
use Rattle.std.specs.Prelude.{ℕ, Bool, true, false, List, [], ◌∷◌, ◌++◌, map, Option, Some, None, option_to_list, if◌then◌else◌, codes}
use Rattle.mk_plan.specs.declared.Call.{Call}
use Rattle.mk_plan.specs.declared.Call.TheVariants.{Init, Create, SetupDone, Stop}
use Rattle.mk_plan.specs.declared.Item.{Item}
use Rattle.mk_plan.specs.declared.Message.{Message}
use Rattle.mk_plan.specs.declared.Message.TheVariants.{Ask, Success, Failure}
use Rattle.mk_message.specs.Written.{message_text}
use Rattle.mk_local.specs.Simulators.{Simulator}
use Rattle.mk_local.specs.Calls.{call_reply, after_call}
use Rattle.mk_local.specs.Replies.{item_reply, after_item}
use Rattle.mk_simapi.specs.Requests.{call_in, item_in}

-- the call is the stop
abbrev pub is_stop_call : Call → Bool
is_stop_call (Init sim params) = false
is_stop_call (Create num model params) = false
is_stop_call SetupDone = false
is_stop_call Stop = true

-- a request that is this call, or none, asks the simulator to stop
abbrev pub stops_by : Option Call → Bool
stops_by None = false
stops_by (Some call) = is_stop_call call

-- the message asks the simulator to stop
abbrev pub is_stop : Message → Bool
is_stop (Ask id name args named) = stops_by (call_in name args named)
is_stop (Success id content) = false
is_stop (Failure id text) = false

-- the reply to a request that asks for nothing that is known
abbrev pub unknown : ℕ → Message
unknown id = Failure id (codes "unknown request")

-- the reply to a request that asks for this item, or for none
abbrev pub item_answer : Simulator → ℕ → Option Item → Option Message
item_answer L id None = Some (unknown id)
item_answer L id (Some item) = item_reply L id item

-- the reply to one that is this call; where it is none, it asks for this item, or for none
abbrev pub call_answer : Simulator → ℕ → Option Item → Option Call → Option Message
call_answer L id item None = item_answer L id item
call_answer L id item (Some call) = call_reply L id call

-- the reply to a message: to a stop there is none, and replies are ignored
abbrev pub reply_to : Simulator → Message → Option Message
reply_to L (Ask id name args named) = call_answer L id (item_in name args named)
    (call_in name args named)
reply_to L (Success id content) = None
reply_to L (Failure id text) = None

-- the simulator after such requests
abbrev pub after_asked : Simulator → Option Item → Simulator
after_asked L None = L
after_asked L (Some item) = after_item L item

abbrev pub after_called : Simulator → Option Item → Option Call → Simulator
after_called L item None = after_asked L item
after_called L item (Some call) = after_call L call

-- the simulator after a message
abbrev pub after_message : Simulator → Message → Simulator
after_message L (Ask id name args named) = after_called L (item_in name args named)
    (call_in name args named)
after_message L (Success id content) = L
after_message L (Failure id text) = L

-- the replies to these messages in order, up to a stop
abbrev pub replies : Simulator → List Message → List Message
replies L [] = []
replies L (m ∷ ms) = if is_stop m then [] else option_to_list (reply_to L m)
    ++ replies (after_message L m) ms

-- and their payloads
abbrev pub payloads : Simulator → List Message → List (List ℕ)
payloads L ms = map message_text (replies L ms)
