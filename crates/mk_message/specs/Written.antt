-- The payloads that the program writes on a link.
use Rattle.std.specs.Prelude.{ℕ, ◌^◌, pos, ◌==◌, ◌&&◌, nat_lt, Bool, true, List, [], ◌∷◌, map, codes, if◌then◌else◌}
use Rattle.std.specs.Fmt.{decimal, signed_decimal}
use Rattle.mk_base.specs.declared.json.Json as tree
use Rattle.mk_base.specs.declared.json.Json.{Json}
use Rattle.mk_base.specs.Lists.{same_text, text_order, put}
use Rattle.mk_base.specs.Texts.{quoted, list_text, object_text, text_of}
use Rattle.mk_base.specs.Trees as trees
use Rattle.mk_base.specs.Trees.{members_in, is_object, members_of}
use Rattle.mk_plan.specs.Report.{inputs_text}
use Rattle.mk_plan.specs.declared.Call.{Call}
use Rattle.mk_plan.specs.declared.Call.TheVariants.{Init, Create, SetupDone, Stop}
use Rattle.mk_plan.specs.declared.Item.{Item}
use Rattle.mk_plan.specs.declared.Item.TheVariants.{Step, GetData, Answer, Refuse}
use Rattle.mk_plan.specs.declared.Message.{Message}
use Rattle.mk_plan.specs.declared.Message.TheVariants.{Ask, Success, Failure}
use Rattle.mk_plan.specs.declared.Want.{Want}

-- a request: [0,ID,[NAME,[ARGUMENTS],KEYWORDS]]
abbrev pub request_text : ℕ → List ℕ → List (List ℕ) → List ℕ → List ℕ
request_text id name args named = list_text (codes "0" ∷ decimal id
    ∷ list_text (quoted name ∷ list_text args ∷ named ∷ []) ∷ [])

-- a success: [1,ID,CONTENT]
abbrev pub success_text : ℕ → List ℕ → List ℕ
success_text id content = list_text (codes "1" ∷ decimal id ∷ content ∷ [])

-- a failure: [2,ID,TEXT]
abbrev pub failure_text : ℕ → List ℕ → List ℕ
failure_text id text = list_text (codes "2" ∷ decimal id ∷ quoted text ∷ [])

-- the tree of a message: [TYPE,ID,CONTENT]
abbrev pub message_tree : Message → Json
message_tree (Ask id name args named) = tree.List (tree.Whole (pos 0) ∷ tree.Whole (pos id)
    ∷ tree.List (tree.Text name ∷ tree.List args ∷ named ∷ []) ∷ [])
message_tree (Success id content) = tree.List (tree.Whole (pos 1) ∷ tree.Whole (pos id) ∷ content
    ∷ [])
message_tree (Failure id text) = tree.List (tree.Whole (pos 2) ∷ tree.Whole (pos id)
    ∷ tree.Text text ∷ [])

-- the payload of a message
abbrev pub message_text : Message → List ℕ
message_text m = text_of (message_tree m)

-- the message has an id that a payload may have, and an object of keyword arguments
abbrev pub is_readable : Message → Bool
is_readable (Ask id name args named) = nat_lt id (2 ^ 63) && is_object named
is_readable (Success id content) = nat_lt id (2 ^ 63)
is_readable (Failure id text) = nat_lt id (2 ^ 63)

-- one more item in front of gathered ones: with those of its key, if they stand first
abbrev pub joined : {X : Type 0} → (X → List ℕ) → X → List (List ℕ × List X)
    → List (List ℕ × List X)
joined key x [] = (key x, x ∷ []) ∷ []
joined key x (g ∷ gs) = if same_text (key x) g.0 then (g.0, x ∷ g.1) ∷ gs
    else ((key x, x ∷ []) ∷ g ∷ gs)

-- sorted items, gathered by a key: each key once, with the items that have it
abbrev pub gathered : {X : Type 0} → (X → List ℕ) → List X → List (List ℕ × List X)
gathered key [] = []
gathered key (x ∷ xs) = joined key x (gathered key xs)

-- what is wanted: {EID:[ATTRIBUTE,..]}
abbrev pub wanted_text : List Want → List ℕ
wanted_text wants = object_text
    (map (λ (g : List ℕ × List Want). (g.0, list_text (map (λ w. quoted w.attr) g.1)))
    (gathered (λ w. w.eid) wants))

-- the text of a refusal, by the number of the test that fails, from 1 to 4
abbrev pub refusal_text : ℕ → List ℕ
refusal_text reason = if reason == 1 then codes "unknown function" else if reason == 2
    then codes "malformed request" else if reason == 3 then codes "unknown entity or attribute"
    else codes "no asynchronous connection"

-- the payload of an item; a Step and a GetData take this id, an Answer and a Refuse carry their own
abbrev pub item_text : ℕ → Item → List ℕ
item_text id (Step at inputs advance) = request_text id (codes "step") (signed_decimal at.time
    ∷ inputs_text inputs ∷ signed_decimal advance ∷ []) (codes "{}")
item_text id (GetData wanted) = request_text id (codes "get_data") (wanted_text wanted ∷ [])
    (codes "{}")
item_text id (Answer asked content) = success_text asked content
item_text id (Refuse asked reason) = failure_text asked (refusal_text reason)

-- members, by the texts of their values
abbrev pub texts_of : List (List ℕ × Json) → List (List ℕ × List ℕ)
texts_of ms = map (λ (m : List ℕ × Json). (m.0, text_of m.1)) ms

abbrev pub time_resolution : List ℕ × List ℕ
time_resolution = (codes "time_resolution", codes "1")

-- the time resolution put among members, in byte order of the names, in place of one of that name
abbrev pub with_resolution : List (List ℕ × List ℕ) → List (List ℕ × List ℕ)
with_resolution ms = put (λ (m n : List ℕ × List ℕ). text_order m.0 n.0) time_resolution ms

-- the parameters of a simulator, with the time resolution 1 among them, or alone where they are no
-- object
abbrev pub init_params : Json → List ℕ
init_params params = object_text (with_resolution (texts_of (members_of params)))

-- the whole numbers in a call's parameters are in range
abbrev pub is_call_in_range : Call → Bool
is_call_in_range (Init sim params) = trees.is_in_range params
is_call_in_range (Create num model params) = trees.is_in_range params
is_call_in_range SetupDone = true
is_call_in_range Stop = true

-- the payload of a request of the handshake, or of a stop
abbrev pub call_text : ℕ → Call → List ℕ
call_text id (Init sim params) = request_text id (codes "init") (quoted sim ∷ [])
    (init_params params)
call_text id (Create num model params) = request_text id (codes "create") (decimal num
    ∷ quoted model ∷ []) (text_of params)
call_text id SetupDone = request_text id (codes "setup_done") [] (codes "{}")
call_text id Stop = request_text id (codes "stop") [] (codes "{}")
