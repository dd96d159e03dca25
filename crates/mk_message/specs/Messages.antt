-- The message that a payload has, or the number of the first test that it fails.
use Rattle.std.specs.Prelude.{ℕ, ◌^◌, ℤ, pos, ◌&&◌, List, [], ◌∷◌, Option, Some, None, option_map, option_and_then, Result, Ok, Err, int_le, int_lt, nat_abs, if◌then◌else◌}
use Rattle.std.specs.Ordering.{int_eq}
use Rattle.mk_base.specs.declared.json.Json.{Json}
use Rattle.mk_base.specs.Trees.{whole_in, text_in, items_in, is_object}
use Rattle.mk_plan.specs.declared.Message.{Message}
use Rattle.mk_plan.specs.declared.Message.TheVariants.{Ask, Success, Failure}
use Rattle.mk_json.specs.Parsed.{parsed}
use Rattle.mk_message.specs.declared.reading.Kind.{Kind}
use Rattle.mk_message.specs.declared.reading.Kind.TheVariants as kind

-- the items of a list of three
abbrev pub three_of : List Json → Option (Json × Json × Json)
three_of [] = None
three_of (a ∷ []) = None
three_of (a ∷ b ∷ []) = None
three_of (a ∷ b ∷ c ∷ []) = Some (a, b, c)
three_of (a ∷ b ∷ c ∷ d ∷ more) = None

-- the tree is a list of three
abbrev pub three_in : Json → Option (Json × Json × Json)
three_in tree = option_and_then three_of (items_in tree)

-- which kind of message a number stands for
abbrev pub kind_numbered : ℤ → Option Kind
kind_numbered n = if int_eq n (pos 0) then Some kind.Request else if int_eq n (pos 1)
    then Some kind.Success else if int_eq n (pos 2) then Some kind.Failure else None

-- the tree is 0, 1 or 2
abbrev pub kind_in : Json → Option Kind
kind_in tree = option_and_then kind_numbered (whole_in tree)

-- the id of a number, which is from 0 to 2^63 − 1
abbrev pub id_numbered : ℤ → Option ℕ
id_numbered n = if int_le (pos 0) n && int_lt n (pos (2 ^ 63)) then Some (nat_abs n) else None

-- the tree is a whole number from 0 to 2^63 - 1
abbrev pub id_in : Json → Option ℕ
id_in tree = option_and_then id_numbered (whole_in tree)

-- the tree is a function's name, its positional arguments and an object of its keyword arguments
abbrev pub request_in : ℕ → Json → Option Message
request_in id tree = option_and_then (λ (p : Json × Json
    × Json). option_and_then
    (λ name. option_and_then (λ args. if is_object p.2 then Some (Ask id name args p.2)
    else None) (items_in p.1)) (text_in p.0)) (three_in tree)

-- the tree is what the content of such a message may be
abbrev pub content_in : Kind → ℕ → Json → Option Message
content_in kind.Request id tree = request_in id tree
content_in kind.Success id tree = Some (Success id tree)
content_in kind.Failure id tree = option_map (λ text. Failure id text) (text_in tree)

-- what follows a test that passes, and the test's number where it fails
abbrev pub tested : {A B : Type 0} → ℕ → Option A → (A → Result B ℕ) → Result B ℕ
tested number None next = Err number
tested number (Some x) next = next x

-- the tests of a tree, after the first: it is a list of three, its first item is a kind, its second
-- an id, and its third a content of that kind
abbrev pub message_in : Json → Result Message ℕ
message_in tree = tested 2 (three_in tree) (λ (p : Json × Json
    × Json). tested 3 (kind_in p.0)
    (λ kind. tested 4 (id_in p.1) (λ id. tested 5 (content_in kind id p.2) (λ m. Ok m))))

-- the tests of a payload, the first being that it is JSON
abbrev pub message_of : List ℕ → Result Message ℕ
message_of payload = tested 1 (parsed payload) message_in
