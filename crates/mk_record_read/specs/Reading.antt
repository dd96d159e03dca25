-- What a record's bytes say: a plan, the messages that came and, in version 2, the steps that were
-- asked for; or the first fault with its line.
use Rattle.std.specs.Prelude.{ℕ, ◌+◌, Bool, false, not, ◌&&◌, nat_le, nat_lt, pos, List, [], ◌∷◌, ◌++◌, length, option_and_then, Option, Some, None, is_none, is_some, unwrap_or, Result, Ok, Err, codes, ◌==◌, if◌then◌else◌}
use Rattle.std.specs.Fmt.{decimal}
use Rattle.std.specs.List.{slice_split, before_first, after_first, list_all}
use Rattle.mk_base.specs.declared.json.Json.{Json}
use Rattle.mk_base.specs.Lists.{same_text}
use Rattle.mk_base.specs.Trees.{items_in}
use Rattle.mk_base.specs.Numbers.{is_digit}
use Rattle.mk_plan.specs.declared.Plan.{Plan}
use Rattle.mk_plan.specs.Journals.{Arrival}
use Rattle.mk_json.specs.Parsed.{parsed}
use Rattle.mk_plan_check.specs.Tests.{first_bad}
use Rattle.mk_message.specs.Messages.{tested}
use Rattle.mk_record_read.specs.declared.kinds.LineKind.{LineKind}
use Rattle.mk_record_read.specs.declared.kinds.LineKind.TheVariants.{Head, Run, Sim, Model, Entity, Conn, Async, Ask, Got, End}
use Rattle.mk_record_read.specs.Fields.{misformed}
use Rattle.mk_record_read.specs.Lines.{with_run, with_sim, with_model, with_entity, with_conn, with_async, arrival_in, asked_in}
use Rattle.mk_record_read.specs.declared.saved.Asked.{Asked}

-- before the first `ask`, `got` or `end` line, the plan isn't valid
abbrev pub invalid : ℕ
invalid = 3

-- the number of `end` isn't the number of `ask` and `got` lines
abbrev pub miscounted : ℕ
miscounted = 4

-- the text ends before a whole `end` line
abbrev pub unended : ℕ
unended = 5

-- bytes stand after the `end` line
abbrev pub overlong : ℕ
overlong = 6

abbrev pub is_space : ℕ → Bool
is_space b = b == 32

-- a line's first word, and what stands after the space behind it
abbrev pub word_of : List ℕ → List ℕ
word_of line = before_first is_space line

abbrev pub rest_of : List ℕ → List ℕ
rest_of line = after_first is_space line

-- the kind of line that a word begins; `ask` lines stand in version 2 alone
abbrev pub kind_of_word : Bool → List ℕ → Option LineKind
kind_of_word second word = if same_text word (codes "mosaikrun") then Some Head
    else if same_text word (codes "run") then Some Run
    else if same_text word (codes "sim") then Some Sim
    else if same_text word (codes "model") then Some Model
    else if same_text word (codes "entity") then Some Entity
    else if same_text word (codes "conn") then Some Conn
    else if same_text word (codes "async") then Some Async
    else if same_text word (codes "got") then Some Got
    else if second && same_text word (codes "ask") then Some Ask
    else if same_text word (codes "end") then Some End else None

-- the place of a kind in the order of lines, from 1
abbrev pub place : LineKind → ℕ
place Head = 1
place Run = 2
place Sim = 3
place Model = 4
place Entity = 5
place Conn = 6
place Async = 7
place Ask = 8
place Got = 8
place End = 9

-- what stands in the lines so far: the place of the last one's kind (0 before the first), the plan,
-- the messages, and in version 2 the steps
pub record State : Type 0 where
  pub last : ℕ
  pub plan : Plan
  pub arrivals : List Arrival
  pub asks : Option (List Asked)

-- before any line
abbrev pub before_lines : State
before_lines = record {
  last = 0;
  plan = record {
    until = pos 0;
    loops = 0;
    entries = 0;
    sims = [];
    models = [];
    entities = [];
    conns = [];
    asyncs = [];
  };
  arrivals = [];
  asks = None;
}

-- a line of this kind may stand here: first the head, then `run`, then a `sim`, and from there on
-- no kind before that of the last line
abbrev pub may_stand : ℕ → LineKind → Bool
may_stand last kind = if nat_lt last 3 then place kind == last + 1 else nat_le last (place kind)

-- it is the first `ask`, `got` or `end` line
abbrev pub ends_plan : ℕ → LineKind → Bool
ends_plan last kind = nat_lt last 8 && nat_le 8 (place kind)

-- what a line makes of the lines before it
pub data Step : Type 0 where
  Going : State → Step
  Ended : Step
  Bad : ℕ → Step

-- a line that adds to the plan
abbrev pub planned : State → LineKind → Result Plan ℕ → Step
planned S kind (Ok P) = Going
    (record { last = place kind; plan = P; arrivals = S.arrivals; asks = S.asks })
planned S kind (Err n) = Bad n

-- a line that adds a message
abbrev pub arrived : State → Result Arrival ℕ → Step
arrived S (Ok a) = Going
    (record { last = place Got; plan = S.plan; arrivals = S.arrivals ++ a ∷ []; asks = S.asks })
arrived S (Err n) = Bad n

-- a line that adds a step
abbrev pub asked : State → List Asked → Result Asked ℕ → Step
asked S steps (Ok a) = Going
    (record {
      last = place Ask;
      plan = S.plan;
      arrivals = S.arrivals;
      asks = Some (steps ++ a ∷ []);
    })
asked S steps (Err n) = Bad n

-- the items of the list that a text of JSON is
abbrev pub items_read : List ℕ → Option (List Json)
items_read text = option_and_then items_in (parsed text)

-- decimal digits without sign or leading zero
abbrev pub is_number : List ℕ → Bool
is_number [] = false
is_number (b ∷ []) = is_digit b
is_number (b ∷ c ∷ bs) = nat_lt 48 b && list_all is_digit (b ∷ c ∷ bs)

-- the `end` line, by the number of messages and steps
abbrev pub end_step : ℕ → List ℕ → Step
end_step count text = if same_text text (decimal count) then Ended else if is_number text
    then Bad miscounted else Bad misformed

-- the plan with what a line of this kind adds to it
abbrev pub with_part : Bool → LineKind → Plan → List Json → Result Plan ℕ
with_part second Run P items = with_run P items
with_part second Sim P items = with_sim P items
with_part second Model P items = with_model P items
with_part second Entity P items = with_entity P items
with_part second Conn P items = with_conn second P items
with_part second Async P items = with_async P items
with_part second Head P items = Err misformed
with_part second Ask P items = Err misformed
with_part second Got P items = Err misformed
with_part second End P items = Err misformed

-- the lines so far are of version 2
abbrev pub is_second : State → Bool
is_second S = is_some S.asks

-- the steps so far
abbrev pub steps_in : State → List Asked
steps_in S = unwrap_or S.asks []

-- a line that adds to the plan, by what stands after its word
abbrev pub plan_step : State → LineKind → List ℕ → Step
plan_step S kind text = planned S kind
    (tested misformed (items_read text) (with_part (is_second S) kind S.plan))

-- the first line, by the version
abbrev pub head_step : State → List ℕ → Step
head_step S text = if same_text text (codes "1")
    then Going (record S { last = place Head; asks = None })
    else if same_text text (codes "2") then Going (record S { last = place Head; asks = Some [] })
    else Bad misformed

-- what a line of a kind that may stand here makes, by what stands after its word
abbrev pub part_step : State → LineKind → List ℕ → Step
part_step S Head text = head_step S text
part_step S Run text = plan_step S Run text
part_step S Sim text = plan_step S Sim text
part_step S Model text = plan_step S Model text
part_step S Entity text = plan_step S Entity text
part_step S Conn text = plan_step S Conn text
part_step S Async text = plan_step S Async text
part_step S Ask text = asked S (steps_in S)
    (tested misformed (items_read text) (asked_in S.plan (length S.arrivals)))
part_step S Got text = arrived S (tested misformed (items_read text) (arrival_in S.plan))
part_step S End text = end_step (length S.arrivals + length (steps_in S)) text

-- the tests of a line whose kind is known: the plan before the messages, whether it may stand here,
-- and its own
abbrev pub kind_step : State → LineKind → List ℕ → Step
kind_step S kind text = if ends_plan S.last kind && not (is_none (first_bad S.plan))
    then Bad invalid
    else if may_stand S.last kind then part_step S kind text else Bad misformed

abbrev pub known_step : State → Option LineKind → List ℕ → Step
known_step S None text = Bad misformed
known_step S (Some kind) text = kind_step S kind text

-- what a line makes of the lines before it
abbrev pub line_step : State → List ℕ → Step
line_step S line = known_step S (kind_of_word (is_second S) (word_of line)) (rest_of line)

-- a plan, the messages that came and, in version 2, the steps that were asked for; or a line, from
-- 1, and the number of its fault
pub data Reading : Type 0 where
  Said : Plan → List Arrival → Option (List Asked) → Reading
  Faulty : ℕ → ℕ → Reading

-- nothing may stand after the `end` line
abbrev pub closed : State → ℕ → List (List ℕ) → Reading
closed S line ([] ∷ []) = Said S.plan S.arrivals S.asks
closed S line pieces = Faulty (line + 1) overlong

-- the reading from a line on, the pieces being the lines that are left and, at last, what stands
-- after the last line feed
abbrev pub reading_from : State → ℕ → List (List ℕ) → Reading
reading_from S line [] = Faulty line unended
reading_from S line (piece ∷ []) = Faulty line unended
reading_from S line (piece ∷ next ∷ pieces) = elim
    (line_step S piece) [
      | Going T ↦ reading_from T (line + 1) (next
          ∷ pieces)
      | Ended ↦ closed S line (next ∷ pieces)
      | Bad n ↦ Faulty line n
    ]

-- a line feed
abbrev pub is_feed : ℕ → Bool
is_feed b = b == 10

-- what a record's bytes say
abbrev pub reading : List ℕ → Reading
reading bytes = reading_from before_lines 1 (slice_split is_feed bytes)
