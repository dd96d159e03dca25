-- Records whose reading computes.
use Rattle.std.proofs.Common.{◌≡◌, refl}
use Rattle.std.specs.Prelude.{ℕ, List, [], ◌∷◌, ◌++◌, Some, None, codes, pos, true, false}
use Rattle.std.specs.Str.{is_utf8, chars}
use Rattle.mk_base.specs.declared.SimKind.TheVariants.{TimeBased, EventBased, Hybrid}
use Rattle.mk_base.specs.declared.tier.Via.TheVariants.{Plain, Shift}
use Rattle.mk_base.specs.declared.json.Json as json
use Rattle.mk_base.proofs.OnTrees.{trees_compute}
use Rattle.mk_plan.specs.declared.Plan.{Plan}
use Rattle.mk_plan.specs.declared.Message.TheVariants.{Ask, Success, Failure}
use Rattle.mk_plan.specs.declared.Item.TheVariants.{Step, Answer}
use Rattle.mk_plan.specs.declared.Entry.{Entry}
use Rattle.mk_plan.specs.declared.Entry.TheVariants.{Sent, Got}
use Rattle.mk_plan.specs.Journals.{Arrival, arrivals}
use Rattle.mk_record_read.specs.declared.saved.Asked.{Asked}
use Rattle.mk_record_read.specs.Entries.{entries_in, entries_of}
use Rattle.serde_json.proofs.OnLiterals.{serde_json_on_literals}
use Rattle.mk_record_read.specs.Reading.{Said, Faulty, reading}
use Rattle.mk_record_read.specs.Texts.{record_text}

-- a record of nine lines, of which two may differ, with something after them
abbrev lines_with : List ℕ → List ℕ → List ℕ → List ℕ → List ℕ
lines_with sim got end after = codes "mosaikrun 1\nrun [3,100,2000000]\n" ++ sim ++ codes "\nmodel [0,\"Count\",[\"out\"],false]\nentity [0,\"0\",[]]\n" ++ got ++ codes "\ngot [0,[1,4,2]]\ngot [0,[1,5,3]]\n" ++ end ++ after

abbrev sim_line : List ℕ
sim_line = codes "sim [\"A-0\",\"time-based\",3,0,[]]"

abbrev got_line : List ℕ
got_line = codes "got [0,[1,3,1]]"

abbrev nine_lines : List ℕ
nine_lines = lines_with sim_line got_line (codes "end 3") (codes "\n")

-- its plan: one simulator with one entity
abbrev counter : Plan
counter = record {
  until = pos 3;
  loops = 100;
  entries = 2000000;
  sims = record { id = codes "A-0"; kind = TimeBased; first_id = 3; rank = 0; initial = [] } ∷ [];
  models = record { sim = record { 0 = 0 }; name = codes "Count"; attrs = codes "out" ∷ []; any_inputs = false } ∷ [];
  entities = record { model = 0; eid = codes "0"; related = [] } ∷ [];
  conns = [];
  asyncs = [];
}

-- a reply that gives a next time
abbrev reply : ℕ → ℕ → Arrival
reply id next = record { sim = 0; message = Success id (json.Whole (pos next)) }

abbrev replies : List Arrival
replies = reply 3 1 ∷ reply 4 2 ∷ reply 5 3 ∷ []

pub reads_nine_lines : reading nine_lines ≡ Said counter replies None
unfolding serde_json_on_literals trees_compute is_utf8 chars
reads_nine_lines = refl

-- the same plan and messages in version 2, where three lines may differ
abbrev twelve_with : List ℕ → List ℕ → List ℕ → List ℕ
twelve_with first second end = codes "mosaikrun 2\nrun [3,100,2000000]\n" ++ sim_line ++ codes "\nmodel [0,\"Count\",[\"out\"],false]\nentity [0,\"0\",[]]\n" ++ first ++ got_line ++ second ++ codes "got [0,[1,4,2]]\nask [0,2,0,3]\ngot [0,[1,5,3]]\n" ++ end

abbrev twelve_lines : List ℕ
twelve_lines = twelve_with (codes "ask [0,0,0,3]\n") (codes "\nask [0,1,0,3]\n") (codes "end 6\n")

-- a step before which so many messages came
abbrev step : ℕ → ℕ → ℕ → Asked
step before time advance = record { before = before; sim = record { 0 = 0 }; at = record { time = pos time; tier = 0 }; max_advance = pos advance }

pub reads_twelve_lines : reading twelve_lines ≡ Said counter replies (Some (step 0 0 3 ∷ step 1 1 3 ∷ step 2 2 3 ∷ []))
unfolding serde_json_on_literals trees_compute is_utf8 chars
reads_twelve_lines = refl

pub steps_left_out : reading (twelve_with (codes "ask [0,0,0,2]\n") (codes "\n") (codes "end 5\n")) ≡ Said counter replies (Some (step 0 0 2 ∷ step 2 2 3 ∷ []))
unfolding serde_json_on_literals trees_compute is_utf8 chars
steps_left_out = refl

pub messages_alone_counted : reading (twelve_with (codes "ask [0,0,0,3]\n") (codes "\nask [0,1,0,3]\n") (codes "end 3\n")) ≡ Faulty 12 4
unfolding serde_json_on_literals trees_compute is_utf8 chars
messages_alone_counted = refl

pub a_step_of_nobody : reading (twelve_with (codes "ask [1,0,0,3]\n") (codes "\n") (codes "end 5\n")) ≡ Faulty 6 2
unfolding serde_json_on_literals trees_compute is_utf8 chars
a_step_of_nobody = refl

pub a_step_without_a_tier : reading (twelve_with (codes "ask [0,0,3]\n") (codes "\n") (codes "end 5\n")) ≡ Faulty 6 1
unfolding serde_json_on_literals trees_compute is_utf8 chars
a_step_without_a_tier = refl

pub no_steps_in_version_1 : reading (lines_with sim_line (codes "ask [0,0,0,3]") (codes "end 3") (codes "\n")) ≡ Faulty 6 1
unfolding serde_json_on_literals trees_compute is_utf8 chars
no_steps_in_version_1 = refl

-- an item of a Step, and the journal of the replay
abbrev asking : ℕ → Entry
asking time = Sent (record { 0 = 0 }) (Step (record { time = pos time; tier = 0 }) [] (pos 3))

abbrev answering : ℕ → ℕ → Entry
answering id next = Got (record { 0 = 0 }) (Success id (json.Whole (pos next)))

abbrev whole_run : List Entry
whole_run = asking 0 ∷ answering 3 1 ∷ asking 1 ∷ answering 4 2 ∷ asking 2 ∷ answering 5 3 ∷ []

pub writes_twelve_lines : record_text counter whole_run ≡ twelve_lines
unfolding trees_compute
writes_twelve_lines = refl

pub entries_of_twelve_lines : entries_in replies (step 0 0 3 ∷ step 1 1 3 ∷ step 2 2 3 ∷ []) ≡ entries_of whole_run
entries_of_twelve_lines = refl

pub one_message : reading (codes "mosaikrun 1\nrun [1,100,2000000]\nsim [\"A-0\",\"time-based\",3,0,[]]\nmodel [0,\"Count\",[\"out\"],false]\nentity [0,\"0\",[]]\ngot [0,[1,3,1]]\nend 1\n") ≡ Said (record counter { until = pos 1 }) (reply 3 1 ∷ []) None
unfolding serde_json_on_literals trees_compute is_utf8 chars
one_message = refl

pub without_the_last_feed : reading (lines_with sim_line got_line (codes "end 3") []) ≡ Faulty 9 5
unfolding serde_json_on_literals trees_compute is_utf8 chars
without_the_last_feed = refl

pub message_of_nobody : reading (lines_with sim_line (codes "got [7,[1,3,1]]") (codes "end 3") (codes "\n")) ≡ Faulty 6 2
unfolding serde_json_on_literals trees_compute is_utf8 chars
message_of_nobody = refl

pub rank_left_out : reading (lines_with (codes "sim [\"A-0\",\"time-based\",3,1,[]]") got_line (codes "end 3") (codes "\n")) ≡ Faulty 6 3
unfolding serde_json_on_literals trees_compute is_utf8 chars
rank_left_out = refl

pub another_count : reading (lines_with sim_line got_line (codes "end 2") (codes "\n")) ≡ Faulty 9 4
unfolding serde_json_on_literals trees_compute is_utf8 chars
another_count = refl

pub line_after_the_end : reading (lines_with sim_line got_line (codes "end 3") (codes "\n\n")) ≡ Faulty 10 6
unfolding serde_json_on_literals trees_compute is_utf8 chars
line_after_the_end = refl

pub empty_text : reading [] ≡ Faulty 1 5
empty_text = refl

pub other_version : reading (codes "mosaikrun 9\n") ≡ Faulty 1 1
other_version = refl

-- a plan with parts of each kind
abbrev pair : Plan
pair = record {
  until = pos 10;
  loops = 1;
  entries = 50;
  sims = record { id = codes "A-0"; kind = Hybrid; first_id = 0; rank = 0; initial = pos 0 ∷ pos 5 ∷ [] } ∷ record { id = codes "B-0"; kind = EventBased; first_id = 7; rank = 1; initial = [] } ∷ [];
  models = record { sim = record { 0 = 0 }; name = codes "M"; attrs = codes "a" ∷ codes "b" ∷ []; any_inputs = false } ∷ record { sim = record { 0 = 1 }; name = codes "N"; attrs = []; any_inputs = true } ∷ [];
  entities = record { model = 0; eid = codes "x\"y"; related = 1 ∷ [] } ∷ record { model = 1; eid = codes "0"; related = [] } ∷ [];
  conns = record { from = 0; from_attr = codes "a"; to = 1; to_attr = codes "c"; via = Plain; persistent = false; triggering = true; initial = None } ∷ record { from = 1; from_attr = codes "c"; to = 0; to_attr = codes "b"; via = Shift 30; persistent = false; triggering = false; initial = Some (codes "{\"k\":[1,null]}") } ∷ [];
  asyncs = record { from = record { 0 = 0 }; to = record { 0 = 1 } } ∷ [];
}

-- a step, a request and its answer, another simulator's step, a reply with a number that isn't
-- whole, and a failure
abbrev talk : List Entry
talk = Sent (record { 0 = 1 }) (Step (record { time = pos 2; tier = 1 }) [] (pos 9))
    ∷ Got (record { 0 = 1 }) (Ask 9 (codes "get_data") (json.Object ((codes "A-0.0", json.List (json.Text (codes "a") ∷ [])) ∷ []) ∷ []) (json.Object []))
    ∷ Sent (record { 0 = 1 }) (Answer 9 (codes "{}"))
    ∷ Got (record { 0 = 0 }) (Success 0 (json.List (json.Odd ∷ json.Null ∷ [])))
    ∷ Sent (record { 0 = 0 }) (Step (record { time = pos 5; tier = 0 }) [] (pos 0))
    ∷ Got (record { 0 = 1 }) (Failure 7 (codes "no")) ∷ []

abbrev steps : List Asked
steps = record { before = 0; sim = record { 0 = 1 }; at = record { time = pos 2; tier = 1 }; max_advance = pos 9 } ∷ record { before = 2; sim = record { 0 = 0 }; at = record { time = pos 5; tier = 0 }; max_advance = pos 0 } ∷ []

pub reads_what_is_written : reading (record_text pair talk) ≡ Said pair (arrivals talk) (Some steps)
unfolding serde_json_on_literals trees_compute is_utf8 chars
reads_what_is_written = refl
