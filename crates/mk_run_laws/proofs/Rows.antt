-- Worked examples: messages that were heard, what a handshake says, and a run's payloads.
use Rattle.std.proofs.Common.{◌≡◌, pos, true, List, [], ◌∷◌, ◌++◌, Some, None, refl, codes}
use Rattle.std.specs.Str.{is_utf8, chars}
use Rattle.serde_json.proofs.OnLiterals.{serde_json_on_literals}
use Rattle.mk_base.proofs.OnTrees.{trees_compute}
use Rattle.mk_base.specs.declared.json.Json as j
use Rattle.mk_base.specs.Tiers.{moment}
use Rattle.mk_plan.specs.declared.Item.TheVariants.{Step, GetData, Refuse}
use Rattle.mk_plan.specs.declared.Message.TheVariants.{Success}
use Rattle.mk_plan.specs.declared.Entry.{Entry}
use Rattle.mk_plan.specs.declared.Entry.TheVariants.{Sent, Got}
use Rattle.mk_scenario.specs.declared.parts.Begin.TheVariants.{Command, Local}
use Rattle.mk_scenario.specs.declared.parts.Scenario.{Scenario}
use Rattle.mk_outside.specs.declared.fleet.LogEntry.TheVariants.{Heard, NotHeard, Said, NotSaid, Rest}
use Rattle.mk_outside.specs.Logs.{heard_on, last_write}
use Rattle.mk_run_laws.specs.Hearing.{first_frame, messages_heard, rest_heard}
use Rattle.mk_run_laws.specs.Handshake.{sim_link}
use Rattle.mk_run_laws.specs.Payloads.{link_payloads}
use Rattle.mk_run_laws.specs.Rests.{within, heard_counts}

-- a frame of ten bytes and the first byte of another
pub one_frame : first_frame (0 ∷ 0 ∷ 0 ∷ 10 ∷ codes "[1,0,null]" ++ 0 ∷ []) ≡ Some (codes "[1,0,null]", 0 ∷ [])
one_frame = refl

-- a header above the limit is no frame, nor is a part of one
pub long_header : first_frame (4 ∷ 0 ∷ 0 ∷ 1 ∷ []) ≡ None
long_header = refl

pub half_a_frame : first_frame (0 ∷ 0 ∷ 0 ∷ 10 ∷ codes "[1,0,") ≡ None
half_a_frame = refl

-- one message was heard, and the beginning of another frame
pub one_message : messages_heard (0 ∷ 0 ∷ 0 ∷ 10 ∷ codes "[1,0,null]" ++ (0 ∷ 0 ∷ [])) ≡ Success 0 j.Null ∷ []
unfolding serde_json_on_literals trees_compute is_utf8 chars
one_message = refl

-- frames behind one that has no message aren't read
pub garbled : rest_heard (0 ∷ 0 ∷ 0 ∷ 2 ∷ codes "{}" ++ (0 ∷ 0 ∷ 0 ∷ 10 ∷ codes "[1,0,null]")) ≡ 0 ∷ 0 ∷ 0 ∷ 2 ∷ codes "{}" ++ (0 ∷ 0 ∷ 0 ∷ 10 ∷ codes "[1,0,null]")
unfolding serde_json_on_literals trees_compute is_utf8 chars
garbled = refl

-- a counter that is a child program, and one within the program
abbrev pub two_counters : Scenario
two_counters = record {
  until = pos 3;
  loops = 100;
  entries = 2000000;
  sims = record { id = codes "A-0"; begin = Local (codes "counter"); params = j.Object []; initial = [] }
      ∷ record { id = codes "B-0"; begin = Command (codes "b"); params = j.Object ((codes "step", j.Whole (pos 1)) ∷ []); initial = [] } ∷ [];
  groups = record { id = codes "g"; sim = record { 0 = 1 }; model = codes "Count"; num = 1; params = j.Object ((codes "start", j.Whole (pos 0)) ∷ []) } ∷ [];
  blocks = [];
}

-- the first has no link; the second has the fleet's next one
pub no_link : sim_link 5 two_counters 0 ≡ None
unfolding trees_compute
no_link = refl

pub its_link : sim_link 5 two_counters 1 ≡ Some (record { 0 = 5 })
unfolding trees_compute
its_link = refl

-- what a run's first items say on its link
pub said_on_link : link_payloads two_counters 1 3 (Step (moment (pos 0)) [] (pos 3) ∷ GetData [] ∷ Refuse 9 1 ∷ Step (moment (pos 1)) [] (pos 3) ∷ []) true
    ≡ codes "[0,0,[\"init\",[\"B-0\"],{\"step\":1,\"time_resolution\":1}]]" ∷ codes "[0,1,[\"create\",[1,\"Count\"],{\"start\":0}]]" ∷ codes "[0,2,[\"setup_done\",[],{}]]"
    ∷ codes "[0,3,[\"step\",[0,{},3],{}]]" ∷ codes "[0,4,[\"get_data\",[{}],{}]]" ∷ codes "[2,9,\"unknown function\"]" ∷ codes "[0,5,[\"step\",[1,{},3],{}]]" ∷ codes "[0,6,[\"stop\",[],{}]]" ∷ []
unfolding trees_compute
said_on_link = refl

-- one message of each is in the journal; of the second one none had been heard at the rest
abbrev journal : List Entry
journal = Sent (record { 0 = 0 }) (Step (moment (pos 0)) [] (pos 3)) ∷ Sent (record { 0 = 1 }) (Step (moment (pos 0)) [] (pos 3)) ∷ Got (record { 0 = 0 }) (Success 3 (j.Whole (pos 1))) ∷ Got (record { 0 = 1 }) (Success 3 (j.Whole (pos 1))) ∷ []

pub rested : within (heard_counts 5 two_counters (Heard (record { 0 = 5 }) [] ∷ [])) journal
    ≡ Sent (record { 0 = 0 }) (Step (moment (pos 0)) [] (pos 3)) ∷ Sent (record { 0 = 1 }) (Step (moment (pos 0)) [] (pos 3)) ∷ Got (record { 0 = 0 }) (Success 3 (j.Whole (pos 1))) ∷ []
unfolding trees_compute
rested = refl

-- logs
pub heard_is : heard_on (record { 0 = 5 }) (Heard (record { 0 = 5 }) (1 ∷ 2 ∷ []) ∷ Heard (record { 0 = 4 }) (7 ∷ []) ∷ Rest ∷ Heard (record { 0 = 5 }) (3 ∷ []) ∷ []) ≡ 1 ∷ 2 ∷ 3 ∷ []
heard_is = refl

pub last_is : last_write (record { 0 = 5 }) (Said (record { 0 = 5 }) (1 ∷ []) ∷ NotSaid (record { 0 = 5 }) ∷ NotHeard (record { 0 = 5 }) ∷ []) ≡ Some (NotSaid (record { 0 = 5 }))
last_is = refl
