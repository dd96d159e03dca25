-- How a run ends that has a plan, what each end shows, and what a whole run means.
use Rattle.std.specs.Prelude.{◌≡◌, ℕ, ◌<◌, ◌≤◌, ◌⊎◌, ⊤, List, [], ◌∷◌, ◌++◌, length, true, Option, Some, None, IsSome}
use Rattle.mk_base.specs.declared.LinkNo.{LinkNo}
use Rattle.mk_base.specs.declared.SimNo.{SimNo}
use Rattle.mk_base.specs.Lists.{IsIn}
use Rattle.mk_plan.specs.declared.Plan.{Plan}
use Rattle.mk_plan.specs.declared.Item.{Item}
use Rattle.mk_plan.specs.declared.Message.{Message}
use Rattle.mk_plan.specs.declared.Entry.{Entry}
use Rattle.mk_plan.specs.declared.Entry.TheVariants.{Sent, Got}
use Rattle.mk_plan.specs.Plans.{first_id, IsValidPlan}
use Rattle.mk_plan.specs.Journals.{Fault, view, sent, got}
use Rattle.mk_plan.specs.Ready.{IsDone}
use Rattle.mk_plan.specs.Orderly.{IsEager}
use Rattle.mk_plan.specs.Sequential.{Messages, id_after}
use Rattle.mk_frame.specs.Frames.{limit, IsTooLong}
use Rattle.mk_message.specs.Written.{item_text}
use Rattle.mk_scenario.specs.declared.parts.Scenario.{Scenario}
use Rattle.mk_outside.specs.Counts.{HasRisen}
use Rattle.mk_outside.specs.declared.fleet.LogEntry.{LogEntry}
use Rattle.mk_outside.specs.declared.fleet.LogEntry.TheVariants.{Ended, Rest}
use Rattle.mk_outside.specs.Logs.{heard_on}
use Rattle.mk_session.specs.Fronts.{BeginsGarbled}
use Rattle.mk_sched.specs.declared.faults.CoreFault.{CoreFault}
use Rattle.mk_sched.specs.declared.faults.CoreFault.TheVariants.{TooLong}
use Rattle.mk_sched.specs.Answers.{IsLastFaulty, SomeOpen, SomeReady, fault_in}
use Rattle.mk_onlooker.specs.Showings.{AreInRange}
use Rattle.mk_run_laws.specs.Exchanges.{Exchange}
use Rattle.mk_run_laws.specs.Hearing.{rest_heard}
use Rattle.mk_run_laws.specs.Handshake.{sim_link, is_within}
use Rattle.mk_run_laws.specs.Rests.{run_messages, AllSetUp, IsWellInSetup, RestsWell}
use Rattle.mk_run_laws.specs.Runs.{IsLinkOfRun}
use Rattle.mk_run_laws.specs.Laws.{IsJournalOf}
use Rattle.mk_run_links.specs.Entries.{AreOn, IsRunLink}
use Rattle.mk_run.specs.declared.outcome.Outcome.{Outcome}
use Rattle.mk_run.specs.declared.outcome.Outcome.TheVariants as outcome

-- every item of the journal was queued; nothing is said of that where one was too long or memory was
-- wanting
abbrev pub QueuedAll : Outcome → List Item → List Item → Type 0
QueuedAll outcome.Done all queued = queued ≡ all
QueuedAll (outcome.Setup f) all queued = queued ≡ all
QueuedAll (outcome.Core f) all queued = queued ≡ all
QueuedAll outcome.Fleet all queued = queued ≡ all
QueuedAll (outcome.Gone i) all queued = queued ≡ all
QueuedAll (outcome.Garbled i n) all queued = queued ≡ all
QueuedAll (outcome.LongFrame i n) all queued = queued ≡ all
QueuedAll (outcome.LongItem i n) all queued = ⊤
QueuedAll outcome.Mem all queued = ⊤

-- a message of the run was heard on a link that the journal hasn't got
pub record IsUngot (started : ℕ) (S : Scenario) (J : List Entry)
    (log : List LogEntry) : Type 0 where
  pub sim : ℕ
  pub link : LinkNo
  pub linked : sim_link started S sim ≡ Some link
  pub message : Message
  pub later : List Message
  pub heard : run_messages S log sim link ≡ got J sim ++ message ∷ later

-- a request is open at a simulator within the program, which replies to each
pub record IsOpenWithin (S : Scenario) (P : Plan) (J : List Entry) : Type 0 where
  pub sim : ℕ
  pub within : is_within S sim ≡ true
  pub opened : (view P J).open_at sim ≡ None → ⊥

-- a message came that the journal hasn't got
abbrev pub IsMessageLeft : ℕ → Scenario → Plan → List Entry → List LogEntry → Type 0
IsMessageLeft started S P J log = IsUngot started S J log ⊎ IsOpenWithin S P J

-- some request is open, and nobody is ready
abbrev pub IsAwaiting : Plan → List Entry → Type 0
IsAwaiting P J = SomeOpen P J × (SomeReady P J → ⊥)

-- one entry more is needed: what is owed, a Step, or a message that is left where one was awaited
abbrev pub NeedsMore : Plan → List Entry → Type 0 → Type 0
NeedsMore P J left = IsSome (view P J).owed ⊎ (SomeReady P J ⊎ (left × IsAwaiting P J))

-- the journal is full, there is no other fault, and one entry more is needed
pub record IsFull (P : Plan) (J : List Entry) (f : CoreFault) (left : Type 0) : Type 0 where
  pub named : f ≡ TooLong P.entries
  pub full : length J ≡ P.entries
  pub no_fault : (view P J).fault ≡ None
  pub more : NeedsMore P J left

-- all messages of the run that were heard of simulator i were got
pub record HasGotAll (started : ℕ) (S : Scenario) (log : List LogEntry) (J : List Entry) (i : ℕ)
    (l : LinkNo) : Type 0 where
  pub linked : sim_link started S i ≡ Some l
  pub all : got J i ≡ run_messages S log i l

-- the journal's last item is one to i, which has a link, and its payload has n bytes, more than a
-- frame may have
pub record IsLongItem (started : ℕ) (S : Scenario) (P : Plan) (J : List Entry)
    (i n : ℕ) : Type 0 where
  pub before : List Entry
  pub sim : SimNo
  pub item : Item
  pub is : J ≡ before ++ Sent sim item ∷ []
  pub to : sim.0 ≡ i
  pub link : LinkNo
  pub linked : sim_link started S i ≡ Some link
  pub bytes : length (item_text (id_after (first_id P i) (sent before i)) item) ≡ n
  pub beyond : limit < n

-- what the outcome shows of the log, the plan and the journal
abbrev pub ShownBy : Exchange → Plan → List Entry → ℕ → ℕ → Outcome → Type 0
ShownBy X P J faults new_faults outcome.Done = IsDone P (view P J)
ShownBy X P J faults new_faults (outcome.Setup f) = ⊥
ShownBy X P J faults new_faults (outcome.Core f) = IsLastFaulty P J f
    ⊎ IsFull P J f (IsMessageLeft X.started X.scenario P J X.log)
ShownBy X P J faults new_faults outcome.Fleet = HasRisen faults new_faults
ShownBy X P J faults new_faults (outcome.Gone i) = (l : LinkNo)
    × HasGotAll X.started X.scenario X.log J i.0 l × IsIn (Ended l) X.log
ShownBy X P J faults new_faults (outcome.Garbled i n) = (l : LinkNo)
    × HasGotAll X.started X.scenario X.log J i.0 l
    × BeginsGarbled (rest_heard (heard_on l X.log)) n
ShownBy X P J faults new_faults (outcome.LongFrame i n) = (l : LinkNo)
    × HasGotAll X.started X.scenario X.log J i.0 l × IsTooLong n (rest_heard (heard_on l X.log))
ShownBy X P J faults new_faults (outcome.LongItem i n) = IsLongItem X.started X.scenario P J i.0 n
ShownBy X P J faults new_faults outcome.Mem = ⊤

-- the run was broken off: the fleet failed, or a link ended or brought no message
abbrev pub IsBrokenOff : Outcome → Type 0
IsBrokenOff outcome.Done = ⊥
IsBrokenOff (outcome.Setup f) = ⊥
IsBrokenOff (outcome.Core f) = ⊥
IsBrokenOff outcome.Fleet = ⊤
IsBrokenOff (outcome.Gone i) = ⊤
IsBrokenOff (outcome.Garbled i n) = ⊤
IsBrokenOff (outcome.LongFrame i n) = ⊤
IsBrokenOff (outcome.LongItem i n) = ⊥
IsBrokenOff outcome.Mem = ⊥

-- the fault of a journal that the outcome names: one of the core that isn't the limit of entries
abbrev pub fault_named : Outcome → Option Fault
fault_named outcome.Done = None
fault_named (outcome.Setup f) = None
fault_named (outcome.Core f) = fault_in f
fault_named outcome.Fleet = None
fault_named (outcome.Gone i) = None
fault_named (outcome.Garbled i n) = None
fault_named (outcome.LongFrame i n) = None
fault_named (outcome.LongItem i n) = None
fault_named outcome.Mem = None

-- at each rest before all had set up, what was asked by then had been said and nothing more had come
abbrev pub SetupRestsWell : ℕ → Scenario → List LogEntry → Type 0
SetupRestsWell started S log = (before after : List LogEntry) → log ≡ before ++ Rest ∷ after
    → (AllSetUp started S before → ⊥) → IsWellInSetup started S before

-- a run with a plan and a journal, over the entries that it added to the log: the plan is valid; the
-- journal is orderly and eager, keeps to the kinds, has at most as many entries as the plan allows,
-- and no fault but one that the outcome names; each link is that of the journal, and each rest is
-- right; the outcome shows its cause; where the run was broken off some request was open, and nobody
-- was ready; no link but the run's was read or written, no clock was read, and no nap was taken
pub record IsRun (X : Exchange) (P : Plan) (J : List Entry) (faults new_faults : ℕ)
    (end : Outcome) : Type 0 where
  pub replies : Messages
  pub valid : IsValidPlan P
  pub journal : IsJournalOf X P J
  pub eager : IsEager P J
  pub within : length J ≤ P.entries
  pub in_range : AreInRange J
  pub links : (i : ℕ) (l : LinkNo) → sim_link X.started X.scenario i ≡ Some l → (items : List Item)
      × IsLinkOfRun X.scenario replies J X.log (HasRisen faults new_faults) i l items
      × QueuedAll end (sent J i) items
  pub rests : RestsWell X.started X.scenario P J X.log
  pub setup_rests : SetupRestsWell X.started X.scenario X.log
  pub shown : ShownBy X P J faults new_faults end
  pub fault : (view P J).fault ≡ fault_named end
  pub unfinished : IsBrokenOff end → IsAwaiting P J
  pub on_links : AreOn (IsRunLink X.started X.scenario) X.log

-- nothing went wrong that a run can show
pub record IsFaultless (X : Exchange) (P : Plan) (J : List Entry)
    (faults new_faults : ℕ) : Type 0 where
  pub no_fault : (view P J).fault ≡ None
  pub roomy : length J ≡ P.entries
      → NeedsMore P J (IsMessageLeft X.started X.scenario P J X.log) → ⊥
  pub counts : HasRisen faults new_faults → ⊥
  pub open_links : (i : ℕ) (l : LinkNo) → sim_link X.started X.scenario i ≡ Some l
      → IsIn (Ended l) X.log → ⊥
  pub right_frames : (i : ℕ) (l : LinkNo) (n : ℕ) → sim_link X.started X.scenario i ≡ Some l
      → BeginsGarbled (rest_heard (heard_on l X.log)) n
      ⊎ IsTooLong n (rest_heard (heard_on l X.log)) → ⊥
  pub short_items : (i n : ℕ) → IsLongItem X.started X.scenario P J i n → ⊥

-- then it ended because nothing was left to do, or for want of memory
abbrev pub Completes : Type 0
Completes = (X : Exchange) (P : Plan) (J : List Entry) (faults new_faults : ℕ) (end : Outcome)
    → IsRun X P J faults new_faults end → IsFaultless X P J faults new_faults
    → (end ≡ outcome.Done) ⊎ (end ≡ outcome.Mem)
