-- The laws of logs and journals that a run rests on.
use Rattle.std.specs.Prelude.{◌≡◌, ℕ, ◌<◌, ℤ, Bool, List, ◌∷◌, ◌++◌, map, length, slice_get, Some, true}
use Rattle.mk_base.specs.declared.LinkNo.{LinkNo}
use Rattle.mk_base.specs.declared.SimNo.{SimNo}
use Rattle.mk_base.specs.declared.tier.Tier.{Tier}
use Rattle.mk_base.specs.Lists.{BeginsWith}
use Rattle.mk_plan.specs.declared.Plan.{Plan}
use Rattle.mk_plan.specs.declared.Input.{Input}
use Rattle.mk_plan.specs.declared.Item.{Item}
use Rattle.mk_plan.specs.declared.Item.TheVariants.{Step}
use Rattle.mk_plan.specs.declared.Message.{Message}
use Rattle.mk_plan.specs.declared.Entry.{Entry}
use Rattle.mk_plan.specs.declared.Entry.TheVariants.{Sent}
use Rattle.mk_plan.specs.Plans.{sim_count}
use Rattle.mk_plan.specs.Sequential.{Messages, sequential, run_items, all_ended}
use Rattle.mk_plan.specs.Journals.{view, sent, got, bare}
use Rattle.mk_plan.specs.Ready.{IsReady, IsDone}
use Rattle.mk_plan.specs.Advance.{IsAdvance, IsPromised}
use Rattle.mk_plan.specs.Orderly.{IsOrderlySoFar}
use Rattle.mk_plan.specs.Agreement.{Continues}
use Rattle.mk_scenario.specs.declared.parts.Scenario.{Scenario}
use Rattle.mk_outside.specs.Counts.{HasRisen}
use Rattle.mk_outside.specs.declared.fleet.LogEntry.{LogEntry}
use Rattle.mk_launch.specs.Starts.{places}
use Rattle.mk_run_laws.specs.Exchanges.{Exchange}
use Rattle.mk_run_laws.specs.Hearing.{messages_heard, rest_heard, Takes}
use Rattle.mk_run_laws.specs.Handshake.{setup_count, sim_link, is_within}
use Rattle.mk_run_laws.specs.Kinds.{Replies, AnswersByKind, KeepsToKinds, RepliesAreRight, AreThere}
use Rattle.mk_run_laws.specs.Rests.{run_messages, RestsWell}
use Rattle.mk_run_laws.specs.Running.{RestsEnd}
use Rattle.mk_run_laws.specs.Runs.{IsPossible, IsPossibleUpTo, IsLinkOfRun, SaysRight}

-- however messages are taken off bytes, they are the first that were heard
abbrev pub TakenAreHeard : Type 0
TakenAreHeard = (held : List ℕ) (ms : List Message) (left : List ℕ) → Takes held ms left
    → (messages_heard held ≡ ms ++ messages_heard left) × (rest_heard held ≡ rest_heard left)

-- the journal J of a run of S over the log: it is orderly, it keeps to the kinds, and of each link
-- it got the first messages of the run
pub record IsJournalOf (X : Exchange) (P : Plan) (J : List Entry) : Type 0 where
  pub sims : sim_count P ≡ length X.scenario.sims
  pub orderly : IsOrderlySoFar IsReady IsAdvance P J
  pub kinds : KeepsToKinds X.reply (is_within X.scenario) P J
  pub links : (i : ℕ) (l : LinkNo) → sim_link X.started X.scenario i ≡ Some l
      → BeginsWith (run_messages X.scenario X.log i l) (got J i)

-- what is said on a run's link is right
abbrev pub LinksSayRight : Plan → Type 0
LinksSayRight P = (X : Exchange) (J : List Entry) → IsJournalOf X P J
    → (replies : Messages) (faults new_faults i : ℕ) (l : LinkNo) (items : List Item)
    → IsLinkOfRun X.scenario replies J X.log (HasRisen faults new_faults) i l items
    → SaysRight X (Some P) i l (setup_count X.scenario i) items true

-- where nothing is left to do, sequential execution over all messages that may come sends what was
-- sent, and cuts no turn
abbrev pub DoneIsAll : Plan → Type 0
DoneIsAll P = (X : Exchange) (J : List Entry) → IsJournalOf X P J → IsDone P (view P J)
    → (R : Messages) → IsPossible X P R
    → (i : ℕ) → (map bare (sent J i) ≡ run_items P R i) × (all_ended (sequential P R i) ≡ true)

-- where nothing is left to do, whatever goes on with the journal answers by kind
abbrev pub DoneAnswers : Plan → Type 0
DoneAnswers P = (X : Exchange) (J : List Entry) → IsJournalOf X P J → IsDone P (view P J)
    → (R : Messages) → Continues P J R → AnswersByKind X.reply (is_within X.scenario) P R

-- the max_advance of each Step is a promise over all messages that may come where its simulator
-- sends no more than it had before the Step
abbrev pub StepsPromise : Plan → Type 0
StepsPromise P = (X : Exchange) (J : List Entry) → IsJournalOf X P J
    → (H : List Entry) (s : SimNo) (x : Tier) (inputs : List Input) (advance : ℤ)
    (more : List Entry)
    → J ≡ H ++ Sent s (Step x inputs advance) ∷ more → s.0 < sim_count P → (R : Messages)
    → IsPossibleUpTo X P H s.0 R → IsPromised P R s.0 x.time advance

-- what stood at each rest of a run, said of the run's own journal
abbrev pub RestsAreWell : Type 0
RestsAreWell = (started : ℕ) (S : Scenario) (replies : Messages)
    → ((i : ℕ) (l : LinkNo) → sim_link started S i ≡ Some l → length (replies i) ≡ setup_count S i)
    → (P : Plan) (J : List Entry) (log : List LogEntry)
    → RestsEnd started S replies P J log → RestsWell started S P J log

-- where the kinds' replies are right, there are messages that answer by kind, whatever the other
-- simulators send
abbrev pub KindsAnswer : Plan → Type 0
KindsAnswer P = (reply : Replies) (within : ℕ → Bool) → RepliesAreRight reply within P
    → AreThere reply within P

-- the places of links that a start leaves are the simulators' links
abbrev pub PlacesAreLinks : Type 0
PlacesAreLinks = (started : ℕ) (S : Scenario) (i : ℕ) → i < length S.sims
    → slice_get (places started S.sims) i ≡ Some (sim_link started S i)
