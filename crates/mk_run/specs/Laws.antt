-- The laws of a run: what it said, what it promised, and where it waited.
use Rattle.std.specs.Prelude.{◌≡◌, ℕ, ◌<◌, ℤ, true, List, ◌∷◌, ◌++◌, map, Some, ⊤}
use Rattle.mk_base.specs.declared.LinkNo.{LinkNo}
use Rattle.mk_base.specs.declared.SimNo.{SimNo}
use Rattle.mk_base.specs.declared.tier.Tier.{Tier}
use Rattle.mk_plan.specs.declared.Plan.{Plan}
use Rattle.mk_plan.specs.declared.Input.{Input}
use Rattle.mk_plan.specs.declared.Item.{Item}
use Rattle.mk_plan.specs.declared.Item.TheVariants.{Step}
use Rattle.mk_plan.specs.declared.Entry.{Entry}
use Rattle.mk_plan.specs.declared.Entry.TheVariants.{Sent}
use Rattle.mk_plan.specs.Plans.{sim_count}
use Rattle.mk_plan.specs.Sequential.{Messages, sequential, run_items, all_ended}
use Rattle.mk_plan.specs.Journals.{sent, bare}
use Rattle.mk_plan.specs.Advance.{IsPromised}
use Rattle.mk_plan.specs.Agreement.{Agrees, Continues, IsFinished}
use Rattle.mk_outside.specs.Counts.{HasRisen}
use Rattle.mk_run_crew.specs.Attempts.{Attempt}
use Rattle.mk_run_laws.specs.Exchanges.{Exchange}
use Rattle.mk_run_laws.specs.Handshake.{setup_count, sim_link, is_within}
use Rattle.mk_run_laws.specs.Kinds.{AnswersByKind, RepliesAreRight}
use Rattle.mk_run_laws.specs.Rests.{RestsWell}
use Rattle.mk_run_laws.specs.Runs.{IsPossible, IsPossibleUpTo, SaysRight, SaidWhole}
use Rattle.mk_launch.specs.Ready.{IsPrepared}
use Rattle.mk_local.specs.Kinds.{name_of}
use Rattle.mk_sched.specs.declared.faults.CoreFault.{CoreFault}
use Rattle.mk_sched.specs.declared.faults.CoreFault.TheVariants.{Failed, LoopLimit, TooLong, Wrong}
use Rattle.mk_run_local.specs.Made.{kind_reply_of}
use Rattle.mk_run_crew.specs.Wholly.{is_wholly_within}
use Rattle.mk_run.specs.declared.outcome.Outcome.{Outcome}
use Rattle.mk_run.specs.declared.outcome.Outcome.TheVariants as outcome
use Rattle.mk_run.specs.Ends.{QueuedAll, IsRun}
use Rattle.mk_run.specs.Ran.{HasRun}

-- what is said on a simulator's link: its handshake, items that begin what sequential execution
-- sends it, and a stop; all of it, but where a write took nothing or the count of faults rose; and
-- the items are all of the journal's, unless one was too long or memory was wanting
pub record LinkSaysRight (X : Exchange) (P : Plan) (J : List Entry) (risen : Type 0) (end : Outcome)
    (i : ℕ) (l : LinkNo) : Type 0 where
  pub items : List Item
  pub right : SaysRight X (Some P) i l (setup_count X.scenario i) items true
  pub whole : SaidWhole X.scenario X.log risen i l (setup_count X.scenario i) items
  pub all : QueuedAll end (sent J i) items

-- where nothing is left to do, each simulator was sent all that sequential execution sends it over
-- whatever may still come, in which no turn is cut; whatever goes on with the journal answers by kind,
-- so there are such messages; and so it is over the journal's messages alone, each of which is used
pub record HasSentAll (X : Exchange) (P : Plan) (J : List Entry) : Type 0 where
  pub all : (R : Messages) → IsPossible X P R → (i : ℕ)
      → (map bare (sent J i) ≡ run_items P R i) × (all_ended (sequential P R i) ≡ true)
  pub answers : (R : Messages) → Continues P J R → AnswersByKind X.reply (is_within X.scenario) P R
  pub finished : IsFinished P J

-- no trigger from outside comes after a Step's time and at or before its max_advance, whatever may
-- still come where its simulator sends nothing more
abbrev pub ArePromised : Exchange → Plan → List Entry → Type 0
ArePromised X P J = (H : List Entry) (s : SimNo) (x : Tier) (inputs : List Input)
    (advance : ℤ) (more : List Entry) → J ≡ H ++ Sent s (Step x inputs advance) ∷ more
    → s.0 < sim_count P
    → (R : Messages) → IsPossibleUpTo X P H s.0 R
    → IsPromised P R s.0 x.time advance

-- what holds of a run: of its journal, of its links, of its end, of its promises, and of its rests
pub record IsRightRun (X : Exchange) (P : Plan) (J : List Entry) (risen : Type 0)
    (end : Outcome) : Type 0 where
  pub agrees : Agrees P J
  pub links : (i : ℕ) (l : LinkNo) → sim_link X.started X.scenario i ≡ Some l
      → LinkSaysRight X P J risen end i l
  pub done : end ≡ outcome.Done → HasSentAll X P J
  pub promised : ArePromised X P J
  pub rests : RestsWell X.started X.scenario P J X.log

-- every run is right
abbrev pub RunsAreRight : Type 0
RunsAreRight = (X : Exchange) (P : Plan) (J : List Entry) (faults new_faults : ℕ) (end : Outcome)
    → IsRun X P J faults new_faults end → IsRightRun X P J (HasRisen faults new_faults) end

-- in the plan of each run no reply of a simulator within the program is wrong
abbrev pub KindsFit : Type 0
KindsFit = (A : Attempt) (P : Plan) (J : List Entry) (faults new_faults : ℕ) (end : Outcome)
    → IsPrepared A.scenario (map name_of A.rows) → HasRun A P J faults new_faults end
    → RepliesAreRight (kind_reply_of A.rows A.scenario) (is_within A.scenario) P

-- a limit of the plan: that of loops within a time, or that of entries
abbrev pub IsLimit : CoreFault → Type 0
IsLimit (Wrong sim place cause) = ⊥
IsLimit (Failed sim place) = ⊥
IsLimit (LoopLimit sim time) = ⊤
IsLimit (TooLong entries) = ⊤

-- where all simulators are within the program, the core meets no fault but a limit
abbrev pub WithinRunsEnd : Type 0
WithinRunsEnd = (A : Attempt) (P : Plan) (J : List Entry) (faults new_faults : ℕ) (f : CoreFault)
    → IsPrepared A.scenario (map name_of A.rows) → is_wholly_within A.scenario ≡ true
    → HasRun A P J faults new_faults (outcome.Core f) → IsLimit f
