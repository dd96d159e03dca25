-- The laws of a resumed run.
use Rattle.std.specs.Prelude.{◌≡◌, ◌⊎◌, ℕ, ◌<◌, ◌≤◌, Bool, true, List, length, take, map, Option, None, Some, IsSome}
use Rattle.mk_base.specs.declared.LinkNo.{LinkNo}
use Rattle.mk_base.specs.declared.SimNo.{SimNo}
use Rattle.mk_base.specs.Lists.{BeginsWith, IsIn}
use Rattle.mk_plan.specs.declared.Plan.{Plan}
use Rattle.mk_plan.specs.declared.Item.{Item}
use Rattle.mk_plan.specs.declared.Message.{Message}
use Rattle.mk_plan.specs.declared.Entry.{Entry}
use Rattle.mk_plan.specs.declared.Journal.{Journal}
use Rattle.mk_plan.specs.Plans.{sim_count, IsValidPlan}
use Rattle.mk_plan.specs.Ready.{IsDone}
use Rattle.mk_plan.specs.Orderly.{IsEager}
use Rattle.mk_plan.specs.Sequential.{Messages, run_items}
use Rattle.mk_plan.specs.Journals.{arrivals, view, sent, got, bare}
use Rattle.mk_plan.specs.Agreement.{Agrees, Continues}
use Rattle.mk_frame.specs.Frames.{IsTooLong}
use Rattle.mk_outside.specs.Counts.{HasRisen}
use Rattle.mk_outside.specs.declared.fleet.LogEntry.TheVariants.{Ended}
use Rattle.mk_outside.specs.Logs.{heard_on, said_on}
use Rattle.mk_session.specs.Fronts.{BeginsGarbled}
use Rattle.mk_record_read.specs.declared.saved.Saved.{Saved}
use Rattle.mk_record_read.specs.Seen.{came}
use Rattle.mk_plan_same.specs.Parts.{IsFirstOther}
use Rattle.mk_record_restored.specs.Restored.{IsFaulted, IsOtherIn}
use Rattle.mk_sched.specs.declared.faults.CoreFault.{CoreFault}
use Rattle.mk_sched.specs.Answers.{SomeReady}
use Rattle.mk_run_crew.specs.Attempts.{Attempt}
use Rattle.mk_setup.specs.Handshakes.{IsMade}
use Rattle.mk_run_laws.specs.Exchanges.{Exchange}
use Rattle.mk_run_laws.specs.Hearing.{messages_heard, rest_heard}
use Rattle.mk_run_laws.specs.Handshake.{setup_count, setup_requests, sim_link}
use Rattle.mk_run_laws.specs.Payloads.{AreFramed, link_payloads}
use Rattle.mk_run_laws.specs.Runs.{IsLinkOfRun, SaidWhole, run_frames}
use Rattle.mk_run_links.specs.Entries.{AreOn, IsRunLink}
use Rattle.mk_run_laws.specs.Laws.{IsJournalOf}
use Rattle.mk_run_crew.specs.Answers.{AreKindAnswers, answers_to}
use Rattle.mk_run.specs.declared.outcome.Outcome.TheVariants as outcome
use Rattle.mk_onlooker.specs.Showings.{AreInRange}
use Rattle.mk_run.specs.Ends.{IsRun, SetupRestsWell}
use Rattle.mk_run.specs.Laws.{ArePromised, HasSentAll, LinkSaysRight}
use Rattle.mk_resume_walk.specs.Talks.{free_items}
use Rattle.mk_resume_links.specs.Rests.{Counts}
use Rattle.mk_resume_loop.specs.declared.ending.ResumeEnd.{ResumeEnd}
use Rattle.mk_resume_loop.specs.declared.ending.ResumeEnd.TheVariants as ends
use Rattle.mk_resume_loop.specs.Resumed.{IsLongFree, QueuedAllAt}
use Rattle.mk_resume.specs.Resumed.{HasNotBegun, IsDiffering, SomeUntaken, IsResumed, ResumesAs}

-- what is said on a simulator's link: its handshake, the first of the items that were free to it,
-- and a stop, no payload being longer than a frame's may be; all of it, but where a write took
-- nothing or the count of faults rose; and these items begin what sequential execution sends it over
-- all messages that go on from the journal's
pub record LinkSaysFree (X : Exchange) (P : Plan) (J : List Entry) (heard : Counts)
    (risen : Type 0) (end : ResumeEnd) (i : ℕ) (l : LinkNo) : Type 0 where
  pub items : List Item
  pub free : BeginsWith (free_items J i (heard i)) items
  pub said : BeginsWith (run_frames X.scenario i items) (said_on l X.log)
  pub framed : AreFramed (link_payloads X.scenario i (setup_count X.scenario i) items true)
  pub whole : SaidWhole X.scenario X.log risen i l (setup_count X.scenario i) items
  pub all : QueuedAllAt end (free_items J i (heard i)) items
  pub as_executed : (R : Messages) → Continues P J R → i < sim_count P
      → BeginsWith (run_items P R i) (map bare items)

-- so it is on each link of a resumed run
abbrev pub ResumedRunsSayRight : Type 0
ResumedRunsSayRight = (X : Exchange) (P : Plan) (saved : Saved) (J : List Entry)
    (faults new_faults : ℕ) (end : ResumeEnd)
    → (r : IsResumed X P saved J faults new_faults end)
    → (i : ℕ) (l : LinkNo) → sim_link X.started X.scenario i ≡ Some l
    → LinkSaysFree X P J r.heard (HasRisen faults new_faults) end i l

-- what holds of a run at whose end nothing is left to do, but for its rests behind the handshake
pub record IsDoneRun (X : Exchange) (P : Plan) (J : List Entry) (risen : Type 0) : Type 0 where
  pub replies : Messages
  pub valid : IsValidPlan P
  pub journal : IsJournalOf X P J
  pub eager : IsEager P J
  pub agrees : Agrees P J
  pub within : length J ≤ P.entries
  pub in_range : AreInRange J
  pub heard : (i : ℕ) (l : LinkNo) → sim_link X.started X.scenario i ≡ Some l
      → IsLinkOfRun X.scenario replies J X.log risen i l (sent J i)
  pub links : (i : ℕ) (l : LinkNo) → sim_link X.started X.scenario i ≡ Some l
      → LinkSaysRight X P J risen outcome.Done i l
  pub setup_rests : SetupRestsWell X.started X.scenario X.log
  pub on_links : AreOn (IsRunLink X.started X.scenario) X.log
  pub shown : IsDone P (view P J)
  pub done : HasSentAll X P J
  pub promised : ArePromised X P J

-- a resumed run at whose end nothing is left to do is such a run
abbrev pub DoneResumedRunsAreRuns : Type 0
DoneResumedRunsAreRuns = (X : Exchange) (P : Plan) (saved : Saved) (J : List Entry)
    (faults new_faults : ℕ)
    → IsResumed X P saved J faults new_faults (ends.Outcome outcome.Done)
    → IsDoneRun X P J (HasRisen faults new_faults)

-- two journals of one plan: if they took the same messages in one order they are one; if each
-- simulator sent the same messages it was sent the same items, but for their max_advance
pub record AreAlike (P : Plan) (J K : List Entry) : Type 0 where
  pub one_order : arrivals J ≡ arrivals K → J ≡ K
  pub any_order : ((i : ℕ) → i < sim_count P → got J i ≡ got K i) → (i : ℕ) → i < sim_count P
      → map bare (sent J i) ≡ map bare (sent K i)

-- so it is of a run and a resumed run of one plan, at whose ends nothing is left to do
abbrev pub RunsAndResumedRunsAreAlike : Type 0
RunsAndResumedRunsAreAlike = (X : Exchange) (P : Plan) (J : List Entry) (faults new_faults : ℕ)
    → IsRun X P J faults new_faults outcome.Done
    → (Y : Exchange) (saved : Saved) (K : List Entry) (faults' new_faults' : ℕ)
    → IsResumed Y P saved K faults' new_faults' (ends.Outcome outcome.Done)
    → AreAlike P J K

-- nothing went wrong that a resumed run can show: each simulator sent its saved messages again and
-- then right ones, no limit was met, no link ended or brought no message, no item was too long, and
-- no count rose
pub record IsFaultless (X : Exchange) (P : Plan) (first J : List Entry) (heard : Counts)
    (faults new_faults : ℕ) : Type 0 where
  pub no_fault : (view P J).fault ≡ None
  pub roomy : length J ≡ P.entries
      → IsSome (view P J).owed
      ⊎ (SomeReady P J ⊎ SomeUntaken X.started X.scenario J heard X.log) → ⊥
  pub repeated : (sim : SimNo) (place : ℕ) (kept other : Message)
      → IsDiffering X first J heard sim place kept other → ⊥
  pub counts : HasRisen faults new_faults → ⊥
  pub open_links : (i : ℕ) (l : LinkNo) → sim_link X.started X.scenario i ≡ Some l
      → IsIn (Ended l) X.log → ⊥
  pub right_frames : (i : ℕ) (l : LinkNo) (n : ℕ) → sim_link X.started X.scenario i ≡ Some l
      → BeginsGarbled (rest_heard (heard_on l X.log)) n
      ⊎ IsTooLong n (rest_heard (heard_on l X.log)) → ⊥
  pub short_items : (i n : ℕ) → IsLongFree X.started X.scenario P J heard i n → ⊥

-- then it ended because nothing was left to do, or for want of memory
abbrev pub ResumedRunsComplete : Type 0
ResumedRunsComplete = (X : Exchange) (P : Plan) (saved : Saved) (J : List Entry)
    (faults new_faults : ℕ) (end : ResumeEnd)
    → (r : IsResumed X P saved J faults new_faults end)
    → IsFaultless X P r.first J r.heard faults new_faults
    → (end ≡ ends.Outcome outcome.Done) ⊎ (end ≡ ends.Outcome outcome.Mem)

-- each end of a record that isn't taken comes wherever its cause is there: the plan is another in
-- this part; or it is the same, and this entry is another, or the messages meet this fault, unless
-- memory was wanting. Another plan and another entry are said nowhere else
pub record EndsExactly (P : Plan) (saved : Saved) (end : ResumeEnd) : Type 0 where
  pub other_plan : (n : ℕ) → IsFirstOther P saved.plan (Some n) → end ≡ ends.OtherPlan n
  pub plan_said : (n : ℕ) → end ≡ ends.OtherPlan n → IsFirstOther P saved.plan (Some n)
  pub other_entry : (n : ℕ) → IsFirstOther P saved.plan None
      → IsOtherIn P (map came saved.arrivals) saved.asks n
      → (end ≡ ends.OtherEntry n) ⊎ (end ≡ ends.Outcome outcome.Mem)
  pub entry_said : (n : ℕ) → end ≡ ends.OtherEntry n → IsFirstOther P saved.plan None
      × IsOtherIn P (map came saved.arrivals) saved.asks n
  pub faulty : (J : List Entry) (f : CoreFault) → IsFirstOther P saved.plan None
      → IsFaulted P (map came saved.arrivals) J f
      → (end ≡ ends.Outcome (outcome.Core f)) ⊎ (end ≡ ends.Outcome outcome.Mem)

-- the handshake made a plan of answers, which of each simulator within the program are its kind's
-- replies, and on each link are the first messages that were heard, and over it the ends are those
pub record HasEndedExactly (A : Attempt) (saved : Saved) (end : ResumeEnd) : Type 0 where
  pub plan : Plan
  pub answers : List Message
  pub made : IsMade A.scenario A.ranks answers plan
  pub kinds : AreKindAnswers A.rows A.scenario answers
  pub heard : (i : ℕ) (l : LinkNo) → sim_link A.started A.scenario i ≡ Some l
      → take (setup_count A.scenario i) (messages_heard (heard_on l A.log))
      ≡ answers_to i (setup_requests A.scenario) answers
  pub exactly : EndsExactly plan saved end

-- so it is of each call, but where the handshake ended early
abbrev pub ResumeEndsExactly : Type 0
ResumeEndsExactly = (A : Attempt) (saved : Saved) (taken : Bool) (P : Option Plan)
    (J : Option Journal) (faults new_faults : ℕ) (end : ResumeEnd)
    → ResumesAs A saved taken P J faults new_faults end
    → HasNotBegun A (HasRisen faults new_faults) end ⊎ HasEndedExactly A saved end
