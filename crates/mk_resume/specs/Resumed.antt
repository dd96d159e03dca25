-- What a resumed run means, over its whole log, and what each end shows.
use Rattle.std.specs.Prelude.{◌≡◌, ◌⊎◌, ℕ, ◌<◌, ◌≤◌, max, ⊤, true, false, Bool, List, [], ◌∷◌, ◌++◌, length, take, map, Option, Some, None, slice_get}
use Rattle.mk_base.specs.declared.LinkNo.{LinkNo}
use Rattle.mk_base.specs.declared.SimNo.{SimNo}
use Rattle.mk_base.specs.Lists.{BeginsWith, IsIn}
use Rattle.mk_plan.specs.declared.Plan.{Plan}
use Rattle.mk_plan.specs.declared.Journal.{Journal}
use Rattle.mk_plan.specs.declared.Item.{Item}
use Rattle.mk_plan.specs.declared.Message.{Message}
use Rattle.mk_plan.specs.declared.Entry.{Entry}
use Rattle.mk_plan.specs.Plans.{sim_count, first_id, IsValidPlan}
use Rattle.mk_plan.specs.Journals.{view, got, bare}
use Rattle.mk_plan.specs.Ready.{IsDone}
use Rattle.mk_plan.specs.Orderly.{IsEager}
use Rattle.mk_plan.specs.Agreement.{Agrees}
use Rattle.mk_plan.specs.Sequential.{Messages}
use Rattle.mk_frame.specs.Frames.{IsTooLong}
use Rattle.mk_scenario.specs.declared.parts.Scenario.{Scenario}
use Rattle.mk_outside.specs.Counts.{HasRisen}
use Rattle.mk_outside.specs.declared.fleet.LogEntry.{LogEntry}
use Rattle.mk_outside.specs.declared.fleet.LogEntry.TheVariants.{Ended, Rest}
use Rattle.mk_outside.specs.Logs.{heard_on}
use Rattle.mk_session.specs.Fronts.{BeginsGarbled}
use Rattle.mk_record_read.specs.declared.saved.Saved.{Saved}
use Rattle.mk_record_read.specs.Seen.{came}
use Rattle.mk_record_compare.specs.Differences.{IsOther}
use Rattle.mk_plan_same.specs.Parts.{IsFirstOther}
use Rattle.mk_record_restored.specs.Restored.{IsRestored, IsFaulted, IsOtherIn}
use Rattle.mk_sched.specs.declared.faults.CoreFault.{CoreFault}
use Rattle.mk_sched.specs.Answers.{IsLastFaulty}
use Rattle.mk_run_crew.specs.Attempts.{Attempt, exchange_of}
use Rattle.mk_setup.specs.Handshakes.{IsMade}
use Rattle.mk_run_laws.specs.Exchanges.{Exchange, exchange}
use Rattle.mk_run_laws.specs.Hearing.{messages_heard, rest_heard}
use Rattle.mk_run_laws.specs.Handshake.{setup_count, setup_requests, sim_link, is_within}
use Rattle.mk_run_laws.specs.Kinds.{Replies}
use Rattle.mk_run_laws.specs.Rests.{run_messages, AllSetUp, IsWellInSetup}
use Rattle.mk_run_laws.specs.Runs.{SaidWhole, SaysRight}
use Rattle.mk_run_links.specs.Entries.{AreOn, IsRunLink}
use Rattle.mk_run_crew.specs.Answers.{AreKindAnswers, answers_to}
use Rattle.mk_run.specs.declared.outcome.Outcome.{Outcome}
use Rattle.mk_run.specs.declared.outcome.Outcome.TheVariants as outcome
use Rattle.mk_onlooker.specs.Showings.{AreInRange}
use Rattle.mk_run.specs.Ends.{IsUngot, SetupRestsWell}
use Rattle.mk_run.specs.Ran.{HasNotRun}
use Rattle.mk_run.specs.Ran as ran
use Rattle.mk_resume_walk.specs.Talks.{free_items}
use Rattle.mk_resume_links.specs.Rests.{Counts, repeated, RestsWell}
use Rattle.mk_resume_links.specs.Runs.{IsLinkOfResumed}
use Rattle.mk_resume_loop.specs.declared.ending.ResumeEnd.{ResumeEnd}
use Rattle.mk_resume_loop.specs.declared.ending.ResumeEnd.TheVariants as ends
use Rattle.mk_resume_loop.specs.Resumed.{IsCutOff, IsFull, IsLongFree, IsRunWaiting, QueuedAllAt, fault_at}

-- all messages that were heard of simulator i were taken
pub record HasTakenAll (started : ℕ) (S : Scenario) (log : List LogEntry) (J : List Entry)
    (heard : Counts) (i : ℕ) (l : LinkNo) : Type 0 where
  pub linked : sim_link started S i ≡ Some l
  pub all : repeated J i (heard i) ≡ run_messages S log i l

-- the reply of a simulator within the program is awaited that has sent again all that the journal
-- has of it
pub record IsAwaitedWithin (S : Scenario) (J : List Entry) (heard : Counts) : Type 0 where
  pub sim : ℕ
  pub within : is_within S sim ≡ true
  pub caught : heard sim ≡ length (got J sim)
  pub more : heard sim < length (free_items J sim (heard sim))

-- a message came that the journal hasn't got: one of a link behind all that the journal has of it,
-- or a reply that is awaited within the program
abbrev pub SomeUntaken : ℕ → Scenario → List Entry → Counts → List LogEntry → Type 0
SomeUntaken started S J heard log = IsUngot started S J log ⊎ IsAwaitedWithin S J heard

-- message `place` of the simulator, from 0, isn't the saved one, which the journal has there: it
-- was heard on its link behind those that it had sent again, or is its kind's reply
pub record IsDiffering (X : Exchange) (first J : List Entry) (heard : Counts) (sim : SimNo)
    (place : ℕ) (kept other : Message) : Type 0 where
  pub at : place ≡ heard sim.0
  pub early : place < length (got first sim.0)
  pub had : slice_get (got J sim.0) place ≡ Some kept
  pub apart : kept ≡ other → ⊥
  pub on_link : (l : LinkNo) → sim_link X.started X.scenario sim.0 ≡ Some l
      → BeginsWith (run_messages X.scenario X.log sim.0 l) (repeated J sim.0 place ++ other ∷ [])
  pub inside : is_within X.scenario sim.0 ≡ true
      → other ≡ X.reply sim.0 (map bare (free_items J sim.0 place))

-- what the end of a resumed run with a journal shows
abbrev pub ShownBy : Exchange → Plan → List Entry → List Entry → Counts → ℕ → ℕ → ResumeEnd → Type 0
ShownBy X P first J heard faults new_faults (ends.Outcome outcome.Done) = IsDone P (view P J)
    × ((i : ℕ) → i < sim_count P → heard i ≡ length (got J i))
ShownBy X P first J heard faults new_faults (ends.Outcome (outcome.Setup f)) = ⊥
ShownBy X P first J heard faults new_faults (ends.Outcome (outcome.Core f)) = IsLastFaulty P J f
    ⊎ IsFull P J f (SomeUntaken X.started X.scenario J heard X.log)
ShownBy X P first J heard faults new_faults
    (ends.Outcome outcome.Fleet) = HasRisen faults new_faults
ShownBy X P first J heard faults new_faults (ends.Outcome (outcome.Gone i)) = (l : LinkNo)
    × HasTakenAll X.started X.scenario X.log J heard i.0 l × IsIn (Ended l) X.log
ShownBy X P first J heard faults new_faults (ends.Outcome (outcome.Garbled i n)) = (l : LinkNo)
    × HasTakenAll X.started X.scenario X.log J heard i.0 l
    × BeginsGarbled (rest_heard (heard_on l X.log)) n
ShownBy X P first J heard faults new_faults (ends.Outcome (outcome.LongFrame i n)) = (l : LinkNo)
    × HasTakenAll X.started X.scenario X.log J heard i.0 l
    × IsTooLong n (rest_heard (heard_on l X.log))
ShownBy X P first J heard faults new_faults
    (ends.Outcome (outcome.LongItem i n)) = IsLongFree X.started X.scenario P J heard i.0 n
ShownBy X P first J heard faults new_faults (ends.Outcome outcome.Mem) = ⊤
ShownBy X P first J heard faults new_faults (ends.OtherPlan n) = ⊥
ShownBy X P first J heard faults new_faults (ends.OtherEntry n) = ⊥
ShownBy X P first J heard faults new_faults
    (ends.Differs sim place kept other) = IsDiffering X first J heard sim place kept other

-- a resumed run with a plan and a journal, of a record with these messages and steps, over the
-- entries that it added to the log. `first` is the journal after the record's messages, which the
-- run's begins with. Each simulator has sent so many of the journal's messages again in this call
-- (`heard`), and the journal has of it as many as the record, or as were heard, whichever are more;
-- those of a simulator within the program are its kind's replies, each of which was awaited, an
-- item before it not being answered; and each simulator was sent what is free then, which is what
-- stands in the journal before its next message. The journal has no fault but one that the end
-- names, and no link but the run's was read or written
pub record IsResumed (X : Exchange) (P : Plan) (saved : Saved) (J : List Entry)
    (faults new_faults : ℕ) (end : ResumeEnd) : Type 0 where
  pub replies : Messages
  pub valid : IsValidPlan P
  pub sims : sim_count P ≡ length X.scenario.sims
  pub first : List Entry
  pub restored : IsRestored P (map came saved.arrivals) first
  pub same : IsOther (map came saved.arrivals) saved.asks first None
  pub begins : BeginsWith J first
  pub agrees : Agrees P J
  pub eager : IsEager P J
  pub within : length J ≤ P.entries
  pub in_range : AreInRange J
  pub heard : Counts
  pub counts : (i : ℕ) → length (got J i) ≡ max (length (got first i)) (heard i)
  pub kinds : (i n : ℕ) (m : Message) → is_within X.scenario i ≡ true → n < heard i
      → slice_get (got J i) n ≡ Some m
      → (m ≡ X.reply i (map bare (free_items J i n))) × (n < length (free_items J i n))
  pub links : (i : ℕ) (l : LinkNo) → sim_link X.started X.scenario i ≡ Some l → (items : List Item)
      × IsLinkOfResumed X.scenario replies J X.log (HasRisen faults new_faults) i l (heard i) items
      × QueuedAllAt end (free_items J i (heard i)) items
  pub rests : RestsWell (λ i. length (got first i)) X.started X.scenario P J X.log
  pub setup_rests : SetupRestsWell X.started X.scenario X.log
  pub on_links : AreOn (IsRunLink X.started X.scenario) X.log
  pub shown : ShownBy X P first J heard faults new_faults end
  pub fault : (view P J).fault ≡ fault_at end
  pub unfinished : IsCutOff end → IsRunWaiting P J heard

-- the handshake was made, the plan is the record's but for the limit of entries, and the record's
-- messages were taken: what came of it then
pub record HasResumed (A : Attempt) (saved : Saved) (P : Plan) (J : List Entry)
    (faults new_faults : ℕ) (end : ResumeEnd) : Type 0 where
  pub answers : List Message
  pub made : IsMade A.scenario A.ranks answers P
  pub kinds : AreKindAnswers A.rows A.scenario answers
  pub plans : IsFirstOther P saved.plan None
  pub first : (i : ℕ) → i < sim_count P → first_id P i ≡ setup_count A.scenario i
  pub run : IsResumed (exchange_of A) P saved J faults new_faults end
  pub told : (i : ℕ) (l : LinkNo) → sim_link A.started A.scenario i ≡ Some l
      → run.replies i ≡ answers_to i (setup_requests A.scenario) answers

-- the handshake was made, with this plan, and the run went no further: the plan is made of the
-- answers to all requests, and on each link the first messages that were heard are the answers to
-- the simulator's requests; there the whole handshake was said and a stop, but where a write took
-- nothing or the count of faults rose, and nothing else; where the fleet rested, not all had set
-- up; and no link but the run's was read or written
pub record HasRefused (A : Attempt) (P : Plan) (risen : Type 0) : Type 0 where
  pub answers : List Message
  pub made : IsMade A.scenario A.ranks answers P
  pub kinds : AreKindAnswers A.rows A.scenario answers
  pub replies : Messages
  pub replied : (i : ℕ) (l : LinkNo) → sim_link A.started A.scenario i ≡ Some l
      → take (setup_count A.scenario i) (messages_heard (heard_on l A.log)) ≡ replies i
  pub told : (i : ℕ) (l : LinkNo) → sim_link A.started A.scenario i ≡ Some l
      → replies i ≡ answers_to i (setup_requests A.scenario) answers
  pub valid : IsValidPlan P
  pub sims : sim_count P ≡ length A.scenario.sims
  pub says : (reply : Replies) (i : ℕ) (l : LinkNo) → sim_link A.started A.scenario i ≡ Some l
      → SaysRight (exchange A.started A.scenario reply A.log) None i l
      (setup_count A.scenario i) [] true
  pub whole : (i : ℕ) (l : LinkNo) → sim_link A.started A.scenario i ≡ Some l
      → SaidWhole A.scenario A.log risen i l (setup_count A.scenario i) []
  pub rests : (before after : List LogEntry) → A.log ≡ before ++ Rest ∷ after
      → IsWellInSetup A.started A.scenario before × (AllSetUp A.started A.scenario before → ⊥)
  pub on_links : AreOn (IsRunLink A.started A.scenario) A.log

-- why the record wasn't taken: its plan is another than this one; an entry of it isn't the
-- journal's that its messages make; or memory was wanting
abbrev pub IsRefusedBy : Plan → Saved → ResumeEnd → Type 0
IsRefusedBy P saved (ends.OtherPlan n) = IsFirstOther P saved.plan (Some n)
IsRefusedBy P saved (ends.OtherEntry n) = IsFirstOther P saved.plan None
    × IsOtherIn P (map came saved.arrivals) saved.asks n
IsRefusedBy P saved (ends.Outcome o) = IsFirstOther P saved.plan None × (o ≡ outcome.Mem)
IsRefusedBy P saved (ends.Differs sim place kept other) = ⊥

-- the plans are the same, and the record's messages met this fault of the core; the journal is the
-- one up to there
pub record HasFaultySaved (P : Plan) (saved : Saved) (J : List Entry)
    (end : ResumeEnd) : Type 0 where
  pub fault : CoreFault
  pub is : end ≡ ends.Outcome (outcome.Core fault)
  pub plans : IsFirstOther P saved.plan None
  pub faulted : IsFaulted P (map came saved.arrivals) J fault

-- the handshake ended early, or there was no memory for it
abbrev pub HasNotBegun : Attempt → Type 0 → ResumeEnd → Type 0
HasNotBegun A risen end = (o : Outcome) × (end ≡ ends.Outcome o) × HasNotRun A risen o

-- the run may have ended while its links were started: the fleet failed or memory was wanting, and
-- nothing was read or written
abbrev pub EndsAtStart : Option Plan → List LogEntry → ResumeEnd → Type 0
EndsAtStart plan log end = (o : Outcome) × (end ≡ ends.Outcome o) × ran.EndsAtStart plan log o

-- what a call of `resume` comes to. Where the record was taken, its plan and its journal are there;
-- where its messages met a fault of the core, so are they; and else they aren't, since its plan or
-- an entry is another, or memory was wanting, or the handshake ended early
abbrev pub ResumesAs : Attempt → Saved → Bool → Option Plan → Option Journal → ℕ → ℕ → ResumeEnd
    → Type 0
ResumesAs A saved true (Some P) (Some J) faults new_faults end = HasResumed A saved P J.entries
    faults new_faults end
ResumesAs A saved true (Some P) None faults new_faults end = ⊥
ResumesAs A saved true None J faults new_faults end = ⊥
ResumesAs A saved false (Some P) (Some J) faults new_faults end =
    HasFaultySaved P saved J.entries end × HasRefused A P (HasRisen faults new_faults)
ResumesAs A saved false (Some P) None faults new_faults end = ⊥
ResumesAs A saved false None (Some J) faults new_faults end = ⊥
ResumesAs A saved false None None faults new_faults end = ((P : Plan)
    × IsRefusedBy P saved end × HasRefused A P (HasRisen faults new_faults))
    ⊎ HasNotBegun A (HasRisen faults new_faults) end
