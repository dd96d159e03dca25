-- The headline: whichever simulator answers first, a study comes out the same. What a call of the
-- program has said on the links of its simulators, and what it has put out, is what sequential
-- execution of the scenario's plan sends; in which order messages came stands nowhere in it.
use Rattle.std.specs.Prelude.{◌≡◌, ℕ, ◌⊎◌, true, List, [], map, option_map, take, Option, Some, None, IsSome, IfSome, Ok}
use Rattle.mk_base.specs.declared.LinkNo.{LinkNo}
use Rattle.mk_base.specs.Lists.{BeginsWith}
use Rattle.mk_plan.specs.declared.Plan.{Plan}
use Rattle.mk_plan.specs.declared.Item.{Item}
use Rattle.mk_plan.specs.declared.Entry.{Entry}
use Rattle.mk_plan.specs.declared.Message.{Message}
use Rattle.mk_plan.specs.Agreement.{IsFinished}
use Rattle.mk_plan.specs.Journals.{bare, sent}
use Rattle.mk_plan.specs.Plans.{IsValidPlan}
use Rattle.mk_plan.specs.Sequential.{Messages, run_items}
use Rattle.mk_outside.specs.Counts.{HasRisen}
use Rattle.mk_outside.specs.Folders.{with_file}
use Rattle.mk_outside.specs.Sinks.{appended}
use Rattle.mk_scenario.specs.declared.parts.Scenario.{Scenario}
use Rattle.mk_scenario.specs.Scenarios.{scenario_of}
use Rattle.mk_scenario_demo.specs.Demo.{demo_scenario}
use Rattle.mk_run_laws.specs.Handshake.{setup_count, setup_requests, sim_link}
use Rattle.mk_run_laws.specs.Hearing.{messages_heard}
use Rattle.mk_run_laws.specs.Laws.{IsJournalOf}
use Rattle.mk_run_laws.specs.Rests.{RestsWell}
use Rattle.mk_run_laws.specs.Runs.{IsPossible, SaidWhole, SaysRight, run_frames}
use Rattle.mk_outside.specs.declared.fleet.LogEntry.{LogEntry}
use Rattle.mk_outside.specs.Logs.{heard_on, said_on}
use Rattle.mk_run_links.specs.Entries.{AreOnOrOfClock, IsRunLink}
use Rattle.mk_run_crew.specs.declared.halt.Halt.{Halt}
use Rattle.mk_run_crew.specs.declared.halt.Halt.TheVariants as halts
use Rattle.mk_run_crew.specs.Answers.{AreKindAnswers, answers_to}
use Rattle.mk_run_crew.specs.Halted.{HasHalted}
use Rattle.mk_run.specs.Ends.{SetupRestsWell}
use Rattle.mk_run.specs.Laws.{ArePromised}
use Rattle.mk_setup.specs.Handshakes.{IsMade}
use Rattle.mk_setup.specs.Ranked.{AreRanksOf}
use Rattle.mk_record.specs.Texts.{record_text}
use Rattle.mosaikrun_words.specs.declared.request.Request.{Request}
use Rattle.mosaikrun_words.specs.declared.request.FileCommand.{FileCommand}
use Rattle.mosaikrun_words.specs.declared.request.Request.TheVariants.{Files, Run, Resume, Paced, Demo}
use Rattle.mosaikrun_run.specs.declared.sayings.Form.{Form}
use Rattle.mosaikrun_run.specs.declared.sayings.Form.TheVariants.{Report, Summary}
use Rattle.mosaikrun_run.specs.Outcomes.{Outside, attempt_in, exchange_in}
use Rattle.mosaikrun_run.specs.Sayings.{text_of}
use Rattle.mosaikrun_program.specs.Around.{Around, IsUntouched}
use Rattle.mosaikrun_program.specs.Commands.{AreHeld, IsAsked, HasBytes, IsOutcomeOf, read_by, target_of}
use Rattle.mosaikrun_program.specs.Resuming.{IsRightResume}
use Rattle.mosaikrun_program.specs.Pacing.{IsRightPaced}

-- messages of the simulators that may come: on each link those that were heard there, and whatever
-- goes on; of simulators within the program what their kinds answer
abbrev pub MayCome : Outside → Scenario → Plan → Messages → Type 0
MayCome O S P R = IsPossible (exchange_in O S) P R

-- what was said to simulator i on its link, by a call that ended with status n: the frames of the
-- first requests of its handshake, of items, and of a stop, or a beginning of these bytes, and none
-- has a payload longer than a frame's may be. The items, without max_advance, begin what sequential
-- execution of the plan sends it, over all messages that may come; at status 0 they are all of it.
-- Unless memory was wanting and nothing was said or heard on any link, all of these bytes were said,
-- but where the link's last write took nothing or the fleet's count of faults rose
pub record IsRightLink (O : Outside) (S : Scenario) (plan : Option Plan) (n i : ℕ)
    (l : LinkNo) : Type 0 where
  pub asked : ℕ
  pub items : List Item
  pub right : SaysRight (exchange_in O S) plan i l asked items true
  pub all : n ≡ 0 → (P : Plan) → plan ≡ Some P → (R : Messages) → MayCome O S P R
      → map bare items ≡ run_items P R i
  pub whole : ((n ≡ 8) × (O.log ≡ []) → ⊥)
      → SaidWhole S O.log (HasRisen O.faults O.new_faults) i l asked items

-- what was said to simulator i on its link begins the frames of its handshake, of the first items that
-- the journal sent it, and of a stop
pub record IsSaidBy (S : Scenario) (J : List Entry) (log : List LogEntry) (i : ℕ)
    (l : LinkNo) : Type 0 where
  pub items : List Item
  pub first : BeginsWith (sent J i) items
  pub said : BeginsWith (run_frames S i items) (said_on l log)

-- what the simulators were sent by this plan, which is valid, and that of the replies to their
-- handshake, with the ranks of the scenario; and by this journal, whose items were said on the
-- links, or the first of them, and which has the first messages that were heard. Each Step's
-- max_advance is a promise. Wherever the fleet was waited for: until all had set up, each request
-- was said up to the first whose reply hadn't come; from then on all messages heard were in the
-- journal, and all replies of simulators within the program, nobody was ready, and all that was
-- owed was said, in both cases but where a link's last write took nothing. At status 0 the items of
-- the journal are all that sequential execution sends over its messages; messages may come, and
-- over all that may, the output has grown by exactly the text of what sequential execution sends;
-- and the record of the plan and the journal was saved under the name that was given for it
pub record IsRightRunBy (C : Around) (form : Form) (S : Scenario) (saved : Option (List ℕ)) (n : ℕ)
    (P : Plan) : Type 0 where
  pub ranks : List ℕ
  pub ranked : AreRanksOf S ranks
  pub answers : List Message
  pub made : IsMade S ranks answers P
  pub valid : IsValidPlan P
  pub heard : (i : ℕ) (l : LinkNo) → sim_link C.outside.started S i ≡ Some l
      → take (setup_count S i) (messages_heard (heard_on l C.outside.log))
      ≡ answers_to i (setup_requests S) answers
  pub within : AreKindAnswers C.outside.kinds S answers
  pub journal : List Entry
  pub of_run : IsJournalOf (exchange_in C.outside S) P journal
  pub said : (i : ℕ) (l : LinkNo) → sim_link C.outside.started S i ≡ Some l
      → IsSaidBy S journal C.outside.log i l
  pub promised : ArePromised (exchange_in C.outside S) P journal
  pub setup_rests : SetupRestsWell C.outside.started S C.outside.log
  pub rests : RestsWell C.outside.started S P journal C.outside.log
  pub finished : n ≡ 0 → IsFinished P journal
  pub possible : n ≡ 0 → (R : Messages) × MayCome C.outside S P R
  pub text : n ≡ 0 → (R : Messages) → MayCome C.outside S P R
      → C.output.after ≡ appended (text_of form P (run_items P R)) C.output.before
  pub recorded : n ≡ 0 → (name : List ℕ) → saved ≡ Some name → C.folder.files_after
      ≡ option_map (with_file name (record_text P journal)) C.folder.files

-- the handshake ended early, for one of the causes of a halt, and for want of memory at status 8 alone
pub record HasHaltedAt (O : Outside) (S : Scenario) (n : ℕ) : Type 0 where
  pub ranks : List ℕ
  pub ranked : AreRanksOf S ranks
  pub halt : Halt
  pub halted : HasHalted (attempt_in O S ranks) (HasRisen O.faults O.new_faults) halt
  pub wanting : halt ≡ halts.Mem → n ≡ 8

-- a scenario was run, with a plan where its handshake came to one, and no link but those of its
-- simulators was read or written
pub record IsRightStudy (C : Around) (form : Form) (S : Scenario) (saved : Option (List ℕ))
    (n : ℕ) : Type 0 where
  pub plan : Option Plan
  pub there : n ≡ 0 → IsSome plan
  pub unplanned : plan ≡ None → HasHaltedAt C.outside S n
  pub links : (i : ℕ) (l : LinkNo) → sim_link C.outside.started S i ≡ Some l
      → IsRightLink C.outside S plan n i l
  pub on_links : AreOnOrOfClock (IsRunLink C.outside.started S) C.outside.log
  pub run : IfSome plan (IsRightRunBy C form S saved n)

-- nothing was run: nothing was said or heard on any link, the fleet's count of faults didn't rise,
-- nothing was put out, and no file was saved. The status is 3; 6, the folder's count of faults having
-- risen; or 8. What each of them came from, `ended` says
pub record NothingWasRun (C : Around) (n : ℕ) : Type 0 where
  pub untouched : IsUntouched C
  pub status : (n ≡ 3)
      ⊎ (((n ≡ 6) × HasRisen C.folder.faults C.folder.new_faults) ⊎ (n ≡ 8))

-- the file of this name, where the folder tells, has bytes that are a scenario, which was run
pub record IsRightRun (C : Around) (name : List ℕ) (saved : Option (List ℕ)) (n : ℕ) : Type 0 where
  pub bytes : List ℕ
  pub held : HasBytes C.folder.files name bytes
  pub scenario : Scenario
  pub read : scenario_of bytes ≡ Ok scenario
  pub study : IsRightStudy C Report scenario saved n

-- the output has grown by exactly the text; or where the text has a name, it was saved under that, all
-- other files being as before
abbrev pub IsPut : Around → Option (List ℕ) → List ℕ → Type 0
IsPut C None text = C.output.after ≡ appended text C.output.before
IsPut C (Some name) text = C.folder.files_after ≡ option_map (with_file name text) C.folder.files

-- a command's files, where the folder tells, have bytes of which this text was made, and that was put
-- out or saved
pub record IsRightText (C : Around) (command : FileCommand) : Type 0 where
  pub read : List (List ℕ)
  pub held : AreHeld C.folder.files (read_by command) read
  pub text : List ℕ
  pub made : IsOutcomeOf C.outside.kinds C.rules command read (Ok text)
  pub put : IsPut C (target_of command) text

-- a call that asks for this, and ended with status n, is right
abbrev pub IsRightFor : Around → ℕ → Request → Type 0
IsRightFor C n (Run scenario saved) = NothingWasRun C n ⊎ IsRightRun C scenario saved n
IsRightFor C n (Resume scenario recorded saved) = NothingWasRun C n
    ⊎ IsRightResume C scenario recorded saved n
IsRightFor C n (Paced scenario factor strict saved) = NothingWasRun C n
    ⊎ IsRightPaced C scenario factor strict saved n
IsRightFor C n (Demo size) = NothingWasRun C n ⊎ IsRightStudy C Summary (demo_scenario size) None n
IsRightFor C n (Files command) = n ≡ 0 → IsRightText C command

-- whatever the words of a call ask for, it is right
abbrev pub IsRightCall : Around → ℕ → Type 0
IsRightCall C n = (R : Request) → IsAsked C.words R → IsRightFor C n R
