-- Handshakes in which each request is answered.
use Rattle.std.specs.Prelude.{◌≡◌, ℕ, ◌<◌, ◌≤◌, List, [], ◌++◌, length, take, Some}
use Rattle.mk_base.specs.declared.LinkNo.{LinkNo}
use Rattle.mk_base.specs.Lists.{BeginsWith, IsIn}
use Rattle.mk_frame.specs.Frames.{frames_of}
use Rattle.mk_outside.specs.declared.fleet.LogEntry.{LogEntry}
use Rattle.mk_outside.specs.declared.fleet.LogEntry.TheVariants.{Ended}
use Rattle.mk_outside.specs.Logs.{heard_on, said_on}
use Rattle.mk_plan.specs.declared.Message.{Message}
use Rattle.mk_plan.specs.declared.Plan.{Plan}
use Rattle.mk_scenario.specs.declared.parts.Scenario.{Scenario}
use Rattle.mk_run_laws.specs.Handshake.{setup_count, setup_payloads, setup_requests, sim_link}
use Rattle.mk_run_laws.specs.Hearing.{messages_heard, rest_heard}
use Rattle.mk_run_laws.specs.Payloads.{AreFramed}
use Rattle.mk_setup.specs.Handshakes.{IsMade}
use Rattle.mk_run_crew.specs.Answers.{AreKindAnswers, answers_to}
use Rattle.mk_run_crew.specs.Attempts.{Attempt}

-- by these entries no message of simulator i came before its request: where more than k were heard,
-- more was said than the frames of the handshake's first k requests to it
abbrev pub ComeInTurn : Scenario → ℕ → LinkNo → List LogEntry → Type 0
ComeInTurn S i l log = (k : ℕ) → k ≤ setup_count S i → k < length (messages_heard (heard_on l log))
    → length (frames_of (take k (setup_payloads S i))) < length (said_on l log)

-- simulator i answers rightly on its link: its answers are the first messages that were heard
-- there, each of which came in its turn; nothing was heard behind the last message, the link didn't
-- end, and each request fits into a frame
pub record AnswersRightly (A : Attempt) (answers : List Message) (i : ℕ) (l : LinkNo) : Type 0 where
  pub heard : BeginsWith (messages_heard (heard_on l A.log))
      (answers_to i (setup_requests A.scenario) answers)
  pub in_turn : (before after : List LogEntry) → A.log ≡ before ++ after
      → ComeInTurn A.scenario i l before
  pub whole : rest_heard (heard_on l A.log) ≡ []
  pub lasts : IsIn (Ended l) A.log → ⊥
  pub framed : AreFramed (setup_payloads A.scenario i)

-- these answers make a plan; those of simulators within the program are their kinds', and the
-- others answer rightly
pub record IsAnswered (A : Attempt) : Type 0 where
  pub answers : List Message
  pub plan : Plan
  pub made : IsMade A.scenario A.ranks answers plan
  pub kinds : AreKindAnswers A.rows A.scenario answers
  pub links : (i : ℕ) (l : LinkNo) → sim_link A.started A.scenario i ≡ Some l
      → AnswersRightly A answers i l
