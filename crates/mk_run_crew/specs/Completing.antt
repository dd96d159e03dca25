-- When a handshake comes to its end, and when nothing goes wrong in it.
use Rattle.std.specs.Prelude.{◌≡◌, ℕ, ◌⊎◌, true, List, ◌++◌, Some}
use Rattle.mk_base.specs.declared.LinkNo.{LinkNo}
use Rattle.mk_base.specs.Lists.{IsIn}
use Rattle.mk_frame.specs.Frames.{IsTooLong}
use Rattle.mk_outside.specs.Counts.{HasRisen}
use Rattle.mk_outside.specs.declared.fleet.LogEntry.TheVariants.{Ended}
use Rattle.mk_outside.specs.Logs.{heard_on}
use Rattle.mk_run_crew.specs.Attempts.{Attempt}
use Rattle.mk_plan.specs.declared.Message.{Message}
use Rattle.mk_plan.specs.declared.Plan.{Plan}
use Rattle.mk_scenario.specs.Wellformed.{IsWellformed}
use Rattle.mk_session.specs.Fronts.{BeginsGarbled}
use Rattle.mk_run_laws.specs.Handshake.{Request, setup_requests, sim_link}
use Rattle.mk_run_laws.specs.Hearing.{rest_heard}
use Rattle.mk_setup.specs.declared.fault.SetupFault.{SetupFault}
use Rattle.mk_setup.specs.Handshakes.{IsMade}
use Rattle.mk_run_crew.specs.declared.halt.Halt.{Halt}
use Rattle.mk_run_crew.specs.declared.halt.Halt.TheVariants as halt
use Rattle.mk_run_crew.specs.Answered.{IsAnswered}
use Rattle.mk_run_crew.specs.Answers.{AreKindAnswers}
use Rattle.mk_run_crew.specs.Halted.{HasHalted, IsLongRequest, IsSetupFault}
use Rattle.mk_run_crew.specs.Wholly.{is_wholly_within}

-- nothing went wrong that a handshake can show: no fault of what was heard, no risen count, no link
-- that ended or brought no message, and no request that is too long
pub record IsFaultlessHandshake (A : Attempt) (risen : Type 0) : Type 0 where
  pub right_replies : (fault : SetupFault) → IsSetupFault A fault → ⊥
  pub counts : risen → ⊥
  pub open_links : (i : ℕ) (l : LinkNo) → sim_link A.started A.scenario i ≡ Some l
      → IsIn (Ended l) A.log → ⊥
  pub right_frames : (i : ℕ) (l : LinkNo) (n : ℕ) → sim_link A.started A.scenario i ≡ Some l
      → BeginsGarbled (rest_heard (heard_on l A.log)) n
      ⊎ IsTooLong n (rest_heard (heard_on l A.log)) → ⊥
  pub short_requests : (queued later : List Request) (s n : ℕ)
      → setup_requests A.scenario ≡ queued ++ later
      → IsLongRequest A.started A.scenario queued later s n → ⊥

-- then it ends early for want of memory alone
abbrev pub HandshakesComplete : Type 0
HandshakesComplete = (A : Attempt) (faults new_faults : ℕ) (h : Halt)
    → HasHalted A (HasRisen faults new_faults) h
    → IsFaultlessHandshake A (HasRisen faults new_faults) → h ≡ halt.Mem

-- where the requests of a well-formed scenario's handshake are answered, and the count didn't rise,
-- nothing went wrong
abbrev pub AnsweredHandshakesAreFaultless : Type 0
AnsweredHandshakesAreFaultless = (A : Attempt) (faults new_faults : ℕ) → IsWellformed A.scenario
    → IsAnswered A → (HasRisen faults new_faults → ⊥)
    → IsFaultlessHandshake A (HasRisen faults new_faults)

-- where a well-formed scenario's simulators all run within the program, the answers of their kinds
-- make a plan, and the count didn't rise, nothing went wrong
abbrev pub WithinHandshakesAreFaultless : Type 0
WithinHandshakesAreFaultless = (A : Attempt) (answers : List Message) (P : Plan)
    (faults new_faults : ℕ) → IsWellformed A.scenario → is_wholly_within A.scenario ≡ true
    → IsMade A.scenario A.ranks answers P → AreKindAnswers A.rows A.scenario answers
    → (HasRisen faults new_faults → ⊥) → IsFaultlessHandshake A (HasRisen faults new_faults)
