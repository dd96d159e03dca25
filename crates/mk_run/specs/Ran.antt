-- What a call of `run` comes to.
use Rattle.std.specs.Prelude.{◌≡◌, ◌⊎◌, ℕ, ◌<◌, List, [], Option, Some, None}
use Rattle.mk_base.specs.declared.LinkNo.{LinkNo}
use Rattle.mk_plan.specs.declared.Plan.{Plan}
use Rattle.mk_plan.specs.declared.Journal.{Journal}
use Rattle.mk_plan.specs.declared.Message.{Message}
use Rattle.mk_plan.specs.declared.Entry.{Entry}
use Rattle.mk_outside.specs.Counts.{HasRisen}
use Rattle.mk_outside.specs.declared.fleet.LogEntry.{LogEntry}
use Rattle.mk_run_crew.specs.Attempts.{Attempt, exchange_of}
use Rattle.mk_plan.specs.Plans.{first_id, sim_count}
use Rattle.mk_run_laws.specs.Handshake.{setup_count, setup_requests, sim_link}
use Rattle.mk_setup.specs.Handshakes.{IsMade}
use Rattle.mk_run_crew.specs.declared.halt.Halt.{Halt}
use Rattle.mk_run_crew.specs.Answers.{AreKindAnswers, answers_to}
use Rattle.mk_run_crew.specs.Halted.{HasHalted}
use Rattle.mk_run.specs.declared.outcome.Outcome.{Outcome}
use Rattle.mk_run.specs.declared.outcome.Outcome.TheVariants as outcome
use Rattle.mk_run.specs.Ends.{IsRun}
use Rattle.mk_run.specs.Outcomes.{outcome_of}

-- the handshake was made, and what came of the run then: the plan is made of the answers to all
-- requests, those of simulators within the program being their kinds' and those of links the replies
-- of the run, and each simulator's run begins behind its requests
pub record HasRun (A : Attempt) (P : Plan) (J : List Entry) (faults new_faults : ℕ)
    (end : Outcome) : Type 0 where
  pub answers : List Message
  pub made : IsMade A.scenario A.ranks answers P
  pub kinds : AreKindAnswers A.rows A.scenario answers
  pub first : (i : ℕ) → i < sim_count P → first_id P i ≡ setup_count A.scenario i
  pub run : IsRun (exchange_of A) P J faults new_faults end
  pub told : (i : ℕ) (l : LinkNo) → sim_link A.started A.scenario i ≡ Some l
      → run.replies i ≡ answers_to i (setup_requests A.scenario) answers

-- the handshake ended early, or there was no memory for the run
pub record HasNotRun (A : Attempt) (risen : Type 0) (end : Outcome) : Type 0 where
  pub halt : Halt
  pub is : end ≡ outcome_of halt
  pub halted : HasHalted A risen halt

-- the run may have ended while its links were started: there is no plan, the fleet failed or memory
-- was wanting, and nothing was read or written
abbrev pub EndsAtStart : Option Plan → List LogEntry → Outcome → Type 0
EndsAtStart plan log end = (plan ≡ None) × (log ≡ [])
    × ((end ≡ outcome.Fleet) ⊎ (end ≡ outcome.Mem))

-- a run with its plan and its journal, or with neither
abbrev pub RunsAs : Attempt → Option Plan → Option Journal → ℕ → ℕ → Outcome → Type 0
RunsAs A (Some P) (Some J) faults new_faults end = HasRun A P J.entries faults new_faults end
RunsAs A (Some P) None faults new_faults end = ⊥
RunsAs A None (Some J) faults new_faults end = ⊥
RunsAs A None None faults new_faults end = HasNotRun A (HasRisen faults new_faults) end
