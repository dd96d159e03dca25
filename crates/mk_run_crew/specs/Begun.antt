-- What a crew that has begun stands for.
use Rattle.std.specs.Prelude.{◌≡◌, ℕ, ◌<◌, List, ◌++◌, ◌∷◌, length, Some, None}
use Rattle.mk_base.specs.declared.LinkNo.{LinkNo}
use Rattle.mk_outside.specs.declared.fleet.LogEntry.{LogEntry}
use Rattle.mk_outside.specs.declared.fleet.LogEntry.TheVariants.{Rest}
use Rattle.mk_run_crew.specs.Attempts.{Attempt}
use Rattle.mk_plan.specs.declared.Message.{Message}
use Rattle.mk_plan.specs.declared.Plan.{Plan}
use Rattle.mk_plan.specs.Plans.{IsValidPlan, first_id, sim_count}
use Rattle.mk_plan.specs.Sequential.{Messages}
use Rattle.mk_launch.specs.Starts.{places}
use Rattle.mk_run_laws.specs.Channels.{Channel}
use Rattle.mk_run_laws.specs.Crews.{channel_at}
use Rattle.mk_run_laws.specs.Handshake.{setup_requests, setup_count, sim_link}
use Rattle.mk_run_laws.specs.Rests.{IsWellInSetup}
use Rattle.mk_run_laws.specs.Running.{IsBegun}
use Rattle.mk_setup.specs.Handshakes.{IsMade}
use Rattle.mk_run_links.specs.Entries.{AreOn, IsRunLink}
use Rattle.mk_run_local.specs.Made as setups
use Rattle.mk_run_local.specs.Seen.{AreOf, sim_at}
use Rattle.mk_run_crew.specs.Answers.{answers_to, AreKindAnswers}
use Rattle.mk_run_crew.specs.Seen.{CrewSeen, crew_of, within_of}

-- the handshake is over: the plan is made of the answers to all requests, which were heard on the
-- links over the log, or are those of kinds; it is valid, has the scenario's simulators, and each
-- one's first id is how many requests it got; where the fleet rested, what was asked by then had
-- been said; each simulator within the program is what its setup made of it; there is no halt; no
-- link but the run's was read or written, no clock was read, and no nap was taken
pub record HasBegun (A : Attempt) (C : CrewSeen) (P : Plan) : Type 0 where
  pub answers : List Message
  pub made : IsMade A.scenario A.ranks answers P
  pub kinds : AreKindAnswers A.rows A.scenario answers
  pub replies : Messages
  pub told : (i : ℕ) (l : LinkNo) → sim_link A.started A.scenario i ≡ Some l
      → replies i ≡ answers_to i (setup_requests A.scenario) answers
  pub counts : (i : ℕ) (l : LinkNo) → sim_link A.started A.scenario i ≡ Some l
      → length (replies i) ≡ setup_count A.scenario i
  pub begun : IsBegun A.started A.scenario replies A.log (crew_of C)
  pub rests : (before after : List LogEntry) → A.log ≡ before ++ Rest ∷ after
      → IsWellInSetup A.started A.scenario before
  pub valid : IsValidPlan P
  pub sims : sim_count P ≡ length A.scenario.sims
  pub first : (i : ℕ) → i < length A.scenario.sims → first_id P i ≡ setup_count A.scenario i
  pub within : (i : ℕ) → sim_at (within_of C) i ≡ setups.made A.rows A.scenario i
  pub known : AreOf A.rows (within_of C)
  pub back : (i : ℕ) (w : Channel) → channel_at (crew_of C) i ≡ Some w → (l : LinkNo)
      × (sim_link A.started A.scenario i ≡ Some l)
  pub places : C.places ≡ places A.started A.scenario.sims
  pub halt : C.halt ≡ None
  pub on_links : AreOn (IsRunLink A.started A.scenario) A.log
