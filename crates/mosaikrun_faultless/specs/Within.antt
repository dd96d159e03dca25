-- Scenarios that run within the program and meet no limit.
use Rattle.std.specs.Prelude.{◌≡◌, ℕ, true, List, map, None, Ok}
use Rattle.mk_plan.specs.declared.Message.{Message}
use Rattle.mk_plan.specs.declared.Plan.{Plan}
use Rattle.mk_plan.specs.Sequential.{Messages}
use Rattle.mk_plan.specs.declared.Entry.{Entry}
use Rattle.mk_plan_same.specs.Parts.{IsFirstOther}
use Rattle.mk_record.specs.Reading.{reading, Said}
use Rattle.mk_record.specs.Seen.{came}
use Rattle.mk_record_compare.specs.Differences.{IsOther}
use Rattle.mk_record_read.specs.declared.saved.Saved.{Saved}
use Rattle.mk_record_restored.specs.Restored.{IsRestored}
use Rattle.mk_scenario.specs.declared.parts.Scenario.{Scenario}
use Rattle.mk_scenario.specs.Scenarios.{scenario_of}
use Rattle.mk_scenario.specs.Wellformed.{IsWellformed}
use Rattle.mk_launch.specs.Ready.{IsPrepared}
use Rattle.mk_local.specs.declared.turn.Turn.{Turn}
use Rattle.mk_local.specs.Kinds.{name_of}
use Rattle.mk_setup.specs.Handshakes.{IsMade}
use Rattle.mk_run_laws.specs.Handshake.{is_within}
use Rattle.mk_run_laws.specs.Kinds.{AnswersByKind, KeepsToKinds}
use Rattle.mk_run_local.specs.Made.{kind_reply_of}
use Rattle.mk_run_crew.specs.Answers.{AreKindAnswers}
use Rattle.mk_run_crew.specs.Wholly.{is_wholly_within}
use Rattle.mosaikrun_check.specs.Runnable.{AreRanks}
use Rattle.mosaikrun_faultless.specs.Limits.{MeetsNoLimit}

-- the bytes are a scenario, well-formed as each that is read, which has ranks; its simulators are
-- all within the program and can be begun; the answers of their kinds make a plan, and sequential
-- execution of it over what the kinds reply meets no limit
pub record RunsWithin (kinds : List Turn) (bytes : List ℕ) : Type 0 where
  pub scenario : Scenario
  pub ranks : List ℕ
  pub read : scenario_of bytes ≡ Ok scenario
  pub wellformed : IsWellformed scenario
  pub ranked : AreRanks scenario ranks
  pub prepared : IsPrepared scenario (map name_of kinds)
  pub inside : is_wholly_within scenario ≡ true
  pub answers : List Message
  pub of_kinds : AreKindAnswers kinds scenario answers
  pub plan : Plan
  pub made : IsMade scenario ranks answers plan
  pub messages : Messages
  pub by_kind : AnswersByKind (kind_reply_of kinds scenario) (is_within scenario) plan messages
  pub limits : MeetsNoLimit plan messages

-- such bytes, and those of a record of a run of them: its plan is the scenario's, but for the limit
-- of entries; its messages, in their order, make a journal with all of its entries, in which each
-- message is the reply of its simulator's kind
pub record RecordsWithin (kinds : List Turn) (bytes recorded : List ℕ) : Type 0 where
  pub run : RunsWithin kinds bytes
  pub old : Saved
  pub old_read : reading recorded ≡ Said old.plan (map came old.arrivals) old.asks
  pub same_plan : IsFirstOther run.plan old.plan None
  pub journal : List Entry
  pub restored : IsRestored run.plan (map came old.arrivals) journal
  pub same_entries : IsOther (map came old.arrivals) old.asks journal None
  pub replies : KeepsToKinds (kind_reply_of kinds run.scenario) (is_within run.scenario) run.plan
      journal
