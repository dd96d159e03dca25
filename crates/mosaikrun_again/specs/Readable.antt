-- What of a run's journal may stand in a record.
use Rattle.std.specs.Prelude.{◌≡◌, ℕ, ◌≤◌, false, List, ◌∷◌, ◌++◌}
use Rattle.mk_base.specs.declared.SimNo.{SimNo}
use Rattle.mk_base.specs.Trees.{nesting}
use Rattle.mk_plan.specs.declared.Plan.{Plan}
use Rattle.mk_plan.specs.declared.Message.{Message}
use Rattle.mk_plan.specs.declared.Entry.{Entry}
use Rattle.mk_plan.specs.declared.Entry.TheVariants.{Got}
use Rattle.mk_message.specs.Written.{message_tree}
use Rattle.mk_scenario.specs.declared.parts.Scenario.{Scenario}
use Rattle.mk_run_crew.specs.Attempts.{Attempt}
use Rattle.mk_run_laws.specs.Handshake.{is_within}
use Rattle.mk_run.specs.declared.outcome.Outcome.{Outcome}
use Rattle.mk_run.specs.Ran.{HasRun}
use Rattle.mk_record_laws.specs.Readable.{IsReadable}

-- each message in the journal that came on a link nests no deeper than 126, its own list counted
abbrev pub IsShallow : Scenario → List Entry → Type 0
IsShallow S J = (H : List Entry) (s : SimNo) (m : Message) (more : List Entry)
    → J ≡ H ++ Got s m ∷ more → is_within S s.0 ≡ false → nesting (message_tree m) ≤ 126

-- then the plan and the journal of a run may stand in a record: each message that came on a link is
-- read of a payload, and each reply of a simulator within the program is read of its own text
abbrev pub RunsAreReadable : Type 0
RunsAreReadable = (A : Attempt) (P : Plan) (J : List Entry) (faults new_faults : ℕ)
    (end : Outcome) → HasRun A P J faults new_faults end → IsShallow A.scenario J
    → IsReadable P J
