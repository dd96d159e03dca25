-- What is said of how a run ended.
use Rattle.std.specs.Prelude.{◌≡◌, ℕ, Bool, true, false, List, Option, Some, None, Result, Ok, Err}
use Rattle.mk_plan.specs.declared.Plan.{Plan}
use Rattle.mk_plan.specs.declared.Entry.{Entry}
use Rattle.mk_plan.specs.Journals.{sent}
use Rattle.mk_plan.specs.declared.Item.{Item}
use Rattle.mk_plan.specs.Report.{report, summary}
use Rattle.mk_record.specs.Texts.{record_text}
use Rattle.mosaikrun_sayings.specs.Stops.{stop_of}
use Rattle.mosaikrun_sayings.specs.Sayings.{id_in, setup_ending}
use Rattle.mk_run_crew.specs.declared.halt.Halt.{Halt}
use Rattle.mk_run_crew.specs.declared.halt.Halt.TheVariants as halt
use Rattle.mk_run.specs.declared.outcome.Outcome.{Outcome}
use Rattle.mk_run.specs.declared.outcome.Outcome.TheVariants as outcome
use Rattle.mk_run.specs.Outcomes.{outcome_of}
use Rattle.mosaikrun_endings.specs.declared.links.LinkFault.TheVariants.{Closed, Garbled, LongFrame}
use Rattle.mosaikrun_endings.specs.declared.ending.Ending.{Ending}
use Rattle.mosaikrun_endings.specs.declared.ending.Ending.TheVariants as ends
use Rattle.mosaikrun_run.specs.declared.sayings.Form.{Form}
use Rattle.mosaikrun_run.specs.declared.sayings.Form.TheVariants.{Report, Summary}

-- what is said of a halt, the simulators having these ids
abbrev pub halt_ending : List (List ℕ) → Halt → Ending
halt_ending ids (halt.Setup e) = setup_ending ids e
halt_ending ids halt.Fleet = ends.Fleet
halt_ending ids (halt.Gone sim) = ends.Link (id_in ids sim) Closed
halt_ending ids (halt.Garbled sim test) = ends.Link (id_in ids sim) (Garbled test)
halt_ending ids (halt.LongFrame sim n) = ends.Link (id_in ids sim) (LongFrame n)
halt_ending ids (halt.LongItem sim n) = ends.LongItem (id_in ids sim) n
halt_ending ids halt.Mem = ends.Mem

-- the outcome is that of a halt
abbrev pub IsHalt : Outcome → Type 0
IsHalt end = (h : Halt) × (end ≡ outcome_of h)

-- the text of what each simulator was sent, in this form
abbrev pub text_of : Form → Plan → (ℕ → List Item) → List ℕ
text_of Report P items = report P items
text_of Summary P items = summary P items

-- what is said of a run with this plan and journal: its text in this form where all is done, or why
-- there is none: a fault of the core, or what is said of a halt
abbrev pub saying_of : Form → List (List ℕ) → Plan → List Entry → Outcome → Result (List ℕ) Ending
saying_of form ids P J outcome.Done = Ok (text_of form P (sent J))
saying_of form ids P J (outcome.Core e) = Err (stop_of P J e)
saying_of form ids P J (outcome.Setup e) = Err (halt_ending ids (halt.Setup e))
saying_of form ids P J outcome.Fleet = Err (halt_ending ids halt.Fleet)
saying_of form ids P J (outcome.Gone sim) = Err (halt_ending ids (halt.Gone sim))
saying_of form ids P J (outcome.Garbled sim test) = Err (halt_ending ids (halt.Garbled sim test))
saying_of form ids P J (outcome.LongFrame sim n) = Err (halt_ending ids (halt.LongFrame sim n))
saying_of form ids P J (outcome.LongItem sim n) = Err (halt_ending ids (halt.LongItem sim n))
saying_of form ids P J outcome.Mem = Err (halt_ending ids halt.Mem)

-- the record of the plan and the journal, where one is wanted
abbrev pub record_of : Bool → Plan → List Entry → Option (List ℕ)
record_of true P J = Some (record_text P J)
record_of false P J = None
