-- What the report of a resumed run is.
use Rattle.std.specs.Prelude.{◌≡◌, ℕ, ◌<◌, Bool, true, List, map, Option, Some, Ok}
use Rattle.mk_base.specs.declared.LinkNo.{LinkNo}
use Rattle.mk_base.specs.Lists.{BeginsWith}
use Rattle.mk_plan.specs.Agreement.{Continues}
use Rattle.mk_plan.specs.Journals.{bare, got, sent}
use Rattle.mk_plan.specs.Plans.{sim_count}
use Rattle.mk_plan.specs.Report.{report}
use Rattle.mk_plan.specs.Sequential.{Messages, all_ended, run_items, sequential}
use Rattle.mk_scenario.specs.declared.parts.Scenario.{Scenario}
use Rattle.mk_record_read.specs.declared.saved.Saved.{Saved}
use Rattle.mk_run_laws.specs.Handshake.{sim_link}
use Rattle.mk_run_laws.specs.Rests.{run_messages}
use Rattle.mosaikrun_run.specs.declared.sayings.Form.TheVariants.{Report}
use Rattle.mosaikrun_run.specs.Outcomes.{IsPlayed, Outside}
use Rattle.mosaikrun_resume.specs.Outcomes.{HasGoneOn}

-- what a resumed run with a report was sent and has said: over whatever goes on with the messages of
-- its journal, the report is that of what sequential execution of the plan sends each simulator, and
-- no turn in it is cut; and each link brought, behind the handshake, all messages that the journal
-- has of its simulator
pub record IsWholeReport (O : Outside) (wanted : Bool) (S : Scenario) (ranks : List ℕ)
    (saved : Saved) (text : List ℕ) (kept : Option (List ℕ))
    (gone : HasGoneOn O wanted S ranks saved (Ok text) kept) : Type 0 where
  pub text_is : (R : Messages) → Continues gone.plan gone.journal R
      → text ≡ report gone.plan (run_items gone.plan R)
  pub ended : (R : Messages) → Continues gone.plan gone.journal R → (i : ℕ)
      → i < sim_count gone.plan → all_ended (sequential gone.plan R i) ≡ true
  pub heard : (i : ℕ) (l : LinkNo) → sim_link O.started S i ≡ Some l → i < sim_count gone.plan
      → BeginsWith (run_messages S O.log i l) (got gone.journal i)

-- so it is of each
abbrev pub ResumedTextsAreSequential : Type 0
ResumedTextsAreSequential = (O : Outside) (wanted : Bool) (S : Scenario) (ranks : List ℕ)
    (saved : Saved) (text : List ℕ) (kept : Option (List ℕ))
    → (gone : HasGoneOn O wanted S ranks saved (Ok text) kept)
    → IsWholeReport O wanted S ranks saved text kept gone

-- a run and a resumed run, whatever fleets they are over, by the same plan, which both have a report:
-- where they got the same messages of each simulator, they sent each the same items, but for their
-- max_advance, and have one report
abbrev pub SameMessagesAreOneText : Type 0
SameMessagesAreOneText = (O Q : Outside) (wanted also : Bool) (S T : Scenario) (ranks : List ℕ)
    (saved : Saved) (text other : List ℕ) (kept new : Option (List ℕ))
    → (p : IsPlayed O Report wanted S (Ok text) kept)
    → (q : HasGoneOn Q also T ranks saved (Ok other) new) → q.plan ≡ p.plan
    → ((i : ℕ) → i < sim_count p.plan → got q.journal i ≡ got p.journal i)
    → (text ≡ other)
    × ((i : ℕ) → i < sim_count p.plan → map bare (sent p.journal i) ≡ map bare (sent q.journal i))
