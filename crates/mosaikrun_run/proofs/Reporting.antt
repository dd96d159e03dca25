-- The text of a run is sequential execution's.
use Rattle.std.proofs.Common.{◌≡◌, ℕ, ◌<◌, List, Ok, inl, inr, map, refl, ◌∙◌}
use Rattle.mk_plan.specs.declared.Plan.{Plan}
use Rattle.mk_plan.specs.declared.Item.{Item}
use Rattle.mk_plan.specs.declared.Entry.{Entry}
use Rattle.mk_plan.specs.Plans.{sim_count}
use Rattle.mk_plan.specs.Journals.{bare, sent}
use Rattle.mk_run.specs.declared.outcome.Outcome.{Outcome}
use Rattle.mk_run.specs.declared.outcome.Outcome.TheVariants as outcome
use Rattle.mk_run.proofs.RunRight.{runs_right}
use Rattle.mk_record_report.proofs.Bare.{report_bare}
use Rattle.mosaikrun_sayings.specs.Sayings.{ids_of}
use Rattle.mosaikrun_run.specs.declared.sayings.Form.{Form}
use Rattle.mosaikrun_run.specs.declared.sayings.Form.TheVariants.{Report, Summary}
use Rattle.mosaikrun_run.specs.Laws.{TextsAreSequential}
use Rattle.mosaikrun_run.specs.Outcomes.{IsSaid, exchange_in}
use Rattle.mosaikrun_run.specs.Sayings.{saying_of, text_of}
use Rattle.mosaikrun_run.proofs.Summarizing.{summary_bare}

-- a text is said of a run that is done alone
text_is_done : (form : Form) (ids : List (List ℕ)) (P : Plan) (J : List Entry) (end : Outcome) (text : List ℕ) → Ok text ≡ saying_of form ids P J end → (end ≡ outcome.Done) × (text ≡ text_of form P (sent J))
text_is_done form ids P J outcome.Done text is = (refl, cc)
text_is_done form ids P J (outcome.Setup e) text is = cc
text_is_done form ids P J (outcome.Core e) text is = cc
text_is_done form ids P J outcome.Fleet text is = cc
text_is_done form ids P J (outcome.Gone sim) text is = cc
text_is_done form ids P J (outcome.Garbled sim test) text is = cc
text_is_done form ids P J (outcome.LongFrame sim n) text is = cc
text_is_done form ids P J (outcome.LongItem sim n) text is = cc
text_is_done form ids P J outcome.Mem text is = cc

pub said_is_done : (form : Form) (ids : List (List ℕ)) (P : Plan) (J : List Entry) (end : Outcome) (text : List ℕ) → IsSaid (saying_of form ids P J end) (Ok text) → (end ≡ outcome.Done) × (text ≡ text_of form P (sent J))
said_is_done form ids P J end text (inl is) = text_is_done form ids P J end text is
said_is_done form ids P J end text (inr wanting) = cc

-- a text doesn't show max_advance
text_bare : (form : Form) (P : Plan) (one other : ℕ → List Item) → ((i : ℕ) → i < sim_count P → map bare (one i) ≡ other i) → text_of form P one ≡ text_of form P other
text_bare Report P one other same = report_bare P one other same
text_bare Summary P one other same = summary_bare P one other same

pub texts_sequential : TextsAreSequential
texts_sequential O form wanted S text record_ played R possible =
    let done = said_is_done form (ids_of S) played.plan played.journal played.outcome text played.said in
    let right = runs_right (exchange_in O S) played.plan played.journal O.faults O.new_faults played.outcome played.run.run in
    let all = (right.done done.0).all R possible in
    (done.1 ∙ text_bare form played.plan (sent played.journal) _ (λ i within. (all i).0), λ i within. (all i).1)
