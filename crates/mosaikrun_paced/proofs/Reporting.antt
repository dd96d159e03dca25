-- The report of a paced run is sequential execution's.
use Rattle.std.proofs.Common.{◌≡◌, ℕ, ◌<◌, true, List, Ok, inl, inr, sym, ap, ◌∙◌, subst}
use Rattle.std.proofs.Math.Path.{fun_ext}
use Rattle.mk_plan.specs.declared.Plan.{Plan}
use Rattle.mk_plan.specs.declared.Entry.{Entry}
use Rattle.mk_plan.specs.Plans.{sim_count}
use Rattle.mk_plan.specs.Journals.{sent}
use Rattle.mk_plan.specs.Report.{report}
use Rattle.mk_plan.specs.Sequential.{all_ended, items, run_items, sequential}
use Rattle.mk_order.proofs.Going.{same_runs}
use Rattle.mk_record_report.proofs.Bare.{report_bare}
use Rattle.mk_run.specs.declared.outcome.Outcome.TheVariants as outcome
use Rattle.mk_pace_laws.specs.declared.end.PaceEnd.{PaceEnd}
use Rattle.mk_pace_laws.specs.declared.end.PaceEnd.TheVariants as ends
use Rattle.mk_pace_laws.specs.Laws.{PacesAreRight}
use Rattle.mk_pace_laws.specs.Moments.{timing}
use Rattle.mosaikrun_sayings.specs.Sayings.{ids_of}
use Rattle.mosaikrun_run.specs.declared.sayings.Form.TheVariants.{Report}
use Rattle.mosaikrun_run.specs.Outcomes.{IsSaid, exchange_in}
use Rattle.mosaikrun_run.proofs.Reporting as runs
use Rattle.mosaikrun_paced.specs.Laws.{PacedTextsAreSequential, PacesAreOneText}
use Rattle.mosaikrun_paced.specs.Sayings.{pace_saying}

-- a report is said of a run that is done alone
pub done_alone : (ids : List (List ℕ)) (P : Plan) (J : List Entry) (end : PaceEnd) (text : List ℕ) → IsSaid (pace_saying ids P J end) (Ok text) → (end ≡ ends.Outcome outcome.Done) × (text ≡ report P (sent J))
done_alone ids P J (ends.Outcome o) text said = let t = runs.said_is_done Report ids P J o text said in (ap (λ x. ends.Outcome x) t.0, t.1)
done_alone ids P J (ends.Late sim time late allowed) text (inl is) = absurd cc
done_alone ids P J (ends.Late sim time late allowed) text (inr wanting) = absurd cc

pub texts_sequential : PacesAreRight → PacedTextsAreSequential
texts_sequential rights O factor strict wanted S text kept p R possible =
    let done = done_alone (ids_of S) p.plan p.journal p.end text p.said in
    let right = rights (exchange_in O S) p.plan p.journal (timing (record { origin = p.run.origin; factor = factor }) strict p.moments) O.faults O.new_faults p.end p.run.run in
    let all = (right.done done.0).all R possible in
    (done.1 ∙ report_bare p.plan (sent p.journal) (run_items p.plan R) (λ i low. (all i).0), λ i low. (all i).1)

pub one_text : PacesAreRight → PacesAreOneText
one_text rights O Q factor strict wanted also S T text other kept saved p q plans R U may also_may alike =
    let ours = runs.texts_sequential O Report wanted S text kept p R may in
    let theirs = texts_sequential rights Q factor strict also T other saved q U also_may in
    let ended : (j : ℕ) → j < sim_count p.plan → all_ended (sequential p.plan U j) ≡ true =
    subst (λ (P : Plan). (j : ℕ) → j < sim_count P → all_ended (sequential P U j) ≡ true) plans theirs.1 in
    let talks = same_runs p.plan p.run.run.valid R U ours.1 ended alike in
    let sent_alike : run_items p.plan R ≡ run_items p.plan U = fun_ext (λ i. ap items (talks i)) in
    ours.0 ∙ ap (report p.plan) sent_alike ∙ ap (λ (P : Plan). report P (run_items P U)) (sym plans) ∙ sym theirs.0
