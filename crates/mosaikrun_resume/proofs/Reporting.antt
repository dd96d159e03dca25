-- The report of a resumed run is sequential execution's.
use Rattle.std.proofs.Common.{◌≡◌, ℕ, ◌<◌, Bool, List, [], length, map, Option, Ok, inl, inr, sym, ap, ◌∙◌, subst, arith}
use Rattle.mk_base.specs.Lists.{BeginsWith}
use Rattle.mk_base.proofs.Lists.{append_nil}
use Rattle.mk_plan.specs.declared.Plan.{Plan}
use Rattle.mk_plan.specs.declared.Entry.{Entry}
use Rattle.mk_plan.specs.Agreement.{Continues}
use Rattle.mk_plan.specs.Journals.{bare, got, sent, view}
use Rattle.mk_plan.specs.Plans.{sim_count}
use Rattle.mk_plan.specs.Ready.{IsDone}
use Rattle.mk_plan.specs.Report.{report}
use Rattle.mk_plan.specs.Sequential.{Messages, run_items}
use Rattle.mk_scenario.specs.declared.parts.Scenario.{Scenario}
use Rattle.mk_record_read.specs.declared.saved.Saved.{Saved}
use Rattle.mk_record_report.proofs.Bare.{report_bare}
use Rattle.mk_run.specs.declared.outcome.Outcome.TheVariants as outcome
use Rattle.mk_run_laws.specs.Rests.{run_messages}
use Rattle.mk_run_laws.proofs.Following.{IsAllOf, all_done}
use Rattle.mk_resume_walk.proofs.UpTo.{up_to_all}
use Rattle.mk_resume_loop.specs.declared.ending.ResumeEnd.{ResumeEnd}
use Rattle.mk_resume_loop.specs.declared.ending.ResumeEnd.TheVariants as ends
use Rattle.mk_resume.specs.Resumed.{ShownBy}
use Rattle.mosaikrun_sayings.specs.Sayings.{ids_of}
use Rattle.mosaikrun_run.specs.declared.sayings.Form.TheVariants.{Report}
use Rattle.mosaikrun_run.specs.Outcomes.{IsPlayed, IsSaid, Outside, exchange_in}
use Rattle.mosaikrun_run.proofs.Reporting.{said_is_done}
use Rattle.mk_run.specs.Ends as runs
use Rattle.mosaikrun_resume.specs.Laws.{IsWholeReport, ResumedTextsAreSequential, SameMessagesAreOneText}
use Rattle.mosaikrun_resume.specs.Outcomes.{HasGoneOn}
use Rattle.mosaikrun_resume.specs.Sayings.{resume_saying}

-- a report is said of a run that is done alone
pub done_alone : (ids : List (List ℕ)) (P : Plan) (J : List Entry) (end : ResumeEnd) (text : List ℕ) → IsSaid (resume_saying ids P J end) (Ok text) → (end ≡ ends.Outcome outcome.Done) × (text ≡ report P (sent J))
done_alone ids P J (ends.Outcome o) text said = let t = said_is_done Report ids P J o text said in (ap (λ x. ends.Outcome x) t.0, t.1)
done_alone ids P J (ends.OtherPlan n) text (inl is) = absurd cc
done_alone ids P J (ends.OtherPlan n) text (inr wanting) = absurd cc
done_alone ids P J (ends.OtherEntry n) text (inl is) = absurd cc
done_alone ids P J (ends.OtherEntry n) text (inr wanting) = absurd cc
done_alone ids P J (ends.Differs sim place kept heard) text (inl is) = absurd cc
done_alone ids P J (ends.Differs sim place kept heard) text (inr wanting) = absurd cc

module _ (O : Outside) (wanted : Bool) (S : Scenario) (ranks : List ℕ) (saved : Saved) (text : List ℕ) (kept : Option (List ℕ)) (gone : HasGoneOn O wanted S ranks saved (Ok text) kept) where
  P : Plan
  P = gone.plan

  J : List Entry
  J = gone.journal

  done : (gone.end ≡ ends.Outcome outcome.Done) × (text ≡ report gone.plan (sent gone.journal))
  done = done_alone (ids_of S) gone.plan gone.journal gone.end text gone.said

  over : IsDone gone.plan (view gone.plan gone.journal) × ((i : ℕ) → i < sim_count gone.plan → gone.run.run.heard i ≡ length (got gone.journal i))
  over = subst (ShownBy (exchange_in O S) gone.plan gone.run.run.first gone.journal gone.run.run.heard O.faults O.new_faults) done.0 gone.run.run.shown

  pub all : (R : Messages) → Continues gone.plan gone.journal R → (i : ℕ) → IsAllOf gone.plan gone.run.run.valid gone.journal R i
  all R goes i = all_done gone.plan gone.run.run.valid gone.journal gone.run.run.eager.0.0 over.0 R goes i

  whole : IsWholeReport O wanted S ranks saved text kept gone
  whole = record {
    text_is = λ R goes. done.1 ∙ report_bare gone.plan (sent gone.journal) (run_items gone.plan R) (λ i low. (all R goes i).items);
    ended = λ R goes i low. (all R goes i).ended;
    heard = λ i l linked low.
        let t = (gone.run.run.links i l linked).1 in
        subst (λ (K : List Entry). BeginsWith (run_messages S O.log i l) (got K i)) (up_to_all i (gone.run.run.heard i) gone.journal (omega (arith, over.1 i low))) t.got;
  }

pub texts_sequential : ResumedTextsAreSequential
texts_sequential O wanted S ranks saved text kept gone = whole O wanted S ranks saved text kept gone

module _ (O Q : Outside) (wanted also : Bool) (S T : Scenario) (ranks : List ℕ) (saved : Saved) (text other : List ℕ) (kept new : Option (List ℕ)) (p : IsPlayed O Report wanted S (Ok text) kept) (q : HasGoneOn Q also T ranks saved (Ok other) new)
    (plans : q.plan ≡ p.plan) (same : (i : ℕ) → i < sim_count p.plan → got q.journal i ≡ got p.journal i) where
  -- the messages of the run
  R : Messages
  R = got p.journal

  ran : (p.outcome ≡ outcome.Done) × (text ≡ report p.plan (sent p.journal))
  ran = said_is_done Report (ids_of S) p.plan p.journal p.outcome text p.said

  ran_over : IsDone p.plan (view p.plan p.journal)
  ran_over = subst (runs.ShownBy (exchange_in O S) p.plan p.journal O.faults O.new_faults) ran.0 p.run.run.shown

  goes : Continues p.plan p.journal R
  unfolding R
  goes i low = ([], sym (append_nil (got p.journal i)))

  goes_too : Continues q.plan q.journal R
  unfolding R
  goes_too i low = ([], sym (same i (subst (λ (X : Plan). i < sim_count X) plans low)) ∙ sym (append_nil (got q.journal i)))

  ours : (i : ℕ) → IsAllOf p.plan p.run.run.valid p.journal R i
  ours i = all_done p.plan p.run.run.valid p.journal p.run.run.journal.orderly ran_over R goes i

  theirs : (i : ℕ) → IsAllOf q.plan q.run.run.valid q.journal R i
  theirs i = all Q also T ranks saved other new q R goes_too i

  one_report : text ≡ other
  one_report =
      ran.1 ∙ report_bare p.plan (sent p.journal) (run_items p.plan R) (λ i low. (ours i).items)
      ∙ ap (λ (X : Plan). report X (run_items X R)) (sym plans)
      ∙ sym ((whole Q also T ranks saved other new q).text_is R goes_too)

  one_sent : (i : ℕ) → i < sim_count p.plan → map bare (sent p.journal i) ≡ map bare (sent q.journal i)
  one_sent i low = (ours i).items ∙ ap (λ (X : Plan). run_items X R i) (sym plans) ∙ sym (theirs i).items

pub one_text : SameMessagesAreOneText
one_text O Q wanted also S T ranks saved text other kept new p q plans same =
    (one_report O Q wanted also S T ranks saved text other kept new p q plans same, one_sent O Q wanted also S T ranks saved text other kept new p q plans same)
