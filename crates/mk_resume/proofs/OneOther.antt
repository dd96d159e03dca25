-- One part at most is the first in which two plans differ, and one end comes of a record that isn't
-- taken.
use Rattle.std.proofs.Common.{◌≡◌, inl, inr, ℕ, true, false, List, map, Option, None, Some, refl, sym, ap, ◌∙◌, subst}
use Rattle.mk_plan.specs.declared.Plan.{Plan}
use Rattle.mk_plan.specs.declared.Entry.{Entry}
use Rattle.mk_plan.specs.declared.Journal.{Journal}
use Rattle.mk_plan_same.specs.declared.plans.Part.{Part}
use Rattle.mk_plan_same.specs.declared.plans.Part.TheVariants.{Bounds, Sims, Models, Entities, Conns, Asyncs}
use Rattle.mk_plan_same.specs.Parts.{IsFirstOther, IsFirstPart, number}
use Rattle.mk_record_read.specs.declared.saved.Saved.{Saved}
use Rattle.mk_record_read.specs.Seen.{came}
use Rattle.mk_record_compare.specs.Differences.{IsOther}
use Rattle.mk_record_restored.specs.declared.restoring.Restored.{Restored}
use Rattle.mk_record_restored.specs.declared.restoring.Restored.TheVariants as restored
use Rattle.mk_record_restored.specs.Restored.{IsFaulted, IsOtherIn, IsRestored, RestoresAs}
use Rattle.mk_record_restored.proofs.OneRestored.{restored_one}
use Rattle.mk_sched.specs.Cores.{CoreState}
use Rattle.mk_sched.specs.declared.faults.CoreFault.{CoreFault}
use Rattle.mk_run_crew.specs.Attempts.{exchange_of}
use Rattle.mk_run.specs.declared.outcome.Outcome.{Outcome}
use Rattle.mk_run.specs.declared.outcome.Outcome.TheVariants as outcome
use Rattle.mk_resume_loop.specs.declared.ending.ResumeEnd.{ResumeEnd}
use Rattle.mk_resume_loop.specs.declared.ending.ResumeEnd.TheVariants as ends
use Rattle.mk_resume.specs.Resumed.{HasFaultySaved, IsRefusedBy, ShownBy}
use Rattle.mk_resume.specs.Laws.{EndsExactly, ResumeEndsExactly}

-- ---- the first part that differs

one_part : (a b : Plan) (p q : Part) → IsFirstPart a b (Some p) → IsFirstPart a b (Some q) → p ≡ q
one_part a b Bounds Bounds x y = refl
one_part a b Bounds Sims x y = absurd (x.1 y.0)
one_part a b Bounds Models x y = absurd (x.1 y.0.0)
one_part a b Bounds Entities x y = absurd (x.1 y.0.0)
one_part a b Bounds Conns x y = absurd (x.1 y.0.0)
one_part a b Bounds Asyncs x y = absurd (x.1 y.0.0)
one_part a b Sims Bounds x y = absurd (y.1 x.0)
one_part a b Sims Sims x y = refl
one_part a b Sims Models x y = absurd (x.1 y.0.1)
one_part a b Sims Entities x y = absurd (x.1 y.0.1)
one_part a b Sims Conns x y = absurd (x.1 y.0.1)
one_part a b Sims Asyncs x y = absurd (x.1 y.0.1)
one_part a b Models Bounds x y = absurd (y.1 x.0.0)
one_part a b Models Sims x y = absurd (y.1 x.0.1)
one_part a b Models Models x y = refl
one_part a b Models Entities x y = absurd (x.1 y.0.2)
one_part a b Models Conns x y = absurd (x.1 y.0.2)
one_part a b Models Asyncs x y = absurd (x.1 y.0.2)
one_part a b Entities Bounds x y = absurd (y.1 x.0.0)
one_part a b Entities Sims x y = absurd (y.1 x.0.1)
one_part a b Entities Models x y = absurd (y.1 x.0.2)
one_part a b Entities Entities x y = refl
one_part a b Entities Conns x y = absurd (x.1 y.0.3)
one_part a b Entities Asyncs x y = absurd (x.1 y.0.3)
one_part a b Conns Bounds x y = absurd (y.1 x.0.0)
one_part a b Conns Sims x y = absurd (y.1 x.0.1)
one_part a b Conns Models x y = absurd (y.1 x.0.2)
one_part a b Conns Entities x y = absurd (y.1 x.0.3)
one_part a b Conns Conns x y = refl
one_part a b Conns Asyncs x y = absurd (x.1 y.0.4)
one_part a b Asyncs Bounds x y = absurd (y.1 x.0.0)
one_part a b Asyncs Sims x y = absurd (y.1 x.0.1)
one_part a b Asyncs Models x y = absurd (y.1 x.0.2)
one_part a b Asyncs Entities x y = absurd (y.1 x.0.3)
one_part a b Asyncs Conns x y = absurd (y.1 x.0.4)
one_part a b Asyncs Asyncs x y = refl

pub none_other : (a b : Plan) (q : Part) → IsFirstPart a b None → IsFirstPart a b (Some q) → ⊥
none_other a b Bounds all y = y.1 all.0.0
none_other a b Sims all y = y.1 all.0.1
none_other a b Models all y = y.1 all.0.2
none_other a b Entities all y = y.1 all.0.3
none_other a b Conns all y = y.1 all.0.4
none_other a b Asyncs all y = y.1 all.1

pub one_other : (a b : Plan) (m n : Option ℕ) → IsFirstOther a b m → IsFirstOther a b n → m ≡ n
one_other a b None None x y = refl
one_other a b None (Some n) x y = absurd (none_other a b y.0 x y.2)
one_other a b (Some m) None x y = absurd (none_other a b x.0 y x.2)
one_other a b (Some m) (Some n) x y = ap Some (x.1 ∙ ap number (one_part a b x.0 y.0 x.2 y.2) ∙ sym y.1)

some_apart : (n : ℕ) → None ≡ Some n → ⊥
some_apart n e = cc

some_one : (m n : ℕ) → Some m ≡ Some n → m ≡ n
some_one m n e = cc

-- ---- what the record's messages come to

module _ (P : Plan) (saved : Saved) where
  Comes : Restored → Type 0
  Comes r = RestoresAs P (map came saved.arrivals) saved.asks r

  abbrev core_at : List Entry → CoreState
  core_at first = record { plan = P; entries = first; ended = None }

  onward : (first : List Entry) → IsRestored P (map came saved.arrivals) first → IsOther (map came saved.arrivals) saved.asks first None → RestoresAs P (map came saved.arrivals) saved.asks (restored.Onward (core_at first))
  onward first there same = record { plan = refl; going = refl; restored = there; same = same }

  abbrev journal_of : List Entry → Journal
  journal_of J = record { entries = J }

  faulted : (J : List Entry) (f : CoreFault) → IsFaulted P (map came saved.arrivals) J f → RestoresAs P (map came saved.arrivals) saved.asks (restored.Faulted f P (journal_of J))
  faulted J f h = (refl, h)

  one : (r s : Restored) → RestoresAs P (map came saved.arrivals) saved.asks r → RestoresAs P (map came saved.arrivals) saved.asks s → r ≡ s
  one r s a b = restored_one P (map came saved.arrivals) saved.asks r s a b

  other_not_onward : (core : CoreState) (n : ℕ) → restored.Onward core ≡ restored.Other n → ⊥
  other_not_onward core n e = cc

  fault_not_onward : (core : CoreState) (f : CoreFault) (J : Journal) → restored.Onward core ≡ restored.Faulted f P J → ⊥
  fault_not_onward core f J e = cc

  other_not_fault : (n : ℕ) (f : CoreFault) (J : Journal) → restored.Other n ≡ restored.Faulted f P J → ⊥
  other_not_fault n f J e = cc

  one_entry : (m n : ℕ) → restored.Other m ≡ restored.Other n → m ≡ n
  one_entry m n e = cc

  one_fault : (f g : CoreFault) (J K : Journal) → restored.Faulted f P J ≡ restored.Faulted g P K → f ≡ g
  one_fault f g J K e = cc

  plan_one : (m n : ℕ) → ends.OtherPlan m ≡ ends.OtherPlan n → m ≡ n
  plan_one m n e = cc

  entry_one : (m n : ℕ) → ends.OtherEntry m ≡ ends.OtherEntry n → m ≡ n
  entry_one m n e = cc

  plan_not_entry : (m n : ℕ) → ends.OtherPlan m ≡ ends.OtherEntry n → ⊥
  plan_not_entry m n e = cc

  outcome_not_plan : (o : Outcome) (n : ℕ) → ends.Outcome o ≡ ends.OtherPlan n → ⊥
  outcome_not_plan o n e = cc

  outcome_not_entry : (o : Outcome) (n : ℕ) → ends.Outcome o ≡ ends.OtherEntry n → ⊥
  outcome_not_entry o n e = cc

  -- a record that was taken
  pub exactly_taken : (first : List Entry) (end : ResumeEnd) → ((n : ℕ) → end ≡ ends.OtherPlan n → ⊥) → ((n : ℕ) → end ≡ ends.OtherEntry n → ⊥) → IsFirstOther P saved.plan None → IsRestored P (map came saved.arrivals) first → IsOther (map came saved.arrivals) saved.asks first None → EndsExactly P saved end
  exactly_taken first end no_plan no_entry plans there same = record {
    other_plan = λ n other. absurd (some_apart n (one_other P saved.plan None (Some n) plans other));
    plan_said = λ n e. absurd (no_plan n e);
    entry_said = λ n e. absurd (no_entry n e);
    other_entry = λ n plans' other. absurd (other_not_onward (core_at first) n (one (restored.Onward (core_at first)) (restored.Other n) (onward first there same) other));
    faulty = λ J f plans' h. absurd (fault_not_onward (core_at first) f (journal_of J) (one (restored.Onward (core_at first)) (restored.Faulted f P (journal_of J)) (onward first there same) (faulted J f h)));
  }

  -- one whose messages met a fault
  pub exactly_faulty : (K : List Entry) (end : ResumeEnd) → HasFaultySaved P saved K end → EndsExactly P saved end
  exactly_faulty K end s = record {
    other_plan = λ n other. absurd (some_apart n (one_other P saved.plan None (Some n) s.plans other));
    plan_said = λ n e. absurd (outcome_not_plan (outcome.Core s.fault) n (sym s.is ∙ e));
    entry_said = λ n e. absurd (outcome_not_entry (outcome.Core s.fault) n (sym s.is ∙ e));
    other_entry = λ n plans other. absurd (other_not_fault n s.fault (journal_of K) (one (restored.Other n) (restored.Faulted s.fault P (journal_of K)) other (faulted K s.fault s.faulted)));
    faulty = λ J f plans h. inl (s.is ∙ ap (λ (g : CoreFault). ends.Outcome (outcome.Core g)) (one_fault s.fault f (journal_of K) (journal_of J)
        (one (restored.Faulted s.fault P (journal_of K)) (restored.Faulted f P (journal_of J)) (faulted K s.fault s.faulted) (faulted J f h))));
  }

  -- one that wasn't taken
  pub exactly_refused : (end : ResumeEnd) → IsRefusedBy P saved end → EndsExactly P saved end
  exactly_refused (ends.OtherPlan m) r = record {
    other_plan = λ n other. ap ends.OtherPlan (some_one m n (one_other P saved.plan (Some m) (Some n) r other));
    plan_said = λ n e. subst (λ (k : ℕ). IsFirstOther P saved.plan (Some k)) (plan_one m n e) r;
    entry_said = λ n e. absurd (plan_not_entry m n e);
    other_entry = λ n plans other. absurd (some_apart m (one_other P saved.plan None (Some m) plans r));
    faulty = λ J f plans h. absurd (some_apart m (one_other P saved.plan None (Some m) plans r));
  }
  exactly_refused (ends.OtherEntry m) r = record {
    other_plan = λ n other. absurd (some_apart n (one_other P saved.plan None (Some n) r.0 other));
    plan_said = λ n e. absurd (plan_not_entry n m (sym e));
    entry_said = λ n e. (r.0, subst (λ (k : ℕ). IsOtherIn P (map came saved.arrivals) saved.asks k) (entry_one m n e) r.1);
    other_entry = λ n plans other. inl (ap ends.OtherEntry (one_entry m n (one (restored.Other m) (restored.Other n) r.1 other)));
    faulty = λ J f plans h. absurd (other_not_fault m f (journal_of J) (one (restored.Other m) (restored.Faulted f P (journal_of J)) r.1 (faulted J f h)));
  }
  exactly_refused (ends.Outcome o) r = record {
    other_plan = λ n other. absurd (some_apart n (one_other P saved.plan None (Some n) r.0 other));
    plan_said = λ n e. absurd (outcome_not_plan o n e);
    entry_said = λ n e. absurd (outcome_not_entry o n e);
    other_entry = λ n plans other. inr (ap ends.Outcome r.1);
    faulty = λ J f plans h. inr (ap ends.Outcome r.1);
  }
  exactly_refused (ends.Differs sim place kept other) r = absurd r

pub ends_exactly : ResumeEndsExactly
ends_exactly A saved true (Some P) (Some J) faults new_faults end r = inr (record { plan = P; answers = r.answers; made = r.made; kinds = r.kinds; heard = λ i l linked. (r.run.links i l linked).1.replied ∙ r.told i l linked; exactly = exactly_taken P saved r.run.first end (λ n e. subst (ShownBy (exchange_of A) P r.run.first J.entries r.run.heard faults new_faults) e r.run.shown) (λ n e. subst (ShownBy (exchange_of A) P r.run.first J.entries r.run.heard faults new_faults) e r.run.shown) r.plans r.run.restored r.run.same })
ends_exactly A saved true (Some P) None faults new_faults end r = absurd r
ends_exactly A saved true None J faults new_faults end r = absurd r
ends_exactly A saved false (Some P) (Some J) faults new_faults end r = inr (record { plan = P; answers = r.1.answers; made = r.1.made; kinds = r.1.kinds; heard = λ i l linked. r.1.replied i l linked ∙ r.1.told i l linked; exactly = exactly_faulty P saved J.entries end r.0 })
ends_exactly A saved false (Some P) None faults new_faults end r = absurd r
ends_exactly A saved false None (Some J) faults new_faults end r = absurd r
ends_exactly A saved false None None faults new_faults end (inl r) = inr (record { plan = r.0; answers = r.2.answers; made = r.2.made; kinds = r.2.kinds; heard = λ i l linked. r.2.replied i l linked ∙ r.2.told i l linked; exactly = exactly_refused r.0 saved end r.1 })
ends_exactly A saved false None None faults new_faults end (inr r) = inl r
