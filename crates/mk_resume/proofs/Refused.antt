-- What is left of a handshake whose record wasn't taken, and what a call comes to by its parts.
use Rattle.std.proofs.Common.{◌≡◌, inl, inr, ℕ, ◌<◌, true, false, List, [], ◌++◌, map, Option, None, Some, All, sym, ap, ◌∙◌, subst, refl}
use Rattle.mk_base.proofs.Lists.{append_nil}
use Rattle.mk_base.specs.declared.LinkNo.{LinkNo}
use Rattle.mk_plan.specs.declared.Plan.{Plan}
use Rattle.mk_plan.specs.declared.Journal.{Journal}
use Rattle.mk_plan.specs.Plans.{first_id, sim_count}
use Rattle.mk_plan.specs.Sequential.{Messages}
use Rattle.mk_outside.specs.Counts.{HasRisen}
use Rattle.mk_outside.specs.declared.fleet.LogEntry.{LogEntry}
use Rattle.mk_outside.specs.declared.fleet.LogEntry.TheVariants.{Rest}
use Rattle.mk_record_read.specs.declared.saved.Saved.{Saved}
use Rattle.mk_record_read.specs.Seen.{came}
use Rattle.mk_record_read.specs.Steps.{IsKnown}
use Rattle.mk_plan_same.specs.Parts.{IsFirstOther}
use Rattle.mk_record_restored.specs.Restored.{IsOnward, IsRestored}
use Rattle.mk_sched.specs.Cores.{CoreState}
use Rattle.mk_run_crew.specs.Attempts.{Attempt, attempt, longer}
use Rattle.mk_setup.specs.Handshakes.{IsMade}
use Rattle.mk_run_laws.specs.Handshake.{setup_requests, sim_link}
use Rattle.mk_run_laws.specs.Crews.{AreStopped, IsRestless}
use Rattle.mk_run_laws.specs.Runs.{IsLinkOfRun}
use Rattle.mk_run_laws.proofs.Clauses.{handshake_says}
use Rattle.mk_run_laws.proofs.Ending.{link_ended}
use Rattle.mk_run_laws.proofs.Stepping.{first_or_second}
use Rattle.mk_run_links.specs.Entries.{AreOn, IsRunLink}
use Rattle.mk_run_links.specs.Places.{IsChannelLink}
use Rattle.mk_run_links.proofs.OnEntries.{on_more, on_run}
use Rattle.mk_run_crew.specs.Seen.{CrewSeen, crew_of}
use Rattle.mk_run.proofs.Beginning.{run_begins}
use Rattle.mk_run.proofs.ChannelsStopped.{stopped_by}
use Rattle.mk_resume_loop.specs.declared.ending.ResumeEnd.{ResumeEnd}
use Rattle.mk_resume.specs.Resumed.{HasFaultySaved, HasRefused, ResumesAs}
use Rattle.mk_resume.specs.inner.Going.{GoesOnAs, IsStarted, PlanResumesAs, RefusesAs}
use Rattle.mk_resume.proofs.Beginning.{begins_fresh, setting_at}
use Rattle.mk_session.proofs.Polling.{risen_after}

module _ (A : Attempt) (C : CrewSeen) (P : Plan) (s : IsStarted A C P) (stops : List LogEntry) (some risen : Type 0) (rises : some → risen) (stop : AreStopped stops some (crew_of C)) (restless : IsRestless stops) (of_channels : AreOn (IsChannelLink C.channels) stops) where
  stopped : AreStopped stops risen (crew_of C)
  stopped = stopped_by stops some risen (crew_of C) rises stop

  -- each link is that of a run that was stopped where it began
  link_over : (i : ℕ) (l : LinkNo) → sim_link A.started A.scenario i ≡ Some l → IsLinkOfRun A.scenario s.begun.replies [] (A.log ++ stops) risen i l []
  link_over i l linked = link_ended A.started A.scenario s.begun.replies s.begun.counts [] A.log stops risen (crew_of C) stopped i l linked [] []
      ((run_begins A.started A.scenario A.ranks A.rows A.log C P s.begun s.prepared).running.channels i l linked) ([], refl) ([], refl)

  pub has_refused : HasRefused (longer A stops) P risen
  has_refused = record {
    answers = s.begun.answers;
    made = s.begun.made;
    kinds = s.begun.kinds;
    replies = s.begun.replies;
    replied = λ i l linked. (link_over i l linked).replied;
    told = s.begun.told;
    valid = s.begun.valid;
    sims = s.begun.sims;
    says = λ reply i l linked. let t = s.begun.begun.channels i l linked in
        handshake_says A.started A.scenario reply A.log stops risen i l (setup_requests A.scenario) [] (sym (append_nil (setup_requests A.scenario))) (s.begun.replies i) t.0 t.2 t.3 (stopped i t.0 t.1);
    whole = λ i l linked. (link_over i l linked).whole;
    rests = λ before after is. elim (first_or_second A.log stops before after Rest is) [
      | inl t ↦ (s.begun.rests before t.0 t.1, s.begun.begun.setting_up before t.0 t.1)
      | inr t ↦ absurd (restless t.0 after t.2)
    ];
    on_links = on_more (IsRunLink A.started A.scenario) A.log stops s.begun.on_links (on_run A.started A.scenario C.channels stops (λ i l linked. let t = s.begun.begun.channels i l linked in (t.0, t.1, t.2)) s.begun.back of_channels);
  }

-- what a call comes to whose record wasn't taken
refuses : (A : Attempt) (P : Plan) (saved : Saved) (log : List LogEntry) (f0 f1 : ℕ) (Q : Option Plan) (J : Option Journal) (end : ResumeEnd) → HasRefused (attempt A.started A.scenario A.ranks A.rows log) P (HasRisen f0 f1) → RefusesAs P saved Q J end
    → ResumesAs (attempt A.started A.scenario A.ranks A.rows log) saved false Q J f0 f1 end
refuses A P saved log f0 f1 (Some Q) (Some J) end h r = subst (λ (X : Plan). HasFaultySaved X saved J.entries end × HasRefused (attempt A.started A.scenario A.ranks A.rows log) X (HasRisen f0 f1)) (sym r.0) (r.1, h)
refuses A P saved log f0 f1 (Some Q) None end h r = absurd r
refuses A P saved log f0 f1 None (Some J) end h r = absurd r
refuses A P saved log f0 f1 None None end h r = inl (P, r, h)

pub plan_refuses : (P : Plan) (saved : Saved) (C : CrewSeen) (stops : List LogEntry) (f0 f1 : ℕ) (Q : Option Plan) (J : Option Journal) (end : ResumeEnd) → RefusesAs P saved Q J end → AreStopped stops (HasRisen f0 f1) (crew_of C) → IsRestless stops → AreOn (IsChannelLink C.channels) stops
    → PlanResumesAs P saved C stops f0 f1 false Q J end
plan_refuses P saved C stops f0 f1 Q J end r stop restless of_channels A before low s = refuses A P saved (A.log ++ stops) before f1 Q J end (has_refused A C P s stops (HasRisen f0 f1) (HasRisen before f1) (λ e. risen_after before f0 f1 low e) stop restless of_channels) r

-- and of one whose record was taken
pub plan_goes_on : (P : Plan) (saved : Saved) (C : CrewSeen) (core : CoreState) (entries : List LogEntry) (f0 f2 : ℕ) (Q : Option Plan) (J : Option Journal) (end : ResumeEnd) → IsFirstOther P saved.plan None → IsOnward P (map came saved.arrivals) saved.asks core → All (IsKnown saved.plan) (map came saved.arrivals)
    → GoesOnAs core C entries f0 f2 Q J end → PlanResumesAs P saved C entries f0 f2 true Q J end
plan_goes_on P saved C core entries f0 f2 (Some Q) (Some J) end plans on known r A before low s =
    let b = s.begun in
    let t = r saved (subst (λ (X : Plan). IsRestored X (map came saved.arrivals) core.entries) (sym on.plan) on.restored) on.same (setting_at A C P s) A.log before low (begins_fresh A C P s saved core on known) in
    let same : Q ≡ P = t.0 ∙ on.plan in
    record {
      answers = b.answers;
      made = subst (IsMade A.scenario A.ranks b.answers) (sym same) b.made;
      kinds = b.kinds;
      plans = subst (λ (X : Plan). IsFirstOther X saved.plan None) (sym same) plans;
      first = λ i lower. ap (λ (X : Plan). first_id X i) same ∙ b.first i (subst (λ (n : ℕ). i < n) b.sims (subst (λ (X : Plan). i < sim_count X) same lower));
      run = t.1;
      told = λ i l linked. ap (λ (f : Messages). f i) t.2 ∙ b.told i l linked;
    }
plan_goes_on P saved C core entries f0 f2 (Some Q) None end plans on known r A before low s = absurd r
plan_goes_on P saved C core entries f0 f2 None J end plans on known r A before low s = absurd r
