-- Nothing goes wrong in a run of a scenario that runs within the program and meets no limit.
use Rattle.std.proofs.Common.{◌≡◌, ℕ, ◌<◌, true, List, length, Option, None, sym, ◌∙◌, subst, true≢false}
use Rattle.mk_cycles.specs.Edges.{has_edge}
use Rattle.mk_plan.specs.declared.Entry.{Entry}
use Rattle.mk_plan.specs.declared.Message.{Message}
use Rattle.mk_plan.specs.declared.Plan.{Plan}
use Rattle.mk_plan.specs.Agreement.{Continues}
use Rattle.mk_plan.specs.Journals.{view}
use Rattle.mk_plan.specs.Plans.{IsValidPlan, sim_count}
use Rattle.mk_outside.specs.Counts.{HasRisen}
use Rattle.mk_scenario.specs.declared.parts.Scenario.{Scenario}
use Rattle.mk_connect.specs.Edges.{edges_of}
use Rattle.mk_setup.specs.Handshakes.{IsMade}
use Rattle.mk_run_laws.specs.Handshake.{is_within}
use Rattle.mk_run_laws.specs.Kinds.{AnswersByKind}
use Rattle.mk_run_laws.specs.Laws.{IsJournalOf}
use Rattle.mk_run_laws.proofs.Following.{followed}
use Rattle.mk_run_local.specs.Made.{kind_reply_of}
use Rattle.mk_run_crew.specs.Answers.{AreKindAnswers}
use Rattle.mk_run_crew.specs.Completing.{IsFaultlessHandshake, WithinHandshakesAreFaultless}
use Rattle.mk_run_crew.proofs.Unlinked.{never_linked, within_low}
use Rattle.mk_run.specs.Ends.{NeedsMore}
use Rattle.mosaikrun_check.specs.Runnable.{AreRanks}
use Rattle.mosaikrun_run.specs.Outcomes.{Outside, attempt_in, exchange_in}
use Rattle.mosaikrun_run.proofs.OneText.{one_answers, one_plan, one_ranking}
use Rattle.mosaikrun_program.specs.Complete.{IsFaultlessPacedStudy, IsFaultlessStudy}
use Rattle.mosaikrun_faultless.specs.Limits.{MeetsNoLimit}
use Rattle.mosaikrun_faultless.specs.Within.{RunsWithin}
use Rattle.mosaikrun_faultless.proofs.Limits.{full_closed, no_fault, roomy}

module _ (O : Outside) (bytes : List ℕ) (w : RunsWithin O.kinds bytes) where
  abbrev S : Scenario
  S = w.scenario

  -- the scenario has one plan
  pub same_plan : (any : List ℕ) → AreRanks w.scenario any → (answers : List Message) (P : Plan) → IsMade w.scenario any answers P → AreKindAnswers O.kinds w.scenario answers → P ≡ w.plan
  same_plan any ranked answers P made kinds =
      let ranks : any ≡ w.ranks = one_ranking (has_edge (edges_of S)) (length S.sims) any w.ranks ranked w.ranked in
      let same : answers ≡ w.answers = one_answers O.kinds S w.wellformed w.inside answers w.answers made.all w.made.all kinds w.of_kinds in
      one_plan S w.ranks w.answers P w.plan (subst (λ (r : List ℕ). IsMade S r w.answers P) ranks (subst (λ (a : List Message). IsMade S any a P) same made)) w.made

  module _ (P : Plan) (J : List Entry) (same : P ≡ w.plan) (valid : IsValidPlan P) (journal : IsJournalOf (exchange_in O w.scenario) P J) where
    by_kind : AnswersByKind (kind_reply_of O.kinds w.scenario) (is_within w.scenario) P w.messages
    by_kind = subst (λ (Q : Plan). AnswersByKind (kind_reply_of O.kinds S) (is_within S) Q w.messages) (sym same) w.by_kind

    limits : MeetsNoLimit P w.messages
    limits = subst (λ (Q : Plan). MeetsNoLimit Q w.messages) (sym same) w.limits

    pub here : (i : ℕ) → i < sim_count P → is_within w.scenario i ≡ true
    here i low = within_low S w.inside i (subst (λ (n : ℕ). i < n) journal.sims low)

    goes_on : Continues P J w.messages
    goes_on = followed P valid (kind_reply_of O.kinds S) (is_within S) w.messages by_kind J journal.orderly journal.kinds (λ i low out. absurd (true≢false (sym (here i low) ∙ out)))

    pub no_fault_there : (view P J).fault ≡ None
    no_fault_there = no_fault P valid w.messages limits (λ i low. by_kind.uncut i low (here i low)) J journal.orderly goes_on (λ H s m more is low shut. (journal.kinds H s m more is (here s.0 low)).open_there shut)

    pub all_closed : length J ≡ P.entries → (s : ℕ) → s < sim_count P → ((view P J).open_at s ≡ None → ⊥) → ⊥
    all_closed = full_closed P valid w.messages limits (λ i low. by_kind.uncut i low (here i low)) J journal.orderly goes_on no_fault_there

    pub no_more_there : (left : Type 0) → length J ≡ P.entries → NeedsMore P J left → ⊥
    no_more_there left = roomy P valid w.messages limits (λ i low. by_kind.uncut i low (here i low)) J journal.orderly goes_on left no_fault_there

  module _ (handshakes : WithinHandshakesAreFaultless) (calm : HasRisen O.faults O.new_faults → ⊥) where
    pub handshake : (any : List ℕ) → AreRanks w.scenario any → IsFaultlessHandshake (attempt_in O w.scenario any) (HasRisen O.faults O.new_faults)
    handshake any ranked =
        let ranks : any ≡ w.ranks = one_ranking (has_edge (edges_of S)) (length S.sims) any w.ranks ranked w.ranked in
        handshakes (attempt_in O S any) w.answers w.plan O.faults O.new_faults w.wellformed w.inside (subst (λ (r : List ℕ). IsMade S r w.answers w.plan) (sym ranks) w.made) w.of_kinds calm

    pub study : IsFaultlessStudy O bytes
    study = record {
      scenario = S;
      ranks = w.ranks;
      read = w.read;
      ranked = w.ranked;
      prepared = w.prepared;
      handshake = handshake;
      run = λ any P J end ranked ran. let same = same_plan any ranked ran.answers P ran.made ran.kinds in record {
        no_fault = no_fault_there P J same ran.run.valid ran.run.journal;
        roomy = no_more_there P J same ran.run.valid ran.run.journal _;
        counts = calm;
        open_links = λ i l e ended. never_linked O.started S w.inside i l e;
        right_frames = λ i l n e wrong. never_linked O.started S w.inside i l e;
        short_items = λ i n long. never_linked O.started S w.inside i long.link long.linked;
      };
    }

    pub paced : (factor : ℕ) (strict : Option ℕ) → IsFaultlessPacedStudy O factor strict bytes
    paced factor strict = record {
      scenario = S;
      ranks = w.ranks;
      read = w.read;
      ranked = w.ranked;
      prepared = w.prepared;
      handshake = handshake;
      run = λ any P J moments end ranked ran. let same = same_plan any ranked ran.answers P ran.made ran.kinds in record {
        no_fault = no_fault_there P J same ran.run.valid ran.run.journal;
        roomy = no_more_there P J same ran.run.valid ran.run.journal _;
        counts = calm;
        open_links = λ i l e ended. never_linked O.started S w.inside i l e;
        right_frames = λ i l n e wrong. never_linked O.started S w.inside i l e;
        short_items = λ i n long. never_linked O.started S w.inside i long.link long.linked;
      };
    }
