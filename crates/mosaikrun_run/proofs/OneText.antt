-- Two runs of a scenario whose simulators are all within the program say the same, and so do two
-- whose simulators answer alike.
use Rattle.std.proofs.Common.{◌≡◌, inl, inr, ℕ, ◌+◌, ◌<◌, ◌≤◌, Bool, true, false, List, [], ◌∷◌, length, map, slice_get, Option, Some, Ok, sym, ap, ◌∙◌, subst, arith}
use Rattle.std.proofs.Math.Path.{fun_ext}
use Rattle.std.proofs.lemmas.List.{take_all}
use Rattle.std.specs.List.{enumerate_from}
use Rattle.mk_base.specs.Lists.{Each}
use Rattle.mk_base.proofs.Lists.{append_nil, below_get}
use Rattle.mk_cycles.specs.Edges.{has_edge}
use Rattle.mk_cycles.specs.Orders.{IsRanking}
use Rattle.mk_plan.specs.declared.Call.TheVariants.{Create}
use Rattle.mk_plan.specs.declared.Message.{Message}
use Rattle.mk_plan.specs.declared.Plan.{Plan}
use Rattle.mk_plan.specs.Agreement.{Alike}
use Rattle.mk_plan.specs.Journals.{got}
use Rattle.mk_plan.specs.Plans.{sim_count}
use Rattle.mk_plan.specs.Sequential.{Messages, all_ended, items, run_items, run_talk, sequential}
use Rattle.mk_order.proofs.Going.{same_runs}
use Rattle.mk_scenario.specs.declared.parts.Group.{Group}
use Rattle.mk_scenario.specs.declared.parts.Scenario.{Scenario}
use Rattle.mk_scenario.specs.declared.parts.SimPart.{SimPart}
use Rattle.mk_scenario.specs.Scenarios.{scenario_of}
use Rattle.mk_scenario.specs.Wellformed.{IsWellformed, IsWellformedGroup}
use Rattle.mk_connect.specs.Edges.{edges_of}
use Rattle.mk_local.specs.declared.turn.Turn.{Turn}
use Rattle.mosaikrun_check.proofs.OneRanking.{same_order}
use Rattle.mk_run_laws.specs.Handshake.{Request, is_within, setup_requests}
use Rattle.mk_run_laws.specs.Kinds.{AnswersByKind}
use Rattle.mk_run_laws.proofs.Existing.{there_are}
use Rattle.mk_setup.specs.Asking.{plan_of}
use Rattle.mk_setup.specs.Handshakes.{IsMade, reached}
use Rattle.mk_setup.proofs.Counting.{same_lists}
use Rattle.mk_run_local.specs.Made.{kind_reply_of}
use Rattle.mk_run_crew.specs.Answers.{AreKindAnswers}
use Rattle.mk_run_crew.specs.Wholly.{is_wholly_within}
use Rattle.mk_run_crew.proofs.Unlinked.{never_linked, within_low}
use Rattle.mk_run.specs.Laws.{HasSentAll, KindsFit}
use Rattle.mk_run.proofs.RunRight.{runs_right}
use Rattle.mosaikrun_sayings.specs.Sayings.{ids_of}
use Rattle.mosaikrun_run.specs.declared.sayings.Form.{Form}
use Rattle.mosaikrun_run.specs.declared.sayings.Form.TheVariants.{Report}
use Rattle.mosaikrun_run.specs.Laws.{AlikeIsOneText, WithinIsOneText}
use Rattle.mosaikrun_run.specs.Outcomes.{IsPlayed, IsRunOutcome, IsScenarioOutcome, Outside, attempt_in, exchange_in}
use Rattle.mosaikrun_run.specs.Sayings.{text_of}
use Rattle.mosaikrun_run.proofs.Reporting.{said_is_done, texts_sequential}
use Rattle.mk_run_crew.proofs.Answered.{one_answer, low_request}
use Rattle.mk_run.proofs.Fitting.{same_ok}

-- ---- one ranking

module _ (before : ℕ → ℕ → Bool) (n : ℕ) where
  pub one_ranking : (ranks also : List ℕ) → IsRanking before n ranks → IsRanking before n also → ranks ≡ also
  one_ranking ranks also a b =
      let same : a.0 ≡ b.0 = sym (take_all n a.0 (omega (arith, a.2))) ∙ same_order before n a.0 b.0 a.1 b.1 n (omega (arith, a.2)) (omega (arith, b.2)) ∙ take_all n b.0 (omega (arith, b.2)) in
      same_lists ranks also (a.3 ∙ sym b.3)
      (λ s low.
      let r = below_get ranks s low in
      r.1 ∙ sym ((b.4 s r.0).1 (subst (λ (o : List ℕ). slice_get o r.0 ≡ Some s) same ((a.4 s r.0).0 r.1))))

-- ---- each request goes to a simulator

to_each : (f : ℕ × SimPart → Request) → ((p : ℕ × SimPart) → (f p).sim ≡ p.0) → (n k : ℕ) (sims : List SimPart) → k + length sims ≤ n → Each (λ (r : Request). r.sim < n) (map f (enumerate_from k sims))
to_each f names n k [] fits = tt
to_each f names n k (s ∷ sims) fits = (omega (arith, names (k, s), fits), to_each f names n (k + 1) sims (omega (arith, fits)))

-- ---- one plan

pub one_answers : (rows : List Turn) (S : Scenario) → IsWellformed S → is_wholly_within S ≡ true → (answers also : List Message) → length answers ≡ length (setup_requests S) → length also ≡ length (setup_requests S) → AreKindAnswers rows S answers → AreKindAnswers rows S also → answers ≡ also
one_answers rows S wellformed all answers also count counted ours theirs = same_lists answers also (count ∙ sym counted)
    (λ k low.
    let r = below_get (setup_requests S) k (omega (arith, low, count)) in
    let m = below_get answers k low in
    let n = below_get also k (omega (arith, low, count, counted)) in
    let within = within_low S all r.0.sim (low_request S wellformed k r.0 r.1) in
    m.1 ∙ ap (λ (x : Message). Some x) (one_answer rows S k r.0 m.0 n.0 (ours k r.0 m.0 r.1 m.1 within) (theirs k r.0 n.0 r.1 n.1 within)) ∙ sym n.1)

pub one_plan : (S : Scenario) (ranks : List ℕ) (answers : List Message) (P Q : Plan) → IsMade S ranks answers P → IsMade S ranks answers Q → P ≡ Q
one_plan S ranks answers P Q a b =
    let states = same_ok a.state b.state (reached S ranks answers) a.reached b.reached in
    same_ok P Q (plan_of b.state) (sym (ap plan_of states) ∙ a.plan) b.plan

-- ---- one text

-- what has a text was run
was_played : (O : Outside) (form : Form) (wanted : Bool) (S : Scenario) (text : List ℕ) (kept : Option (List ℕ)) → IsScenarioOutcome O form wanted S (Ok text) kept → IsPlayed O form wanted S (Ok text) kept
was_played O form wanted S text kept (inl unready) = let wrong = unready.is in absurd cc
was_played O form wanted S text kept (inr (inl unrun)) = elim unrun.said [ inl same ↦ absurd cc | inr mem ↦ absurd cc ]
was_played O form wanted S text kept (inr (inr played)) = played

module _ (fits : KindsFit) (O Q : Outside) (form : Form) (wanted also : Bool) (S : Scenario) (text other : List ℕ) (kept saved : Option (List ℕ)) (kinds : Q.kinds ≡ O.kinds) (wellformed : IsWellformed S) (all : is_wholly_within S ≡ true)
    (p : IsPlayed O form wanted S (Ok text) kept) (q : IsPlayed Q form also S (Ok other) saved) where
  ranks : q.ranks ≡ p.ranks
  ranks = one_ranking (has_edge (edges_of S)) (length S.sims) q.ranks p.ranks q.runnable.ranked p.runnable.ranked

  answers : q.run.answers ≡ p.run.answers
  answers = one_answers O.kinds S wellformed all q.run.answers p.run.answers q.run.made.all p.run.made.all (subst (λ (rows : List Turn). AreKindAnswers rows S q.run.answers) kinds q.run.kinds) p.run.kinds

  plan : q.plan ≡ p.plan
  plan = one_plan S p.ranks p.run.answers q.plan p.plan
      (subst (λ (r : List ℕ). IsMade S r p.run.answers q.plan) ranks (subst (λ (a : List Message). IsMade S q.ranks a q.plan) answers q.run.made)) p.run.made

  -- there are messages that answer by kind, and all messages are such
  there : (R : Messages) × AnswersByKind (kind_reply_of O.kinds S) (is_within S) p.plan R × ((i : ℕ) → is_within S i ≡ false → R i ≡ [])
  there = there_are p.plan (kind_reply_of O.kinds S) (is_within S) (fits (attempt_in O S p.ranks) p.plan p.journal O.faults O.new_faults p.outcome p.runnable.prepared p.run) (λ i. [])

  answered : AnswersByKind (kind_reply_of Q.kinds S) (is_within S) q.plan there.0
  answered = subst (λ (P : Plan). AnswersByKind (kind_reply_of Q.kinds S) (is_within S) P there.0) (sym plan)
      (subst (λ (rows : List Turn). AnswersByKind (kind_reply_of rows S) (is_within S) p.plan there.0) (sym kinds) there.1)

  same : text ≡ other
  same =
      let ours = (texts_sequential O form wanted S text kept p there.0 (record { by_kind = there.1; links = λ i l linked. absurd (never_linked O.started S all i l linked) })).0 in
      let theirs = (texts_sequential Q form also S other saved q there.0 (record { by_kind = answered; links = λ i l linked. absurd (never_linked Q.started S all i l linked) })).0 in
      ours ∙ ap (λ (P : Plan). text_of form P (run_items P there.0)) (sym plan) ∙ sym theirs

  -- the messages of both journals answer by kind, and over them each turn ends
  talks : (i : ℕ) → run_talk p.plan (got p.journal) i ≡ run_talk q.plan (got q.journal) i
  talks i = same_runs p.plan p.run.run.valid (got p.journal) (got q.journal) (λ j low. (ours.finished j low).ended) ended alike i ∙ ap (λ (P : Plan). run_talk P (got q.journal) i) (sym plan)
    where
      ours : HasSentAll (exchange_in O S) p.plan p.journal
      ours = (runs_right (exchange_in O S) p.plan p.journal O.faults O.new_faults p.outcome p.run.run).done (said_is_done form (ids_of S) p.plan p.journal p.outcome text p.said).0

      theirs : HasSentAll (exchange_in Q S) q.plan q.journal
      theirs = (runs_right (exchange_in Q S) q.plan q.journal Q.faults Q.new_faults q.outcome q.run.run).done (said_is_done form (ids_of S) q.plan q.journal q.outcome other q.said).0

      ended : (j : ℕ) → j < sim_count p.plan → all_ended (sequential p.plan (got q.journal) j) ≡ true
      ended j low = subst (λ (P : Plan). j < sim_count P → all_ended (sequential P (got q.journal) j) ≡ true) plan (λ l. (theirs.finished j l).ended) low

      by_ours : AnswersByKind (kind_reply_of O.kinds S) (is_within S) p.plan (got p.journal)
      by_ours = ours.answers (got p.journal) (λ j low. ([], sym (append_nil (got p.journal j))))

      by_theirs : AnswersByKind (kind_reply_of O.kinds S) (is_within S) p.plan (got q.journal)
      by_theirs = subst (λ (P : Plan). AnswersByKind (kind_reply_of O.kinds S) (is_within S) P (got q.journal)) plan
          (subst (λ (rows : List Turn). AnswersByKind (kind_reply_of rows S) (is_within S) q.plan (got q.journal)) kinds (theirs.answers (got q.journal) (λ j low. ([], sym (append_nil (got q.journal j))))))

      alike : Alike p.plan (got p.journal) (got q.journal)
      alike j low w u v m n a b =
          let within = within_low S all j (subst (λ (k : ℕ). j < k) p.run.run.journal.sims low) in
          by_ours.replies j low within w u m a ∙ sym (by_theirs.replies j low within w v n b)

same_of_files : KindsFit → (O Q : Outside) (wanted also : Bool) (bytes text other : List ℕ) (kept saved : Option (List ℕ)) → Q.kinds ≡ O.kinds → ((S : Scenario) → scenario_of bytes ≡ Ok S → is_wholly_within S ≡ true)
    → IsRunOutcome O wanted bytes (Ok text) kept → IsRunOutcome Q also bytes (Ok other) saved → text ≡ other
same_of_files fits O Q wanted also bytes text other kept saved kinds all (inl none) b = let wrong = none.is in absurd cc
same_of_files fits O Q wanted also bytes text other kept saved kinds all (inr a) (inl none) = let wrong = none.is in absurd cc
same_of_files fits O Q wanted also bytes text other kept saved kinds all (inr a) (inr b) =
    let one : b.scenario ≡ a.scenario = same_ok b.scenario a.scenario (scenario_of bytes) b.read a.read in
    same fits O Q Report wanted also a.scenario text other kept saved kinds a.wellformed (all a.scenario a.read) (was_played O Report wanted a.scenario text kept a.outcome)
    (was_played Q Report also a.scenario other saved (subst (λ (X : Scenario). IsScenarioOutcome Q Report also X (Ok other) saved) one b.outcome))

pub one_text : KindsFit → WithinIsOneText
one_text fits = record {
  scenarios = λ O Q form wanted also S text other kept saved kinds wellformed all a b. same fits O Q form wanted also S text other kept saved kinds wellformed all (was_played O form wanted S text kept a) (was_played Q form also S other saved b);
  files = same_of_files fits;
  talks = λ O Q form wanted also S text other kept saved kinds wellformed all p q. (plan fits O Q form wanted also S text other kept saved kinds wellformed all p q, talks fits O Q form wanted also S text other kept saved kinds wellformed all p q);
}

-- ---- simulators that answer alike

pub alike_text : AlikeIsOneText
alike_text O Q form wanted also S text other kept saved p q answers R T may also_may alike =
    let ranks : q.ranks ≡ p.ranks = one_ranking (has_edge (edges_of S)) (length S.sims) q.ranks p.ranks q.runnable.ranked p.runnable.ranked in
    let plan : q.plan ≡ p.plan = one_plan S p.ranks p.run.answers q.plan p.plan
    (subst (λ (r : List ℕ). IsMade S r p.run.answers q.plan) ranks (subst (λ (a : List Message). IsMade S q.ranks a q.plan) answers q.run.made)) p.run.made in
    let ours = texts_sequential O form wanted S text kept p R may in
    let theirs = texts_sequential Q form also S other saved q T also_may in
    let ended : (j : ℕ) → j < sim_count p.plan → all_ended (sequential p.plan T j) ≡ true =
    subst (λ (P : Plan). (j : ℕ) → j < sim_count P → all_ended (sequential P T j) ≡ true) plan theirs.1 in
    let talks = same_runs p.plan p.run.run.valid R T ours.1 ended alike in
    let sent : run_items p.plan R ≡ run_items p.plan T = fun_ext (λ i. ap items (talks i)) in
    ours.0 ∙ ap (text_of form p.plan) sent ∙ ap (λ (P : Plan). text_of form P (run_items P T)) (sym plan) ∙ sym theirs.0
