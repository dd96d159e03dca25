-- A run begins where the handshake is over.
use Rattle.std.proofs.Common.{◌≡◌, inl, inr, ℕ, ◌<◌, ◌≤◌, false, List, [], ◌++◌, map, Option, Some, None, fold, option_map, refl, sym, ap, ◌∙◌, subst, arith, true≢false}
use Rattle.mk_base.proofs.Lists.{append_nil}
use Rattle.mk_base.specs.declared.LinkNo.{LinkNo}
use Rattle.mk_base.specs.Lists.{IsIn}
use Rattle.mk_plan.specs.declared.Plan.{Plan}
use Rattle.mk_plan.specs.declared.Journal.{Journal}
use Rattle.mk_outside.specs.Counts.{HasRisen}
use Rattle.mk_run_crew.specs.Attempts.{attempt}
use Rattle.mk_run_links.specs.Entries.{AreOn, IsRunLink}
use Rattle.mk_run_links.specs.Places.{AreOpen, IsChannelLink}
use Rattle.mk_run_links.proofs.OnEntries.{on_more, on_or_clock, on_run}
use Rattle.mk_setup.specs.Handshakes.{IsMade}
use Rattle.mk_plan.specs.declared.Entry.TheVariants.{Got}
use Rattle.mk_plan.specs.Plans.{IsValidPlan, sim_count, first_id}
use Rattle.mk_plan.specs.Sequential.{Messages, run_items}
use Rattle.mk_outside.specs.declared.fleet.LogEntry.{LogEntry}
use Rattle.mk_outside.specs.declared.fleet.LogEntry.TheVariants.{Rest}
use Rattle.mk_scenario.specs.declared.parts.Scenario.{Scenario}
use Rattle.mk_launch.specs.Ready.{IsPrepared}
use Rattle.mk_local.specs.declared.turn.Turn.{Turn}
use Rattle.mk_local.specs.Calls.{after_call}
use Rattle.mk_local.specs.Kinds.{name_of}
use Rattle.mk_local.specs.Simulators.{Simulator}
use Rattle.mk_run_laws.specs.Crews.{AreStopped, IsRestless}
use Rattle.mk_run_laws.specs.Handshake.{setup_requests, setup_count, calls_to, is_within}
use Rattle.mk_run_laws.proofs.Clauses.{handshake_says}
use Rattle.mk_run_laws.proofs.Stepping.{begun, first_or_second}
use Rattle.mk_sched.specs.Cores.{Stands}
use Rattle.mk_run_local.specs.Made.{made, first_at}
use Rattle.mk_run_crew.specs.declared.halt.Halt.TheVariants as halt
use Rattle.mk_run_crew.specs.Begun.{HasBegun}
use Rattle.mk_run_crew.specs.Halted.{HasHalted}
use Rattle.mk_run_crew.specs.Seen.{CrewSeen, crew_of}
use Rattle.mk_run_crew.proofs.ButOne.{begun_answered}
use Rattle.mk_run_crew.proofs.Stopped.{all_said}
use Rattle.mk_run.proofs.Inside.{here_within}
use Rattle.mk_run.specs.inner.Underway.{Setting, reply_in, IsUnderway}
use Rattle.mk_run.specs.declared.outcome.Outcome.{Outcome}
use Rattle.mk_run.specs.Ran.{RunsAs}
use Rattle.mk_run.specs.inner.Turns.{AreLinksOpen, PlanRunsAs}
use Rattle.mk_base.proofs.Items.{not_empty}
use Rattle.mk_session.proofs.Polling.{risen_after}
use Rattle.mk_run_crew.proofs.Simulators.{within_there}

-- before any entry
pub stands_first : (P : Plan) → IsValidPlan P → Stands P []
stands_first P valid = record { valid = valid; orderly = (tt, inl refl); agrees = λ R goes i low. (run_items P R i, refl); within = let few : 0 ≤ P.entries = omega arith in few }

made_of : (rows : List Turn) (S : Scenario) (i : ℕ) (L : Simulator) → first_at rows S i ≡ Some L → (M : Simulator) × (made rows S i ≡ Some M)
made_of rows S i L e = (fold after_call L (calls_to S i), ap (option_map (λ L. fold after_call L (calls_to S i))) e)

made_not : (rows : List Turn) (S : Scenario) (i : ℕ) → is_within S i ≡ false → made rows S i ≡ None
made_not rows S i outside = go (first_at rows S i) refl
  where
    go : (o : Option Simulator) → first_at rows S i ≡ o → option_map (λ (L : Simulator). fold after_call L (calls_to S i)) o ≡ None
    go None e = refl
    go (Some L) e = absurd (true≢false (sym (here_within rows S i L e) ∙ outside))

module _ (started : ℕ) (S : Scenario) (ranks : List ℕ) (rows : List Turn) (log : List LogEntry) (C : CrewSeen) (P : Plan) (b : HasBegun (attempt started S ranks rows log) C P) where
  abbrev pub setting_of : Setting
  setting_of = record { started = started; scenario = S; rows = rows; replies = b.replies; plan = P }

  pub run_begins : IsPrepared S (map name_of rows) → IsUnderway setting_of P [] log (crew_of C) C.sims
  run_begins prepared = record {
    suits = record { same = refl; sims = b.sims; first = λ i low. b.first i (subst (λ (n : ℕ). i < n) b.sims low); counts = b.counts };
    stands = stands_first P b.valid;
    patient = λ H s m more e. absurd (not_empty H more (Got s m) e);
    in_range = λ H s m more e. absurd (not_empty H more (Got s m) e);
    no_fault = refl;
    running = begun started S b.replies (reply_in setting_of) P log (crew_of C) b.begun;
    no_other = b.back;
    come = λ i within. let t = within_there rows S prepared i within in let q = made_of rows S i t.0 t.1 in (q.0, b.within i ∙ q.1, record { first = q.0; begun = q.1; sent = refl });
    only_within = λ i outside. b.within i ∙ made_not rows S i outside;
    log_right = record { setup_rests = λ before after is not_up. b.rests before after is; on_links = b.on_links };
  }

  -- or there is no memory for it: the whole handshake was said, and then a stop
  pub run_halts : (entries : List LogEntry) (some risen : Type 0) → (some → risen) → AreStopped entries some (crew_of C) → IsRestless entries → AreOn (IsChannelLink C.channels) entries → HasHalted (attempt started S ranks rows (log ++ entries)) risen halt.Mem
  run_halts entries some risen on stopped restless of_channels = record {
    queued = setup_requests S;
    later = [];
    parts = sym (append_nil (setup_requests S));
    says = λ reply i l linked. let t = b.begun.channels i l linked in
        handshake_says started S reply log entries some i l (setup_requests S) [] (sym (append_nil (setup_requests S))) (b.replies i) t.0 t.2 t.3 (stopped i t.0 t.1);
    whole = λ apart i l linked. let t = b.begun.channels i l linked in
        all_said S log entries some risen i l (setup_requests S) [] (sym (append_nil (setup_requests S))) (b.replies i) t.0 t.2 t.3 (stopped i t.0 t.1) on;
    rests = λ before after is. elim (first_or_second log entries before after Rest is) [
      | inl t ↦ (b.rests before t.0 t.1, b.begun.setting_up before t.0 t.1)
      | inr t ↦ absurd (restless t.0 after t.2)
    ];
    cause = tt;
    answered = begun_answered (attempt started S ranks rows log) C P b entries;
    on_links = on_or_clock (IsRunLink started S) (log ++ entries) (on_more (IsRunLink started S) log entries b.on_links (on_run started S C.channels entries (λ i l linked. let t = b.begun.channels i l linked in (t.0, t.1, t.2)) b.back of_channels));
  }

  pub links_open : (open_links : List LinkNo) → AreOpen C.channels open_links → AreLinksOpen setting_of open_links
  links_open open_links all i l linked = let t = b.begun.channels i l linked in subst (λ (k : LinkNo). IsIn k open_links) t.2 (all i t.0 t.1)

  run_first : (Q : Plan) → Q ≡ P → (i : ℕ) → i < sim_count Q → first_id Q i ≡ setup_count S i
  run_first Q same i low = ap (λ (X : Plan). first_id X i) same ∙ b.first i (subst (λ (n : ℕ). i < n) b.sims (subst (λ (X : Plan). i < sim_count X) same low))

  -- what the run comes to
  pub runs_so : IsPrepared S (map name_of rows) → (more : List LogEntry) (f0 f1 f2 : ℕ) → f0 ≤ f1 → (Q : Option Plan) (J : Option Journal) (end : Outcome) → PlanRunsAs P C more f1 f2 Q J end → RunsAs (attempt started S ranks rows (log ++ more)) Q J f0 f2 end
  runs_so prepared more f0 f1 f2 low (Some Q) (Some J) end r =
      let t = r setting_of log f0 low (run_begins prepared) in
      record { answers = b.answers; made = subst (IsMade S ranks b.answers) (sym t.0) b.made; kinds = b.kinds; first = λ i lower. run_first Q t.0 i lower; run = t.1; told = λ i l linked. ap (λ (f : Messages). f i) t.2 ∙ b.told i l linked }
  runs_so prepared more f0 f1 f2 low (Some Q) None end r = absurd r
  runs_so prepared more f0 f1 f2 low None (Some J) end r = absurd r
  runs_so prepared more f0 f1 f2 low None None end r = record { halt = halt.Mem; is = r.0; halted = run_halts more (HasRisen f1 f2) (HasRisen f0 f2) (risen_after f0 f1 f2 low) r.1 r.2 r.3 }
