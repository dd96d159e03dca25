-- A resumed run at whose end nothing is left to do has all clauses of a run.
use Rattle.std.proofs.Common.{◌≡◌, ℕ, ◌<◌, Bool, true, List, ◌∷◌, ◌++◌, length, map, Option, None, Some, slice_get, if◌then◌else◌, sym, ap, ◌∙◌, subst, arith, length-append}
use Rattle.std.specs.List.{cons_option}
use Rattle.mk_base.specs.declared.LinkNo.{LinkNo}
use Rattle.mk_base.specs.declared.SimNo.{SimNo}
use Rattle.mk_base.proofs.Lists.{append_nil, filter_map_append}
use Rattle.mk_plan.specs.declared.Plan.{Plan}
use Rattle.mk_plan.specs.declared.Item.{Item}
use Rattle.mk_plan.specs.declared.Message.{Message}
use Rattle.mk_plan.specs.declared.Entry.{Entry}
use Rattle.mk_plan.specs.declared.Entry.TheVariants.{Got}
use Rattle.mk_plan.specs.Plans.{sim_count}
use Rattle.mk_plan.specs.Journals.{OpenTurn, View, view, sent, got, got_from, bare}
use Rattle.mk_plan.specs.Ready.{IsDone, IsReady}
use Rattle.mk_plan.specs.Advance.{IsAdvance}
use Rattle.mk_order.proofs.Headlines.{orderly_finished}
use Rattle.mk_order.proofs.Pushing.{orderly_front}
use Rattle.mk_plan.specs.Orderly.{IsOrderlySoFar}
use Rattle.mk_outside.specs.Counts.{HasRisen}
use Rattle.mk_scenario.specs.declared.parts.Scenario.{Scenario}
use Rattle.mk_record_read.specs.declared.saved.Saved.{Saved}
use Rattle.mk_run_laws.specs.Exchanges.{Exchange}
use Rattle.mk_run_laws.specs.Handshake.{is_within, sim_link}
use Rattle.mk_run_laws.specs.Kinds.{KeepsToKinds, Replies}
use Rattle.mk_run_laws.specs.Runs.{IsLinkOfRun}
use Rattle.mk_run_laws.specs.Laws.{IsJournalOf}
use Rattle.mk_run_laws.proofs.Answering.{done_answers}
use Rattle.mk_run_laws.proofs.Clauses.{run_says}
use Rattle.mk_run_laws.proofs.Saying.{items_all, step_promised}
use Rattle.mk_run.specs.declared.outcome.Outcome.TheVariants as outcome
use Rattle.mk_run.proofs.Linked.{linked_outside, within_below}
use Rattle.mk_resume_walk.specs.Talks.{free_items, up_to}
use Rattle.mk_resume_walk.proofs.Alternating.{balanced, unanswered}
use Rattle.mk_resume_walk.proofs.Fronts.{free_alternate}
use Rattle.mk_resume_walk.proofs.UpTo.{up_to_all, up_to_behind, up_to_head}
use Rattle.mk_resume_links.specs.Rests.{Counts}
use Rattle.mk_resume_links.specs.inner.Touching.{RepeatsByKind}
use Rattle.mk_resume_loop.specs.declared.ending.ResumeEnd.TheVariants as ends
use Rattle.mk_resume.specs.Resumed.{IsResumed}
use Rattle.mk_resume.specs.Laws.{DoneResumedRunsAreRuns}
use Rattle.mk_base.proofs.Counts.{same_self}
use Rattle.mk_base.proofs.Items.{at_length}

-- ---- a message in a journal

-- up to a message of the simulator, from where it stands
pub up_to_there : (s : SimNo) (m : Message) (H more : List Entry) → up_to s.0 (length (got H s.0)) (H ++ Got s m ∷ more) ≡ H
up_to_there s m H more = up_to_behind s.0 (length (got H s.0)) 0 H (Got s m ∷ more) (omega arith) ∙ ap (λ (K : List Entry). H ++ K) (up_to_head s.0 s m more 0 true (same_self s.0)) ∙ append_nil H

pub got_there : (s : SimNo) (m : Message) (H more : List Entry) → got (H ++ Got s m ∷ more) s.0 ≡ got H s.0 ++ m ∷ got more s.0
got_there s m H more = filter_map_append (got_from s.0) H (Got s m ∷ more) ∙ ap (λ (b : Bool). got H s.0 ++ cons_option (if b then Some m else None) (got more s.0)) (same_self s.0)

-- a view with this open turn everywhere
abbrev with_turn : View → Option OpenTurn → View
with_turn V o = record { acts = V.acts; open_at = λ i. o; owed = V.owed; fault = V.fault }

pub none_out : (V : View) (i : ℕ) → V.open_at i ≡ None → unanswered V i ≡ 0
none_out V i closed = ap (λ (o : Option OpenTurn). unanswered (with_turn V o) i) closed

-- where a message came without a fault, its simulator's turn was open
was_open : (P : Plan) (J H more : List Entry) (s : SimNo) (m : Message) → IsOrderlySoFar IsReady IsAdvance P J → (view P J).fault ≡ None → J ≡ H ++ Got s m ∷ more → (view P H).open_at s.0 ≡ None → ⊥
was_open P J H more s m orderly fine is closed =
    let whole : IsOrderlySoFar IsReady IsAdvance P (H ++ Got s m ∷ more) = subst (IsOrderlySoFar IsReady IsAdvance P) is orderly in
    let t = orderly_front IsReady IsAdvance P H (Got s m ∷ more) whole in
    let few : length (got H s.0) < length (got J s.0) = subst (λ (K : List Entry). length (got H s.0) < length (got K s.0)) (sym is) (let e = ap length (got_there s m H more) ∙ length-append (got H s.0) (m ∷ got more s.0) in omega (arith, e)) in
    let one = free_alternate.one_more P J orderly fine s.0 (length (got H s.0)) few in
    let there : length (sent H s.0) ≡ length (free_items J s.0 (length (got H s.0))) = ap (λ (K : List Entry). length (sent K s.0)) (sym (up_to_there s m H more)) ∙ ap (λ (K : List Entry). length (free_items K s.0 (length (got H s.0)))) (sym is) in
    let all = balanced P H t.0 t.1.0.0 s.0 in
    let out = none_out (view P H) s.0 closed in
    omega (arith, one, there, all, out)

-- where all was sent again, each message of a simulator within the program is its kind's
keeps : (P : Plan) (S : Scenario) (reply : Replies) (J : List Entry) (heard : Counts) → sim_count P ≡ length S.sims → IsOrderlySoFar IsReady IsAdvance P J → (view P J).fault ≡ None → ((i : ℕ) → i < sim_count P → heard i ≡ length (got J i)) → RepeatsByKind reply (is_within S) J heard
    → KeepsToKinds reply (is_within S) P J
keeps P S reply J heard sims orderly fine all kinds H s m more is within = record {
  is = (kinds s.0 n m within few there).0 ∙ ap (λ (K : List Entry). reply s.0 (map bare (sent K s.0))) (ap (up_to s.0 n) is ∙ up_to_there s m H more);
  open_there = was_open P J H more s m orderly fine is;
}
  where
    n : ℕ
    n = length (got H s.0)

    low : s.0 < sim_count P
    low = subst (λ (k : ℕ). s.0 < k) (sym sims) (within_below S s.0 within)

    few : length (got H s.0) < heard s.0
    few = subst (λ (k : ℕ). length (got H s.0) < k) (sym (all s.0 low)) (subst (λ (K : List Entry). length (got H s.0) < length (got K s.0)) (sym is) (let e = ap length (got_there s m H more) ∙ length-append (got H s.0) (m ∷ got more s.0) in omega (arith, e)))

    there : slice_get (got J s.0) (length (got H s.0)) ≡ Some m
    there = ap (λ (K : List Entry). slice_get (got K s.0) (length (got H s.0))) is ∙ ap (λ (ms : List Message). slice_get ms (length (got H s.0))) (got_there s m H more) ∙ at_length (got H s.0) (got more s.0) m

-- ---- the whole run

module _ (X : Exchange) (P : Plan) (saved : Saved) (J : List Entry) (faults new_faults : ℕ) (r : IsResumed X P saved J faults new_faults (ends.Outcome outcome.Done)) where
  done : IsDone P (view P J)
  done = r.shown.0

  orderly : IsOrderlySoFar IsReady IsAdvance P J
  orderly = r.eager.0.0

  all_of : (i : ℕ) (l : LinkNo) → sim_link X.started X.scenario i ≡ Some l → up_to i (r.heard i) J ≡ J
  all_of i l linked = up_to_all i (r.heard i) J (let e = r.shown.1 i (subst (λ (k : ℕ). i < k) (sym r.sims) (linked_outside X.started X.scenario i l linked).1) in omega (arith, e))

  link_of : (i : ℕ) (l : LinkNo) → sim_link X.started X.scenario i ≡ Some l → (items : List Item) → IsLinkOfRun X.scenario r.replies (up_to i (r.heard i) J) X.log (HasRisen faults new_faults) i l items → IsLinkOfRun X.scenario r.replies J X.log (HasRisen faults new_faults) i l items
  link_of i l linked items t = subst (λ (K : List Entry). IsLinkOfRun X.scenario r.replies K X.log (HasRisen faults new_faults) i l items) (all_of i l linked) t

  journal : IsJournalOf X P J
  journal = record {
    sims = r.sims;
    orderly = orderly;
    kinds = keeps P X.scenario X.reply J r.heard r.sims orderly done.no_fault r.shown.1 r.kinds;
    links = λ i l linked. let t = r.links i l linked in (link_of i l linked t.0 t.1).got;
  }

pub done_runs : DoneResumedRunsAreRuns
done_runs X P saved J faults new_faults r = record {
  replies = r.replies;
  valid = r.valid;
  journal = j;
  eager = r.eager;
  agrees = r.agrees;
  within = r.within;
  in_range = r.in_range;
  heard = λ i l linked. subst (IsLinkOfRun X.scenario r.replies J X.log (HasRisen faults new_faults) i l) (all i l linked) (link_of X P saved J faults new_faults r i l linked (r.links i l linked).0 (r.links i l linked).1);
  links = λ i l linked. let t = r.links i l linked in let k = link_of X P saved J faults new_faults r i l linked t.0 t.1 in record {
    items = t.0;
    right = run_says P r.valid X.started X.scenario j.sims X.reply X.log J j.orderly j.kinds j.links r.replies (HasRisen faults new_faults) i l t.0 k;
    whole = k.whole;
    all = all i l linked;
  };
  done = record {
    all = λ R may i. items_all P r.valid X.started X.scenario j.sims X.reply X.log J j.orderly j.kinds j.links R may r.shown.0 i;
    answers = λ R goes. done_answers P X.reply (is_within X.scenario) r.valid J j.orderly j.kinds r.shown.0 R goes;
    finished = orderly_finished P r.valid J r.eager.0 r.shown.0;
  };
  promised = λ H s x inputs advance more parts low R may. step_promised P r.valid X.started X.scenario j.sims X.reply X.log J j.orderly j.kinds j.links H s x inputs advance more parts low R may;
  setup_rests = r.setup_rests;
  on_links = r.on_links;
  shown = r.shown.0;
}
  where
    j : IsJournalOf X P J
    j = journal X P saved J faults new_faults r

    all : (i : ℕ) (l : LinkNo) (linked : sim_link X.started X.scenario i ≡ Some l) → (r.links i l linked).0 ≡ sent J i
    all i l linked = (r.links i l linked).2 ∙ ap (λ (K : List Entry). sent K i) (all_of X P saved J faults new_faults r i l linked)
