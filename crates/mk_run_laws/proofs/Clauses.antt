-- The clause on what is said, at every end of a run.
use Rattle.std.proofs.Common.{◌≡◌, ℕ, suc, ◌+◌, ◌<◌, true, List, [], ◌∷◌, ◌++◌, length, map, take, filter_map, Some, None, IsSome, refl, sym, ap, ◌∙◌, subst, inl, inr, arith, length-append}
use Rattle.std.proofs.Math.Seq.{take-append_seam}
use Rattle.mk_base.specs.declared.LinkNo.{LinkNo}
use Rattle.mk_base.specs.Lists.{BeginsWith}
use Rattle.mk_base.proofs.Lists.{append_nil, filter_map_append, none_some, some_same}
use Rattle.mk_plan.specs.declared.Plan.{Plan}
use Rattle.mk_plan.specs.declared.Call.{Call}
use Rattle.mk_plan.specs.declared.Call.TheVariants.{Stop}
use Rattle.mk_plan.specs.declared.Item.{Item}
use Rattle.mk_plan.specs.declared.Message.{Message}
use Rattle.mk_plan.specs.declared.Entry.{Entry}
use Rattle.mk_plan.specs.Plans.{sim_count, IsValidPlan}
use Rattle.mk_plan.specs.Sequential.{Messages, run_items}
use Rattle.mk_plan.specs.Journals.{got, bare}
use Rattle.mk_plan.specs.Ready.{IsReady}
use Rattle.mk_plan.specs.Advance.{IsAdvance}
use Rattle.mk_plan.specs.Orderly.{IsOrderlySoFar}
use Rattle.mk_message.specs.Written.{call_text}
use Rattle.mk_frame.specs.Frames.{frames_of}
use Rattle.mk_scenario.specs.declared.parts.Scenario.{Scenario}
use Rattle.mk_outside.specs.declared.fleet.LogEntry.{LogEntry}
use Rattle.mk_outside.specs.Logs.{said_on}
use Rattle.mk_run_laws.specs.Exchanges.{exchange}
use Rattle.mk_run_laws.specs.Handshake.{Request, setup_requests, call_to, calls_to, call_payloads, setup_payloads, setup_count, sim_link, is_within}
use Rattle.mk_run_laws.specs.Payloads.{AreFramed, link_payloads}
use Rattle.mk_run_laws.specs.Channels.{Channel, IsChannelAt, IsStopped}
use Rattle.mk_run_laws.specs.Kinds.{Replies, KeepsToKinds}
use Rattle.mk_run_laws.specs.Rests.{run_messages}
use Rattle.mk_run_laws.specs.Runs.{IsPossible, IsLinkOfRun, SaysRight}
use Rattle.mk_run_laws.proofs.Moving.{said_at_stop, framed_at_stop}
use Rattle.mk_run_laws.proofs.Saying.{items_begin}

-- a run's link says what it should
pub run_says : (P : Plan) → IsValidPlan P → (started : ℕ) (S : Scenario) → sim_count P ≡ length S.sims → (reply : Replies) (log : List LogEntry) (J : List Entry) → IsOrderlySoFar IsReady IsAdvance P J → KeepsToKinds reply (is_within S) P J
    → ((i : ℕ) (l : LinkNo) → sim_link started S i ≡ Some l → BeginsWith (run_messages S log i l) (got J i)) → (replies : Messages) (risen : Type 0) (i : ℕ) (l : LinkNo) (items : List Item) → IsLinkOfRun S replies J log risen i l items
    → SaysRight (exchange started S reply log) (Some P) i l (setup_count S i) items true
run_says P valid started S sims reply log J orderly kinds links replies risen i l items run = record {
  handshake = omega arith;
  behind = inr (refl, there P);
  said = run.said;
  framed = run.framed;
  as_executed = λ Q same R may low. let e : P ≡ Q = some_same same in subst (λ (G : Plan). BeginsWith (run_items G R i) (map bare items)) e
      (items_begin P valid started S sims reply log J orderly kinds links R (subst (λ (G : Plan). IsPossible (exchange started S reply log) G R) (sym e) may) i (subst (λ (G : Plan). i < sim_count G) (sym e) low) items run.items_sent);
}
  where
    there : (P : Plan) → IsSome (Some P)
    there P = refl

payloads_more : (id : ℕ) (a b : List Call) → (more : List (List ℕ)) × (call_payloads id (a ++ b) ≡ call_payloads id a ++ more)
payloads_more id [] b = (call_payloads id b, refl)
payloads_more id (c ∷ a) b = let t = payloads_more (id + 1) a b in (t.0, ap (λ (l : List (List ℕ)). call_text id c ∷ l) t.1)

pub payloads_counted : (id : ℕ) (calls : List Call) → length (call_payloads id calls) ≡ length calls
payloads_counted id [] = refl
payloads_counted id (c ∷ calls) = ap suc (payloads_counted (id + 1) calls)

-- the first requests of the handshake
pub first_requests : (S : Scenario) (i : ℕ) (queued later : List Request) → setup_requests S ≡ queued ++ later → call_payloads 0 (filter_map (call_to i) queued) ≡ take (length (filter_map (call_to i) queued)) (setup_payloads S i)
first_requests S i queued later is =
    let calls : calls_to S i ≡ filter_map (call_to i) queued ++ filter_map (call_to i) later = ap (filter_map (call_to i)) is ∙ filter_map_append (call_to i) queued later in
    let t = payloads_more 0 (filter_map (call_to i) queued) (filter_map (call_to i) later) in
    sym (take-append_seam (call_payloads 0 (filter_map (call_to i) queued)) t.0) ∙ ap (λ (n : ℕ). take n (call_payloads 0 (filter_map (call_to i) queued) ++ t.0)) (payloads_counted 0 (filter_map (call_to i) queued))
    ∙ ap (take (length (filter_map (call_to i) queued))) (sym t.1 ∙ ap (call_payloads 0) (sym calls))

-- where the handshake ended early, a link says the first of its requests and a stop
pub handshake_says : (started : ℕ) (S : Scenario) (reply : Replies) (log entries : List LogEntry) (risen : Type 0) (i : ℕ) (l : LinkNo) (queued later : List Request) → setup_requests S ≡ queued ++ later → (ms : List Message) (w : Channel) → w.link ≡ l
    → IsChannelAt log ms (call_payloads 0 (filter_map (call_to i) queued)) (length (filter_map (call_to i) queued)) w → IsStopped entries risen w
    → SaysRight (exchange started S reply (log ++ entries)) None i l (length (filter_map (call_to i) queued)) [] true
handshake_says started S reply log entries risen i l queued later is ms w link at stopped = record {
  handshake = let e : length (calls_to S i) ≡ length (filter_map (call_to i) queued) + length (filter_map (call_to i) later) = ap (λ (rs : List Request). length (filter_map (call_to i) rs)) is ∙ ap length (filter_map_append (call_to i) queued later)
      ∙ length-append (filter_map (call_to i) queued) (filter_map (call_to i) later) in omega (arith, e);
  behind = inl refl;
  said = subst (λ (k : LinkNo). BeginsWith (frames_of (link_payloads S i (length (filter_map (call_to i) queued)) [] true)) (said_on k (log ++ entries))) link
      (subst (λ (ps : List (List ℕ)). BeginsWith (frames_of ps) (said_on w.link (log ++ entries))) payloads_are (said_at_stop log entries ms (call_payloads 0 (filter_map (call_to i) queued)) (length (filter_map (call_to i) queued)) risen w at stopped));
  framed = subst AreFramed payloads_are (framed_at_stop log entries ms (call_payloads 0 (filter_map (call_to i) queued)) (length (filter_map (call_to i) queued)) risen w at stopped);
  as_executed = λ P e. absurd (none_some e);
}
  where
    n : ℕ
    n = length (filter_map (call_to i) queued)

    payloads_are : call_payloads 0 (filter_map (call_to i) queued) ++ call_text (length (filter_map (call_to i) queued)) Stop ∷ [] ≡ link_payloads S i (length (filter_map (call_to i) queued)) [] true
    payloads_are = ap (λ (ps : List (List ℕ)). ps ++ call_text (length (filter_map (call_to i) queued)) Stop ∷ []) (first_requests S i queued later is ∙ sym (append_nil (take (length (filter_map (call_to i) queued)) (setup_payloads S i))))
        ∙ ap (λ (k : ℕ). (take (length (filter_map (call_to i) queued)) (setup_payloads S i) ++ []) ++ call_text k Stop ∷ []) (let e : length (filter_map (call_to i) queued) ≡ length (filter_map (call_to i) queued) + 0 = omega arith in e)
