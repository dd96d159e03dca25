-- What was said on a link where a handshake ended early, and its channel was stopped.
use Rattle.std.proofs.Common.{◌≡◌, ℕ, ◌+◌, true, List, [], ◌∷◌, ◌++◌, take, filter_map, Some, sym, ap, ◌∙◌, subst, ◌⊎◌, inl, inr, arith}
use Rattle.mk_base.specs.declared.LinkNo.{LinkNo}
use Rattle.mk_base.proofs.Lists.{append_nil}
use Rattle.mk_frame.specs.Frames.{frames_of}
use Rattle.mk_message.specs.Written.{call_text}
use Rattle.mk_outside.specs.declared.fleet.LogEntry.{LogEntry}
use Rattle.mk_outside.specs.declared.fleet.LogEntry.TheVariants.{NotSaid}
use Rattle.mk_outside.specs.Logs.{said_on, last_write}
use Rattle.mk_plan.specs.declared.Call.TheVariants.{Stop}
use Rattle.mk_plan.specs.declared.Message.{Message}
use Rattle.mk_scenario.specs.declared.parts.Scenario.{Scenario}
use Rattle.mk_run_laws.specs.Channels.{Channel, IsChannelAt, IsStopped}
use Rattle.mk_run_laws.specs.Handshake.{Request, setup_requests, call_to, call_payloads, setup_payloads}
use Rattle.mk_run_laws.specs.Payloads.{link_payloads}
use Rattle.mk_run_laws.specs.Runs.{SaidWhole}
use Rattle.mk_run_laws.proofs.Clauses.{first_requests}
use Rattle.mk_run_laws.proofs.Moving.{all_at_stop}
use Rattle.mk_run_crew.specs.Halted.{count_to}

-- the payloads of the first requests and of a stop
payloads_are : (S : Scenario) (i : ℕ) (queued later : List Request) → setup_requests S ≡ queued ++ later
    → call_payloads 0 (filter_map (call_to i) queued) ++ call_text (count_to i queued) Stop ∷ [] ≡ link_payloads S i (count_to i queued) [] true
payloads_are S i queued later is = ap (λ (ps : List (List ℕ)). ps ++ call_text (count_to i queued) Stop ∷ []) (first_requests S i queued later is ∙ sym (append_nil (take (count_to i queued) (setup_payloads S i))))
    ∙ ap (λ (k : ℕ). (take (count_to i queued) (setup_payloads S i) ++ []) ++ call_text k Stop ∷ []) (let e : count_to i queued ≡ count_to i queued + 0 = omega arith in e)

-- all of them were said, but where a write took nothing or the count of faults rose
pub all_said : (S : Scenario) (log stop : List LogEntry) (some risen : Type 0) (i : ℕ) (l : LinkNo) (queued later : List Request) → setup_requests S ≡ queued ++ later → (ms : List Message) (w : Channel) → w.link ≡ l
    → IsChannelAt log ms (call_payloads 0 (filter_map (call_to i) queued)) (count_to i queued) w → IsStopped stop some w → (some → risen) → SaidWhole S (log ++ stop) risen i l (count_to i queued) []
all_said S log stop some risen i l queued later is ms w link at stopped on =
    let said : (said_on w.link (log ++ stop) ≡ frames_of (link_payloads S i (count_to i queued) [] true)) ⊎ ((last_write w.link (log ++ stop) ≡ Some (NotSaid w.link)) ⊎ some) =
    subst (λ (ps : List (List ℕ)). (said_on w.link (log ++ stop) ≡ frames_of ps) ⊎ ((last_write w.link (log ++ stop) ≡ Some (NotSaid w.link)) ⊎ some)) (payloads_are S i queued later is)
    (all_at_stop log stop ms (call_payloads 0 (filter_map (call_to i) queued)) (count_to i queued) some w at stopped) in
    subst (λ (k : LinkNo). SaidWhole S (log ++ stop) risen i k (count_to i queued) []) link
    (elim said [ inl all ↦ inl all | inr why ↦ inr (elim why [ inl held ↦ inl held | inr rose ↦ inr (on rose) ]) ])
