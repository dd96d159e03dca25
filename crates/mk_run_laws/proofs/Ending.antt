-- What a run leaves when it is stopped: on each link, and at each rest.
use Rattle.std.proofs.Common.{◌≡◌, ℕ, true, List, [], ◌∷◌, ◌++◌, length, take, drop, Some, None, sym, ap, ◌∙◌, subst, ◌⊎◌, inl, inr, append_assoc}
use Rattle.std.proofs.Math.Seq.{drop-append_seam, take-append_seam, take-length}
use Rattle.mk_base.specs.declared.LinkNo.{LinkNo}
use Rattle.mk_base.specs.Lists.{BeginsWith}
use Rattle.mk_base.proofs.Lists.{append_nil}
use Rattle.mk_plan.specs.declared.Plan.{Plan}
use Rattle.mk_plan.specs.declared.Call.TheVariants.{Stop}
use Rattle.mk_plan.specs.declared.Item.{Item}
use Rattle.mk_plan.specs.declared.Message.{Message}
use Rattle.mk_plan.specs.declared.Entry.{Entry}
use Rattle.mk_plan.specs.Journals.{sent, got}
use Rattle.mk_message.specs.Written.{call_text}
use Rattle.mk_frame.specs.Frames.{frames_of}
use Rattle.mk_scenario.specs.declared.parts.Scenario.{Scenario}
use Rattle.mk_outside.specs.declared.fleet.LogEntry.{LogEntry}
use Rattle.mk_outside.specs.declared.fleet.LogEntry.TheVariants.{NotSaid, Rest}
use Rattle.mk_outside.specs.Logs.{heard_on, said_on, last_write}
use Rattle.mk_run_laws.specs.Hearing.{messages_heard, rest_heard, first_message}
use Rattle.mk_run_laws.specs.Handshake.{setup_count, setup_payloads, calls_to, sim_link}
use Rattle.mk_plan.specs.Sequential.{Messages, id_after}
use Rattle.mk_run_laws.specs.Payloads.{AreFramed, item_payloads, link_payloads}
use Rattle.mk_run_laws.specs.Channels.{Channel, IsStopped}
use Rattle.mk_run_laws.specs.Rests.{run_messages}
use Rattle.mk_run_laws.specs.Crews.{CrewState, AreStopped, IsRestless}
use Rattle.mk_run_laws.specs.Running.{RestsEnd}
use Rattle.mk_run_laws.specs.inner.Running.{HasChannel}
use Rattle.mk_run_laws.specs.Runs.{run_frames, IsLinkOfRun}
use Rattle.mk_run_laws.proofs.Taking.{taken_heard, taken_rest, none_heard}
use Rattle.mk_run_laws.proofs.Moving.{said_at_stop, framed_at_stop, all_at_stop, heard_at_stop}
use Rattle.mk_run_laws.proofs.Stepping.{first_or_second}
use Rattle.mk_run_laws.proofs.Clauses.{payloads_counted}

-- the payloads of a run are its handshake, its items and a stop
pub payloads_of_run : (S : Scenario) (i : ℕ) (items : List Item) → link_payloads S i (setup_count S i) items true ≡ (setup_payloads S i ++ item_payloads (setup_count S i) items) ++ call_text (id_after (setup_count S i) items) Stop ∷ []
payloads_of_run S i items = ap (λ (ps : List (List ℕ)). (ps ++ item_payloads (setup_count S i) items) ++ call_text (id_after (setup_count S i) items) Stop ∷ [])
    (ap (λ (n : ℕ). take n (setup_payloads S i)) (sym (payloads_counted 0 (calls_to S i))) ∙ take-length (setup_payloads S i))

module _ (started : ℕ) (S : Scenario) (replies : Messages) (counts : (i : ℕ) (l : LinkNo) → sim_link started S i ≡ Some l → length (replies i) ≡ setup_count S i) (J : List Entry) (log entries : List LogEntry) (risen : Type 0) (C : CrewState)
    (stopped : AreStopped entries risen C) (i : ℕ) (l : LinkNo) (linked : sim_link started S i ≡ Some l) (messages : List Message) (items : List Item) (h : HasChannel S replies log i l messages items C) where
  abbrev pub w : Channel
  w = h.channel

  stopped_here : IsStopped entries risen w
  stopped_here = stopped i h.channel h.there

  -- what was heard: the setup replies, the messages that were given, and what is held
  all_heard : messages_heard (heard_on l (log ++ entries)) ≡ (replies i ++ messages) ++ messages_heard w.held
  all_heard = ap (λ (k : LinkNo). messages_heard (heard_on k (log ++ entries))) (sym h.link) ∙ ap messages_heard (heard_at_stop log entries risen h.channel stopped_here)
      ∙ taken_heard (heard_on h.channel.link log) (replies i ++ messages) h.channel.held h.in_step.heard

  run_heard : run_messages S (log ++ entries) i l ≡ messages ++ messages_heard w.held
  run_heard = ap (drop (setup_count S i)) (all_heard ∙ append_assoc (replies i) messages (messages_heard w.held)) ∙ ap (λ (n : ℕ). drop n (replies i ++ (messages ++ messages_heard w.held))) (sym (counts i l linked))
      ∙ drop-append_seam (replies i) (messages ++ messages_heard w.held)

  -- the link of a run that has ended: the messages given go on from those that the journal got, and
  -- the items queued are the first of those that it sent
  pub link_ended : BeginsWith messages (got J i) → BeginsWith (sent J i) items → IsLinkOfRun S replies J (log ++ entries) risen i l items
  link_ended given queued = record {
    replied = ap (take (setup_count S i)) (all_heard ∙ append_assoc (replies i) messages (messages_heard w.held)) ∙ ap (λ (n : ℕ). take n (replies i ++ (messages ++ messages_heard w.held))) (sym (counts i l linked))
        ∙ take-append_seam (replies i) (messages ++ messages_heard w.held);
    got = (given.0 ++ messages_heard w.held, run_heard ∙ ap (λ (ms : List Message). ms ++ messages_heard w.held) given.1 ∙ append_assoc (got J i) given.0 (messages_heard w.held));
    items_sent = queued;
    said = subst (λ (k : LinkNo). BeginsWith (run_frames S i items) (said_on k (log ++ entries))) h.link (subst (λ (ps : List (List ℕ)). BeginsWith (frames_of ps) (said_on h.channel.link (log ++ entries))) (sym (payloads_of_run S i items))
        (said_at_stop log entries (replies i ++ messages) (setup_payloads S i ++ item_payloads (setup_count S i) items) (id_after (setup_count S i) items) risen h.channel h.in_step stopped_here));
    framed = subst AreFramed (sym (payloads_of_run S i items)) (framed_at_stop log entries (replies i ++ messages) (setup_payloads S i ++ item_payloads (setup_count S i) items) (id_after (setup_count S i) items) risen h.channel h.in_step stopped_here);
    whole = subst (λ (k : LinkNo). (said_on k (log ++ entries) ≡ run_frames S i items) ⊎ ((last_write k (log ++ entries) ≡ Some (NotSaid k)) ⊎ risen)) h.link
        (subst (λ (ps : List (List ℕ)). (said_on h.channel.link (log ++ entries) ≡ frames_of ps) ⊎ ((last_write h.channel.link (log ++ entries) ≡ Some (NotSaid h.channel.link)) ⊎ risen)) (sym (payloads_of_run S i items))
        (all_at_stop log entries (replies i ++ messages) (setup_payloads S i ++ item_payloads (setup_count S i) items) (id_after (setup_count S i) items) risen h.channel h.in_step stopped_here));
  }

  -- where no message is held, all messages that were heard are those that were given
  pub all_given : first_message w.held ≡ None → run_messages S (log ++ entries) i l ≡ messages
  all_given none = run_heard ∙ ap (λ (ms : List Message). messages ++ ms) (none_heard w.held none).0 ∙ append_nil messages

  -- and what is behind them is what is held
  pub rest_held : first_message w.held ≡ None → rest_heard (heard_on l (log ++ entries)) ≡ w.held
  rest_held none = ap (λ (k : LinkNo). rest_heard (heard_on k (log ++ entries))) (sym h.link) ∙ ap rest_heard (heard_at_stop log entries risen h.channel stopped_here)
      ∙ taken_rest (heard_on h.channel.link log) (replies i ++ messages) h.channel.held h.in_step.heard ∙ (none_heard w.held none).1

-- a stop adds no rest
pub rests_stopped : (started : ℕ) (S : Scenario) (replies : Messages) (P : Plan) (J : List Entry) (log entries : List LogEntry) → IsRestless entries → RestsEnd started S replies P J log → RestsEnd started S replies P J (log ++ entries)
rests_stopped started S replies P J log entries restless rests before after is up = elim (first_or_second log entries before after Rest is) [
  | inl t ↦ rests before t.0 t.1 up
  | inr t ↦ absurd (restless t.0 after t.2)
]
