-- What the channels of a run show over the whole log once its crew was stopped, whatever was queued
-- on them.
use Rattle.std.proofs.Common.{◌≡◌, ◌⊎◌, inl, inr, ℕ, List, [], ◌∷◌, ◌++◌, length, Some, None, sym, ◌∙◌, subst, append_assoc}
use Rattle.mk_base.specs.declared.LinkNo.{LinkNo}
use Rattle.mk_base.specs.declared.SimNo.{SimNo}
use Rattle.mk_base.specs.Lists.{BeginsWith}
use Rattle.mk_base.proofs.Lists.{append_nil}
use Rattle.mk_plan.specs.declared.Plan.{Plan}
use Rattle.mk_plan.specs.declared.Item.{Item}
use Rattle.mk_plan.specs.declared.Message.{Message}
use Rattle.mk_plan.specs.declared.Entry.{Entry}
use Rattle.mk_plan.specs.declared.Entry.TheVariants.{Got}
use Rattle.mk_plan.specs.Journals.{sent, got}
use Rattle.mk_plan.specs.Sequential.{Messages}
use Rattle.mk_scenario.specs.declared.parts.Scenario.{Scenario}
use Rattle.mk_outside.specs.declared.fleet.LogEntry.{LogEntry}
use Rattle.mk_outside.specs.Logs.{heard_on}
use Rattle.mk_sched.specs.declared.faults.CoreFault.{CoreFault}
use Rattle.mk_run_laws.specs.Hearing.{first_message, rest_heard}
use Rattle.mk_run_laws.specs.Handshake.{setup_count, sim_link}
use Rattle.mk_run_laws.specs.Crews.{CrewState, AreStopped}
use Rattle.mk_run_laws.specs.Rests.{run_messages}
use Rattle.mk_run_laws.specs.inner.Running.{HasChannel}
use Rattle.mk_run_laws.proofs.Ending.{link_ended, all_given, rest_held}
use Rattle.mk_run_laws.proofs.Stepping.{got_here, sent_got}
use Rattle.mk_run.specs.Ends.{IsFull, IsMessageLeft, IsOpenWithin, IsUngot, NeedsMore}

pub begins_itself : {X : Type 0} (xs : List X) → BeginsWith xs xs
begins_itself xs = ([], sym (append_nil xs))

pub stopped_by : (entries : List LogEntry) (some all : Type 0) (C : CrewState) → (some → all) → AreStopped entries some C → AreStopped entries all C
stopped_by entries some all C more stopped i w there =
    let s = stopped i w there in
    record { unheard = s.unheard; said = s.said; framed = s.framed; whole = elim s.whole [ inl said ↦ inl said | inr why ↦ inr (elim why [ inl held ↦ inl held | inr risen ↦ inr (more risen) ]) ] }

-- a message was heard behind those that the journal got, which hasn't got it
pub behind_ungot : (started : ℕ) (S : Scenario) (J : List Entry) (log : List LogEntry) (s : SimNo) (m : Message) (l : LinkNo) → sim_link started S s.0 ≡ Some l → BeginsWith (run_messages S log s.0 l) (got J s.0 ++ m ∷ []) → IsUngot started S J log
behind_ungot started S J log s m l linked behind = record {
  sim = s.0;
  link = l;
  linked = linked;
  message = m;
  later = behind.0;
  heard = behind.1 ∙ append_assoc (got J s.0) (m ∷ []) behind.0;
}

-- a full journal needs one entry more still
more_still : (P : Plan) (J : List Entry) (before after : Type 0) → (before → after) → NeedsMore P J before → NeedsMore P J after
more_still P J before after on (inl owed) = inl owed
more_still P J before after on (inr (inl ready)) = inr (inl ready)
more_still P J before after on (inr (inr t)) = inr (inr (on t.0, t.1))

pub full_still : (started : ℕ) (S : Scenario) (P : Plan) (J : List Entry) (log : List LogEntry) (f : CoreFault) (ahead : Type 0) → (ahead → IsUngot started S J log) → IsFull P J f (ahead ⊎ IsOpenWithin S P J) → IsFull P J f (IsMessageLeft started S P J log)
full_still started S P J log f ahead ungot full = record {
  named = full.named;
  full = full.full;
  no_fault = full.no_fault;
  more = more_still P J (ahead ⊎ IsOpenWithin S P J) (IsMessageLeft started S P J log) (λ left. elim left [ inl a ↦ inl (ungot a) | inr opened ↦ inr opened ]) full.more;
}

module _ (started : ℕ) (S : Scenario) (replies : Messages) (counts : (i : ℕ) (l : LinkNo) → sim_link started S i ≡ Some l → length (replies i) ≡ setup_count S i) (log entries : List LogEntry) (risen : Type 0) (C : CrewState) (stopped : AreStopped entries risen C) where
  -- a channel that gave these messages and holds no further one: they are all that were heard of
  -- the run, and behind them is what is held
  module _ (i : ℕ) (l : LinkNo) (linked : sim_link started S i ≡ Some l) (messages : List Message) (items : List Item) (h : HasChannel S replies log i l messages items C) (none : first_message h.channel.held ≡ None) where
    pub all_heard : messages ≡ run_messages S (log ++ entries) i l
    all_heard = sym (all_given started S replies counts [] log entries risen C stopped i l linked messages items h none)

    pub held_heard : h.channel.held ≡ rest_heard (heard_on l (log ++ entries))
    held_heard = sym (rest_held started S replies counts [] log entries risen C stopped i l linked messages items h none)

  -- a message that a channel gave behind those of a journal was heard behind them, where the items
  -- queued are the first of the journal's
  pub heard_behind : (J : List Entry) (s : SimNo) (m : Message) (l : LinkNo) → sim_link started S s.0 ≡ Some l → (items : List Item) → HasChannel S replies log s.0 l (got J s.0 ++ m ∷ []) items C → BeginsWith (sent J s.0) items → BeginsWith (run_messages S (log ++ entries) s.0 l) (got J s.0 ++ m ∷ [])
  heard_behind J s m l linked items channel queued = subst (BeginsWith (run_messages S (log ++ entries) s.0 l)) (got_here J s m)
      (link_ended started S replies counts (J ++ Got s m ∷ []) log entries risen C stopped s.0 l linked (got J s.0 ++ m ∷ []) items channel
      (subst (BeginsWith (got J s.0 ++ m ∷ [])) (sym (got_here J s m)) (begins_itself (got J s.0 ++ m ∷ [])))
      (subst (λ (all : List Item). BeginsWith all items) (sym (sent_got J s m s.0)) queued)).got
