-- A paced run ends where it is.
use Rattle.std.proofs.Common.{◌≡◌, ◌⊎◌, inl, inr, ℕ, ◌<◌, ◌≤◌, true, List, [], ◌∷◌, length, filter, Option, Some, None, refl, sym, ap, ◌∙◌, subst, arith}
use Rattle.mk_base.specs.declared.LinkNo.{LinkNo}
use Rattle.mk_base.proofs.Lists.{append_nil, none_some}
use Rattle.mk_plan.specs.declared.Entry.{Entry}
use Rattle.mk_plan.specs.declared.Item.{Item}
use Rattle.mk_plan.specs.declared.Item.TheVariants.{Step, GetData, Answer, Refuse}
use Rattle.mk_plan.specs.declared.Plan.{Plan}
use Rattle.mk_plan.specs.Journals.{got}
use Rattle.mk_plan.specs.Plans.{sim_count}
use Rattle.mk_plan.specs.Sequential.{takes_id}
use Rattle.mk_outside.specs.declared.fleet.LogEntry.{LogEntry}
use Rattle.mk_local.specs.Simulators.{Simulator}
use Rattle.mk_sched.specs.declared.faults.CoreFault.{CoreFault}
use Rattle.mk_sched.specs.Cores.{CoreState}
use Rattle.mk_sched.specs.Answers as sched
use Rattle.mk_sched.specs.Answers.{IsOutOfMemory, IsOver, WasFaulty}
use Rattle.mk_run_laws.specs.Crews.{CrewState}
use Rattle.mk_run_laws.specs.Handshake.{is_within, sim_link}
use Rattle.mk_run_crew.specs.Seen.{CrewSeen, crew_of}
use Rattle.mk_run.specs.declared.outcome.Outcome.{Outcome}
use Rattle.mk_run.specs.declared.outcome.Outcome.TheVariants as outcome
use Rattle.mk_run.specs.Ends.{IsAwaiting, fault_named}
use Rattle.mk_run.specs.inner.Turns.{Waits}
use Rattle.mk_run.specs.inner.Underway.{Setting}
use Rattle.mk_run.proofs.Linked.{linked_outside, within_below}
use Rattle.mk_run.proofs.Endings.{limit_unnamed, queued_itself as all_queued}
use Rattle.mk_pace_held.specs.declared.held.Held.{Held}
use Rattle.mk_pace_laws.specs.declared.end.Moment.{Moment}
use Rattle.mk_pace_laws.specs.declared.end.PaceEnd.{PaceEnd}
use Rattle.mk_pace_laws.specs.declared.end.PaceEnd.TheVariants as pace
use Rattle.mk_pace_laws.specs.Ends.{IsBroken, QueuedOut, fault_of}
use Rattle.mk_pace_laws.specs.Moments.{Tempo, sent_out, timing}
use Rattle.mk_pace_laws.proofs.SentOut.{WaitsByStep, sent_out_is}
use Rattle.mk_pace_loop.specs.inner.PacedOut.{EndsOutcome, EndsPace, HasPacedOut, IsLastPacedChannel}
use Rattle.mk_pace_loop.specs.inner.Pacing.{AreHeldItems, BeginsWithStep, IsPacing}
use Rattle.mk_pace_loop.specs.inner.Turns.{GoesOn, IsStopping}
use Rattle.mk_pace_loop.specs.inner.Waiting.{WaitingSeen, waiting_seen}

-- all is queued of what was queued
pub queued_itself : (end : PaceEnd) (items : List Item) → QueuedOut end items items
queued_itself (pace.Outcome end) items = all_queued end items
queued_itself (pace.Late sim time late allowed) items = refl

-- what is held begins with a Step, and so does what waits
pub waits_by_step : (P : Plan) (T : Tempo) (J : List Entry) (s : ℕ) (before : List Item) (held : List Held) (items : List Item) → AreHeldItems P T J s before held items → BeginsWithStep held → WaitsByStep items
waits_by_step P T J s before [] [] are begins = inl refl
waits_by_step P T J s before [] (i ∷ items) are begins = absurd are
waits_by_step P T J s before (h ∷ held) [] are begins = absurd are
waits_by_step P T J s before (h ∷ held) (Step x inputs advance ∷ items) are begins = inr (x, inputs, advance, items, refl)
waits_by_step P T J s before (h ∷ held) (GetData wanted ∷ items) are begins = absurd (none_some (sym (are.0).due ∙ begins.1))
waits_by_step P T J s before (h ∷ held) (Answer id content ∷ items) are begins = absurd (none_some (sym (are.0).due ∙ begins.1))
waits_by_step P T J s before (h ∷ held) (Refuse id reason ∷ items) are begins = absurd (none_some (sym (are.0).due ∙ begins.1))

module _ (S : Setting) (T : Tempo) (strict : Option ℕ) (P : Plan) (J : List Entry) (log : List LogEntry) (C : CrewState) (sims : List (Option Simulator)) (holds : List (List Held)) (moments : List Moment) (p : IsPacing S P J log C sims (waiting_seen T strict holds moments)) where
  -- what was sent out is what was queued
  pub sent_is : (i : ℕ) → i < sim_count P → sent_out J moments i ≡ p.queued i
  sent_is i low = let t = p.holding i low in sent_out_is J moments i (p.queued i) t.waiting t.items (waits_by_step P T J i (p.queued i) t.held t.waiting t.are (p.steps i t.held tt t.there)) (p.counts i low)

  pub linked_low : (i : ℕ) (l : LinkNo) → sim_link S.started S.scenario i ≡ Some l → i < sim_count P
  linked_low i l linked = subst (λ (n : ℕ). i < n) (sym (p.suits).sims) (linked_outside S.started S.scenario i l linked).1

  pub within_low : (i : ℕ) → is_within S.scenario i ≡ true → i < sim_count P
  within_low i inside = subst (λ (n : ℕ). i < n) (sym (p.suits).sims) (within_below S.scenario i inside)

  last_channel : (end : PaceEnd) (i : ℕ) (l : LinkNo) → sim_link S.started S.scenario i ≡ Some l → IsLastPacedChannel S (timing T strict moments) J log C end i l
  last_channel end i l linked =
      let low = linked_low i l linked in
      let t = p.holding i low in
      record {
        messages = got J i;
        items = p.queued i;
        channel = p.channels i l linked;
        given = ([], sym (append_nil (got J i)));
        queued = (t.waiting, t.items);
        out = subst (λ (all : List Item). QueuedOut end all (p.queued i)) (sym (sent_is i low)) (queued_itself end (p.queued i));
        told = p.told i;
        timely = p.timely i l linked;
      }

  pub few_got : (i : ℕ) → is_within S.scenario i ≡ true → length (got J i) ≤ length (filter takes_id (sent_out J moments i))
  few_got i inside =
      let counted = p.replied i inside in
      let same : length (filter takes_id (sent_out J moments i)) ≡ length (filter takes_id (p.queued i)) = ap (λ (l : List Item). length (filter takes_id l)) (sent_is i (within_low i inside)) in
      omega (arith, counted, same)

  pub ends_here : (risen : Type 0) (end : PaceEnd) → None ≡ fault_of end → EndsPace risen S P (timing T strict moments) J log C end → (IsBroken end → IsAwaiting P J) → HasPacedOut risen S (timing T strict moments) P J log C end
  ends_here risen end unnamed ends unfinished = record {
    suits = p.suits;
    stands = p.stands;
    patient = p.patient;
    in_range = p.in_range;
    kinds = p.kinds;
    channels = last_channel end;
    no_other = p.no_other;
    origin = p.origin;
    moments_are = p.moments_are;
    within = few_got;
    setup_rests = p.setup_rests;
    on_links = p.on_links;
    naps = p.naps;
    looks = p.looks;
    ends = ends;
    fault = p.no_fault ∙ unnamed;
    unfinished = unfinished;
  }

-- ---- while whoever is ready is asked

module _ (S : Setting) (old new : CoreState) (log : List LogEntry) (C : CrewSeen) (W : WaitingSeen) (p : GoesOn S old log C W) where
  here : (risen : Type 0) (end : Outcome) → None ≡ fault_named end → EndsOutcome risen S old.plan old.entries log (crew_of C) end → (IsBroken (pace.Outcome end) → IsAwaiting old.plan old.entries) → IsStopping risen S old log C W (pace.Outcome end)
  here risen end = ends_here S W.tempo W.strict old.plan old.entries log (crew_of C) C.sims W.holds W.moments p risen (pace.Outcome end)

  -- nothing is left to do
  pub done_ends : IsOver old new → IsStopping ⊥ S new log C W (pace.Outcome outcome.Done)
  done_ends o = subst (λ (c : CoreState). IsStopping ⊥ S c log C W (pace.Outcome outcome.Done)) (sym o.same) (here ⊥ outcome.Done refl o.done (λ broken. absurd broken))

  -- there is no room for a Step
  pub full_ends : (f : CoreFault) → old.ended ≡ None → WasFaulty old f new ⊎ sched.IsFull old f new → IsStopping ⊥ S new log C W (pace.Outcome (outcome.Core f))
  full_ends f going (inl was) = absurd (none_some (sym going ∙ was.0))
  full_ends f going (inr full) = subst (λ (c : CoreState). IsStopping ⊥ S c log C W (pace.Outcome (outcome.Core f))) (sym full.ended)
      (here ⊥ (outcome.Core f) (limit_unnamed f old.plan.entries full.named) (inr (record { named = full.named; full = full.full; no_fault = p.no_fault; more = inr (inl full.ready) })) (λ broken. absurd broken))

  -- the core wants memory for what is next
  pub mem_ends : IsOutOfMemory old new → IsStopping ⊥ S new log C W (pace.Outcome outcome.Mem)
  mem_ends o = subst (λ (c : CoreState). IsStopping ⊥ S c log C W (pace.Outcome outcome.Mem)) (sym o.ended) (here ⊥ outcome.Mem refl tt (λ broken. absurd broken))

-- ---- where the fleet fails

pub fleet_ends : (risen : Type 0) (S : Setting) (core : CoreState) (log : List LogEntry) (C : CrewSeen) (W : WaitingSeen) → GoesOn S core log C W → Waits core → risen → IsStopping risen S core log C W (pace.Outcome outcome.Fleet)
fleet_ends risen S core log C W p waits rose = ends_here S W.tempo W.strict core.plan core.entries log (crew_of C) C.sims W.holds W.moments p risen (pace.Outcome outcome.Fleet) refl rose (λ broken. (waits.1, waits.0))
