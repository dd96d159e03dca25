-- What the journal gains by a call of the core, and by a turn, and that it may be shown then.
use Rattle.std.proofs.Common.{◌≡◌, inl, inr, Bool, true, drop, List, [], ◌∷◌, Result, Ok, Err, length, refl, sym, ap, ◌∙◌, subst}
use Rattle.mk_base.specs.declared.SimNo.{SimNo}
use Rattle.mk_plan.specs.declared.Plan.{Plan}
use Rattle.mk_plan.specs.declared.Entry.{Entry}
use Rattle.mk_plan.specs.declared.Entry.TheVariants.{Sent}
use Rattle.mk_plan.specs.declared.Item.TheVariants.{Step}
use Rattle.mk_plan.specs.declared.Message.{Message}
use Rattle.mk_outside.specs.declared.fleet.LogEntry.{LogEntry}
use Rattle.mk_sched.specs.declared.faults.Next.{Next}
use Rattle.mk_sched.specs.declared.faults.Next.TheVariants as next
use Rattle.mk_sched.specs.declared.faults.Taken.{Taken}
use Rattle.mk_sched.specs.declared.faults.Taken.TheVariants as taken
use Rattle.mk_sched.specs.Cores.{CoreState}
use Rattle.mk_sched.specs.Answers.{ArriveOf, IsOutOfMemory, NextOf, with_message}
use Rattle.mk_run_crew.specs.Seen.{CrewSeen}
use Rattle.mk_run.specs.declared.outcome.Outcome.{Outcome}
use Rattle.mk_run.specs.inner.Underway.{Setting}
use Rattle.mk_onlooker.specs.Showings.{AddsItems, AreInRange, IsShown}
use Rattle.mk_onlooker.proofs.OnShowings.{batch_more, items_batch, items_more, no_items, one_heard, shown_on}
use Rattle.mk_pace_laws.specs.declared.end.PaceEnd.{PaceEnd}
use Rattle.mk_pace_loop.specs.inner.Turns.{AsksAs, GainsBatch, GainsItems, GoesOn, TurnsAs}
use Rattle.mk_pace_loop.specs.inner.Waiting.{WaitingSeen}

-- ---- what is gained

pub nothing_gained : (core : CoreState) → GainsItems core core
nothing_gained core = record { plan = refl; items = no_items core.entries }

-- by a core with the same plan and the same entries
no_entry : (old new : CoreState) → new.plan ≡ old.plan → new.entries ≡ old.entries → GainsItems old new
no_entry old new plan entries = record { plan = plan; items = subst (AddsItems old.entries) (sym entries) (no_items old.entries) }

same_core : (old new : CoreState) → new ≡ old → GainsItems old new
same_core old new e = no_entry old new (ap (λ (k : CoreState). k.plan) e) (ap (λ (k : CoreState). k.entries) e)

pub gains_more : (old mid new : CoreState) → GainsItems old mid → GainsItems mid new → GainsItems old new
gains_more old mid new one two = record { plan = two.plan ∙ one.plan; items = items_more old.entries mid.entries new.entries one.items two.items }

pub items_gained : (old new : CoreState) → GainsItems old new → GainsBatch old new
items_gained old new a = record { plan = a.plan; batch = items_batch old.entries new.entries a.items }

-- what was asked behind a batch belongs to it
pub batch_gained : (old mid new : CoreState) → GainsBatch old mid → GainsItems mid new → GainsBatch old new
batch_gained old mid new one two = record { plan = two.plan ∙ one.plan; batch = batch_more old.entries mid.entries new.entries one.batch two.items }

pub nothing_heard : (core : CoreState) → GainsBatch core core
nothing_heard core = items_gained core core (nothing_gained core)

-- ---- by the core's calls

pub next_gains : (old new : CoreState) (n : Next) → NextOf old n new → GainsItems old new
next_gains old new (next.Ask sim) a = record { plan = ap (λ (k : CoreState). k.plan) a.moved; items = (Sent sim (Step a.at a.inputs a.advance) ∷ [], ap (λ (k : CoreState). k.entries) a.moved, refl) }
next_gains old new next.Wait w = same_core old new w.same
next_gains old new next.Done o = same_core old new o.same
next_gains old new (next.Fault fault) (inl was) = same_core old new was.1
next_gains old new (next.Fault fault) (inr full) = no_entry old new (ap (λ (k : CoreState). k.plan) full.ended) (ap (λ (k : CoreState). k.entries) full.ended)

pub memory_gains : (old new : CoreState) → IsOutOfMemory old new → GainsItems old new
memory_gains old new out = no_entry old new (ap (λ (k : CoreState). k.plan) out.ended) (ap (λ (k : CoreState). k.entries) out.ended)

-- the message is a batch
message_gained : (old new : CoreState) (s : SimNo) (m : Message) → new.plan ≡ old.plan → new.entries ≡ with_message old s m → GainsBatch old new
message_gained old new s m plan entries = record { plan = plan; batch = one_heard old.entries new.entries s m entries }

pub take_gains : (old new : CoreState) (s : SimNo) (m : Message) (n : Taken) → ArriveOf old s m n new → GainsBatch old new
take_gains old new s m taken.Quiet q = message_gained old new s m (ap (λ (k : CoreState). k.plan) q.moved) (ap (λ (k : CoreState). k.entries) q.moved)
take_gains old new s m taken.Send a = record {
  plan = ap (λ (k : CoreState). k.plan) a.moved;
  batch = batch_more old.entries (with_message old s m) new.entries (one_heard old.entries (with_message old s m) s m refl) (Sent s a.item ∷ [], ap (λ (k : CoreState). k.entries) a.moved, refl);
}
take_gains old new s m (taken.Fault fault) (inl was) = items_gained old new (same_core old new was.1)
take_gains old new s m (taken.Fault fault) (inr (inl un)) = items_gained old new (no_entry old new (ap (λ (k : CoreState). k.plan) un.ended) (ap (λ (k : CoreState). k.entries) un.ended))
take_gains old new s m (taken.Fault fault) (inr (inr (inl faulty))) = message_gained old new s m (ap (λ (k : CoreState). k.plan) faulty.ended) (ap (λ (k : CoreState). k.entries) faulty.ended)
take_gains old new s m (taken.Fault fault) (inr (inr (inr un))) = message_gained old new s m (ap (λ (k : CoreState). k.plan) un.ended) (ap (λ (k : CoreState). k.entries) un.ended)

-- ---- what may be shown

pub asked_in_range : (r : Result (Unit {0}) Outcome) (S : Setting) (old new : CoreState) (log : List LogEntry) (C : CrewSeen) (W V : WaitingSeen) → GoesOn S old log C W → AsksAs r old W new V → AreInRange new.entries
asked_in_range (Ok done) S old new log C W V u asked = (asked.2 S log C u).in_range
asked_in_range (Err end) S old new log C W V u asked = (asked S log C u).in_range

pub turned_in_range : (r : Result (Unit {0}) PaceEnd) (risen : Type 0) (entries : List LogEntry) (S : Setting) (old new : CoreState) (log : List LogEntry) (C D : CrewSeen) (W V : WaitingSeen) → GoesOn S old log C W → TurnsAs r entries risen old C W new D V → AreInRange new.entries
turned_in_range (Ok done) risen entries S old new log C D W V u t = (t.1 S log u).in_range
turned_in_range (Err end) risen entries S old new log C D W V u t = (t S log u).in_range

-- the journal was shown so far, and then what a turn added
pub still_shown : {O : Type 0} (looks : O → Plan → List Entry → Bool → O → Type 0) (first old new : CoreState) (was mid now : O) → IsShown looks old.plan true first.entries old.entries was mid → GainsBatch old new → looks mid new.plan (drop (length old.entries) new.entries) true now
    → IsShown looks new.plan true first.entries new.entries was now
still_shown looks first old new was mid now shown a look = shown_on looks new.plan true first.entries old.entries new.entries was mid now (subst (λ (P : Plan). IsShown looks P true first.entries old.entries was mid) (sym a.plan) shown) a.batch look
