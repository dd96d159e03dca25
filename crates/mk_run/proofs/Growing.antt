-- The journal of a run grows with each turn, and an item that is too long is one for a link.
use Rattle.std.proofs.Common.{◌≡◌, inl, inr, ℕ, ◌<◌, ◌≤◌, ◌-◌, List, [], ◌∷◌, ◌++◌, length, Result, Ok, Err, OnOk, OnErr, IfErr, refl, sym, ap, ◌∙◌, subst, arith, append_assoc, length-append}
use Rattle.mk_base.specs.declared.SimNo.{SimNo}
use Rattle.mk_plan.specs.declared.Plan.{Plan}
use Rattle.mk_plan.specs.declared.Item.{Item}
use Rattle.mk_plan.specs.declared.Item.TheVariants.{Step}
use Rattle.mk_plan.specs.declared.Message.{Message}
use Rattle.mk_plan.specs.declared.Entry.{Entry}
use Rattle.mk_plan.specs.declared.Entry.TheVariants.{Sent, Got}
use Rattle.mk_outside.specs.declared.fleet.LogEntry.{LogEntry}
use Rattle.mk_sched.specs.Cores.{CoreState}
use Rattle.mk_onlooker.proofs.OnShowings.{batch_more, items_batch, items_more, no_items, one_heard}
use Rattle.mk_onlooker.specs.Showings.{AddsItems}
use Rattle.mk_sched.specs.declared.faults.Next.{Next}
use Rattle.mk_sched.specs.declared.faults.Next.TheVariants as next
use Rattle.mk_sched.specs.declared.faults.Taken.{Taken}
use Rattle.mk_sched.specs.declared.faults.Taken.TheVariants as taken
use Rattle.mk_sched.specs.Answers.{ArriveOf, moved, IsAnswered, IsOutOfMemory, IsQuiet, NextOf}
use Rattle.mk_run_links.specs.Places.{IsLinked}
use Rattle.mk_run_crew.specs.declared.halt.Halt.{Halt}
use Rattle.mk_run_crew.specs.declared.halt.Halt.TheVariants as halt
use Rattle.mk_run_crew.specs.Calls.{ShowsUnsent}
use Rattle.mk_run_crew.specs.Seen.{CrewSeen}
use Rattle.mk_run.specs.declared.outcome.Outcome.{Outcome}
use Rattle.mk_run.specs.declared.outcome.Outcome.TheVariants as outcome
use Rattle.mk_run.specs.Outcomes.{outcome_of}
use Rattle.mk_run.specs.inner.Sendings.{CanSend, EndsWithItem, IsUnsent}
use Rattle.mk_run.specs.inner.Turns.{GetsBatch, GetsItems, GoesOn, IsLinkedIfLong, IsLonger}
use Rattle.mk_run.specs.inner.Underway.{Setting}

pushed_more : (J : List Entry) (e : Entry) → length J < length (J ++ e ∷ [])
pushed_more J e = let count = length-append J (e ∷ []) in omega (arith, count)

-- ---- what calls of the core add

items_same : (old new : CoreState) → new ≡ old → GetsItems old new
items_same old new e = record { plan = ap (λ (k : CoreState). k.plan) e; adds = subst (λ (J : List Entry). AddsItems old.entries J) (sym (ap (λ (k : CoreState). k.entries) e)) (no_items old.entries) }

items_kept : (old new : CoreState) (ended : _) → new ≡ moved old old.entries ended → GetsItems old new
items_kept old new ended e = record { plan = ap (λ (k : CoreState). k.plan) e; adds = subst (λ (J : List Entry). AddsItems old.entries J) (sym (ap (λ (k : CoreState). k.entries) e)) (no_items old.entries) }

pub items_out : (old new : CoreState) → IsOutOfMemory old new → GetsItems old new
items_out old new out = items_kept old new _ out.ended

pub items_next : (old new : CoreState) (n : Next) → NextOf old n new → GetsItems old new
items_next old new (next.Ask s) a = record {
  plan = ap (λ (k : CoreState). k.plan) a.moved;
  adds = (Sent s (Step a.at a.inputs a.advance) ∷ [], ap (λ (k : CoreState). k.entries) a.moved, refl);
}
items_next old new next.Wait w = items_same old new w.same
items_next old new next.Done o = items_same old new o.same
items_next old new (next.Fault f) (inl was) = items_same old new was.1
items_next old new (next.Fault f) (inr full) = items_kept old new _ full.ended

pub items_on : (first old new : CoreState) → GetsItems first old → GetsItems old new → GetsItems first new
items_on first old new one two = record { plan = two.plan ∙ one.plan; adds = items_more first.entries old.entries new.entries one.adds two.adds }

pub batch_of : (old new : CoreState) → GetsItems old new → GetsBatch old new
batch_of old new g = record { plan = g.plan; adds = items_batch old.entries new.entries g.adds }

pub batch_on : (first old new : CoreState) → GetsBatch first old → GetsItems old new → GetsBatch first new
batch_on first old new one two = record { plan = two.plan ∙ one.plan; adds = batch_more first.entries old.entries new.entries one.adds two.adds }

pub batch_out : (old new : CoreState) → IsOutOfMemory old new → GetsBatch old new
batch_out old new out = batch_of old new (items_out old new out)

pub batch_taken : (old new : CoreState) (s : SimNo) (m : Message) (t : Taken) → ArriveOf old s m t new → GetsBatch old new
batch_taken old new s m taken.Quiet q = record { plan = ap (λ (k : CoreState). k.plan) q.moved; adds = one_heard old.entries new.entries s m (ap (λ (k : CoreState). k.entries) q.moved) }
batch_taken old new s m taken.Send a = record {
  plan = ap (λ (k : CoreState). k.plan) a.moved;
  adds = (Got s m ∷ Sent s a.item ∷ [], ap (λ (k : CoreState). k.entries) a.moved ∙ append_assoc old.entries (Got s m ∷ []) (Sent s a.item ∷ []), refl);
}
batch_taken old new s m (taken.Fault f) (inl was) = batch_of old new (items_same old new was.1)
batch_taken old new s m (taken.Fault f) (inr (inl un)) = batch_of old new (items_kept old new _ un.ended)
batch_taken old new s m (taken.Fault f) (inr (inr (inl faulty))) = record { plan = ap (λ (k : CoreState). k.plan) faulty.ended; adds = one_heard old.entries new.entries s m (ap (λ (k : CoreState). k.entries) faulty.ended) }
batch_taken old new s m (taken.Fault f) (inr (inr (inr un))) = record { plan = ap (λ (k : CoreState). k.plan) un.ended; adds = one_heard old.entries new.entries s m (ap (λ (k : CoreState). k.entries) un.ended) }

-- after a message without an answer
pub quiet_more : (old new : CoreState) (s : SimNo) (m : Message) → IsQuiet old s m new → IsLonger old new
quiet_more old new s m q = record {
  plan = ap (λ (k : CoreState). k.plan) q.moved;
  count =
      let more = pushed_more old.entries (Got s m) in
      let here = ap (λ (k : CoreState). length k.entries) q.moved in
      omega (arith, more, here);
}

-- and after one with an answer
pub answered_more : (old new : CoreState) (s : SimNo) (m : Message) → IsAnswered old s m new → IsLonger old new
answered_more old new s m a = record {
  plan = ap (λ (k : CoreState). k.plan) a.moved;
  count =
      let one = pushed_more old.entries (Got s m) in
      let more = pushed_more (old.entries ++ Got s m ∷ []) (Sent s a.item) in
      let here = ap (λ (k : CoreState). length k.entries) a.moved in
      omega (arith, one, more, here);
}

-- what wasn't sent since it was too long is for a link
pub unsent_linked : (core : CoreState) (s : SimNo) (C : CrewSeen) (end : Outcome) → CanSend core s C → ((item : Item) (id : ℕ) → EndsWithItem core s item id → IsUnsent end s.0 item C) → IsLinkedIfLong C end
unsent_linked core s C end can why i n is = go t.0 (sym t.1 ∙ is) t.2
  where
    t : IsUnsent end s.0 can.0 C
    t = why can.0 can.1 can.2

    go : (h : Halt) → outcome_of h ≡ outcome.LongItem i n → ShowsUnsent h s.0 can.0 C → IsLinked i.0 C.channels
    go (halt.Setup f) e shown = absurd shown
    go halt.Fleet e shown = absurd shown
    go (halt.Gone j) e shown = absurd shown
    go (halt.Garbled j k) e shown = absurd shown
    go (halt.LongFrame j k) e shown = absurd shown
    go (halt.LongItem j k) e shown =
        let linked = can.3.linked shown.1 in
        let same : j ≡ i = cc in
        subst (λ (k : SimNo). IsLinked k.0 C.channels) same (subst (λ (k : ℕ). IsLinked k C.channels) (sym shown.0) (linked.0, linked.1))
    go halt.Mem e shown = cc

-- and so many items more
pub longer_on : (first mid last : CoreState) → IsLonger first mid → GetsItems mid last → IsLonger first last
longer_on first mid last one then = record {
  plan = then.plan ∙ one.plan;
  count =
      let before = one.count in
      let more = length-append mid.entries then.adds.0 in
      let here = ap (λ (J : List Entry). length J) then.adds.1 in
      omega (arith, before, more, here);
}

-- what was there before is there still
pub batch_count : (old new : CoreState) → GetsBatch old new → length old.entries ≤ length new.entries
batch_count old new g =
    let more = length-append old.entries g.adds.0 in
    let here = ap (λ (J : List Entry). length J) g.adds.1 in
    omega (arith, more, here)

-- so there is less room for entries
pub less_room : (T : Setting) (old new : CoreState) (log : List LogEntry) (D : CrewSeen) → IsLonger old new → GoesOn T new log D → new.plan.entries - length new.entries < old.plan.entries - length old.entries
less_room T old new log D longer u =
    let more = longer.count in
    let limit = u.stands.within in
    let same = ap (λ (P : Plan). P.entries) longer.plan in
    omega (arith, more, limit, same)

-- whatever comes of what was sent
pub whatever : (r : Result (Unit {0}) Outcome) (X : Type 0) → X → OnOk r X
whatever (Ok done) X x = x
whatever (Err end) X x = tt

pub unsent_long : (core : CoreState) (s : SimNo) (C D : CrewSeen) (r : Result (Unit {0}) Outcome) → CanSend core s C → IfErr r (λ end. (item : Item) (id : ℕ) → EndsWithItem core s item id → IsUnsent end s.0 item C) → OnErr r (D ≡ C)
    → IfErr r (IsLinkedIfLong D)
unsent_long core s C D (Ok done) can why same = tt
unsent_long core s C D (Err end) can why same = subst (λ (E : CrewSeen). IsLinkedIfLong E end) (sym same) (unsent_linked core s C end can why)
