-- What the calls of a resumed run's loop add to the journal.
use Rattle.std.proofs.Common.{◌≡◌, ◌≤◌, inl, inr, List, [], ◌∷◌, ◌++◌, length, refl, sym, ap, ◌∙◌, subst, arith}
use Rattle.std.proofs.lemmas.List.{length-append}
use Rattle.mk_base.specs.declared.SimNo.{SimNo}
use Rattle.mk_plan.specs.declared.Item.TheVariants.{Step}
use Rattle.mk_plan.specs.declared.Message.{Message}
use Rattle.mk_plan.specs.declared.Entry.{Entry}
use Rattle.mk_plan.specs.declared.Entry.TheVariants.{Sent, Got}
use Rattle.mk_sched.specs.declared.faults.Next.{Next}
use Rattle.mk_sched.specs.declared.faults.Next.TheVariants as next
use Rattle.mk_sched.specs.declared.faults.Taken.{Taken}
use Rattle.mk_sched.specs.declared.faults.Taken.TheVariants as taken
use Rattle.mk_sched.specs.Cores.{CoreState}
use Rattle.mk_sched.specs.Answers.{ArriveOf, IsOutOfMemory, NextOf}
use Rattle.mk_onlooker.specs.Showings.{AddsBatch, AddsItems}
use Rattle.mk_onlooker.proofs.OnShowings.{batch_more, items_batch, no_items, one_heard}

-- ---- nothing

pub none_added : (J K : List Entry) → K ≡ J → AddsItems J K
none_added J K e = subst (AddsItems J) (sym e) (no_items J)

pub out_of_memory_adds : (old new : CoreState) → IsOutOfMemory old new → AddsItems old.entries new.entries × (new.plan ≡ old.plan)
out_of_memory_adds old new o = (none_added old.entries new.entries (ap (λ (c : CoreState). c.entries) o.ended), ap (λ (c : CoreState). c.plan) o.ended)

-- ---- a Step that is asked

pub next_adds : (old new : CoreState) (n : Next) → NextOf old n new → AddsItems old.entries new.entries × (new.plan ≡ old.plan)
next_adds old new (next.Ask s) a = ((Sent s (Step a.at a.inputs a.advance) ∷ [], ap (λ (c : CoreState). c.entries) a.moved, refl), ap (λ (c : CoreState). c.plan) a.moved)
next_adds old new next.Wait w = (none_added old.entries new.entries (ap (λ (c : CoreState). c.entries) w.same), ap (λ (c : CoreState). c.plan) w.same)
next_adds old new next.Done o = (none_added old.entries new.entries (ap (λ (c : CoreState). c.entries) o.same), ap (λ (c : CoreState). c.plan) o.same)
next_adds old new (next.Fault f) (inl w) = (none_added old.entries new.entries (ap (λ (c : CoreState). c.entries) w.1), ap (λ (c : CoreState). c.plan) w.1)
next_adds old new (next.Fault f) (inr full) = (none_added old.entries new.entries (ap (λ (c : CoreState). c.entries) full.ended), ap (λ (c : CoreState). c.plan) full.ended)

-- ---- a message, and what is owed after it

pub arrive_adds : (old new : CoreState) (s : SimNo) (m : Message) (t : Taken) → ArriveOf old s m t new → AddsBatch old.entries new.entries × (new.plan ≡ old.plan)
arrive_adds old new s m taken.Quiet q = (one_heard old.entries new.entries s m (ap (λ (c : CoreState). c.entries) q.moved), ap (λ (c : CoreState). c.plan) q.moved)
arrive_adds old new s m taken.Send a = (
  batch_more old.entries (old.entries ++ Got s m ∷ []) new.entries (one_heard old.entries (old.entries ++ Got s m ∷ []) s m refl) (Sent s a.item ∷ [], ap (λ (c : CoreState). c.entries) a.moved, refl),
  ap (λ (c : CoreState). c.plan) a.moved,
)
arrive_adds old new s m (taken.Fault f) (inl w) = (items_batch old.entries new.entries (none_added old.entries new.entries (ap (λ (c : CoreState). c.entries) w.1)), ap (λ (c : CoreState). c.plan) w.1)
arrive_adds old new s m (taken.Fault f) (inr (inl u)) = (items_batch old.entries new.entries (none_added old.entries new.entries (ap (λ (c : CoreState). c.entries) u.ended)), ap (λ (c : CoreState). c.plan) u.ended)
arrive_adds old new s m (taken.Fault f) (inr (inr (inl e))) = (one_heard old.entries new.entries s m (ap (λ (c : CoreState). c.entries) e.ended), ap (λ (c : CoreState). c.plan) e.ended)
arrive_adds old new s m (taken.Fault f) (inr (inr (inr u))) = (one_heard old.entries new.entries s m (ap (λ (c : CoreState). c.entries) u.ended), ap (λ (c : CoreState). c.plan) u.ended)

pub untaken_adds : (old new : CoreState) → IsOutOfMemory old new → AddsBatch old.entries new.entries × (new.plan ≡ old.plan)
untaken_adds old new o = let t = out_of_memory_adds old new o in (items_batch old.entries new.entries t.0, t.1)

-- ---- what was shown before is there still

pub batch_behind : (J K : List Entry) → AddsBatch J K → length J ≤ length K
batch_behind J K a = let e = ap (λ (l : List Entry). length l) a.1 ∙ length-append J a.0 in omega (arith, e)
