-- The item that a journal ends with stands at its last place, and is sent from there.
use Rattle.std.proofs.Common.{◌≡◌, ℕ, zero, suc, ◌+◌, ◌-◌, ◌≤◌, List, [], ◌∷◌, ◌++◌, length, Some, Result, Ok, Err, OnOk, IfErr, slice_get, refl, sym, ap, ◌∙◌, subst, arith, length-append}
use Rattle.mk_base.specs.declared.SimNo.{SimNo}
use Rattle.mk_base.proofs.Lists.{some_same}
use Rattle.mk_plan.specs.declared.Item.{Item}
use Rattle.mk_plan.specs.declared.Entry.{Entry}
use Rattle.mk_plan.specs.declared.Entry.TheVariants.{Sent}
use Rattle.mk_sched.specs.Cores.{CoreState}
use Rattle.mk_sched.specs.Answers.{open_id}
use Rattle.mk_run_crew.specs.Calls.{SendsAs}
use Rattle.mk_run_crew.specs.Seen.{CrewSeen}
use Rattle.mk_run.specs.declared.outcome.Outcome.{Outcome}
use Rattle.mk_run.specs.inner.Sendings.{CanSend, CanTake, EndsWithItem, IsItemAt, IsUnsent}

-- the last stands at the end
pub get_last : {X : Type 0} (xs : List X) (e : X) (i : ℕ) → i + 1 ≡ length (xs ++ e ∷ []) → slice_get (xs ++ e ∷ []) i ≡ Some e
get_last [] e zero is = refl
get_last [] e (suc i) is = absurd (omega (arith, is))
get_last (y ∷ xs) e zero is = absurd (longer xs is)
  where
    longer : (xs : List _) → 1 ≡ suc (length (xs ++ e ∷ [])) → ⊥
    longer [] q = omega (arith, q)
    longer (x ∷ xs) q = omega (arith, q)
get_last (y ∷ xs) e (suc i) is = get_last xs e i (omega (arith, is))

module _ (core : CoreState) (s : SimNo) (count : ℕ) (counted : count ≡ length core.entries) where
  -- there is an entry, where the journal ends with one
  pub some_entry : (item : Item) (id : ℕ) → EndsWithItem core s item id → 1 ≤ count
  some_entry item id e = let n : length core.entries ≡ length e.before + 1 = ap (λ (J : List Entry). length J) e.last ∙ length-append e.before (Sent s item ∷ []) in omega (arith, counted, n)

  pub last_there : (item : Item) (id : ℕ) → EndsWithItem core s item id → IsItemAt core.entries (count - 1) item
  last_there item id e =
      let same : length core.entries ≡ length (e.before ++ Sent s item ∷ []) = ap (λ (J : List Entry). length J) e.last in
      let some = some_entry item id e in
      let place : (count - 1) + 1 ≡ length (e.before ++ Sent s item ∷ []) = omega (arith, counted, same, some) in
      (s, ap (λ (J : List Entry). slice_get J (count - 1)) e.last ∙ get_last e.before (Sent s item) (count - 1) place)

  module _ (id : ℕ) (opened : open_id core s.0 ≡ Some id) where
    one_id : (item : Item) (n : ℕ) → EndsWithItem core s item n → n ≡ id
    one_id item n e = some_same (sym e.opened ∙ opened)

    pub last_taken : (C : CrewSeen) → CanSend core s C → (item : Item) × IsItemAt core.entries (count - 1) item × CanTake s.0 item id C
    last_taken C d = (d.0, last_there d.0 d.1 d.2, subst (λ (n : ℕ). CanTake s.0 d.0 n C) (one_id d.0 d.1 d.2) d.3)

    pub last_sent : (C D : CrewSeen) (r : Result (Unit {0}) Outcome) → OnOk r ((item : Item) → IsItemAt core.entries (count - 1) item → SendsAs s.0 item id C D) → OnOk r ((item : Item) (n : ℕ) → EndsWithItem core s item n → SendsAs s.0 item n C D)
    last_sent C D (Ok done) sent = λ item n e. subst (λ (k : ℕ). SendsAs s.0 item k C D) (sym (one_id item n e)) (sent item (last_there item n e))
    last_sent C D (Err end) sent = tt

    pub last_unsent : (C : CrewSeen) (r : Result (Unit {0}) Outcome) → IfErr r (λ end. (item : Item) → IsItemAt core.entries (count - 1) item → IsUnsent end s.0 item C) → IfErr r (λ end. (item : Item) (n : ℕ) → EndsWithItem core s item n → IsUnsent end s.0 item C)
    last_unsent C (Ok done) unsent = tt
    last_unsent C (Err end) unsent = λ item n e. unsent item (last_there item n e)
