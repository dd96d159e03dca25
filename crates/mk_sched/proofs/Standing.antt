-- What stands of a core, and what is derived from a journal with more entries.
use Rattle.std.proofs.Common.{◌≡◌, ◌≢◌, ℕ, ◌+◌, ◌<◌, ◌≤◌, List, [], ◌∷◌, ◌++◌, length, Option, Some, None, refl, sym, ap, ◌∙◌, subst, ◌⊎◌, inl, inr, arith, length-append, ◌==◌, false, true≢false}
use Rattle.std.proofs.lemmas.Bool.{eq-eqb}
use Rattle.mk_base.proofs.Lists.{none_some}
use Rattle.mk_plan.specs.declared.Plan.{Plan}
use Rattle.mk_plan.specs.declared.Entry.{Entry}
use Rattle.mk_plan.specs.Plans.{IsValidPlan}
use Rattle.mk_plan.specs.Journals.{View, note, view, empty_view}
use Rattle.mk_plan.specs.Orderly.{IsAllowed, IsOrderlySoFar}
use Rattle.mk_plan.specs.Ready.{IsReady}
use Rattle.mk_plan.specs.Advance.{IsAdvance}
use Rattle.mk_order.proofs.Headlines.{orderly_agrees}
use Rattle.mk_order.proofs.Pushing.{view_push, orderly_push}
use Rattle.mk_sched_agenda.specs.Mirrors.{Mirrors}
use Rattle.mk_sched_open.specs.Sims.{AreSimsOf}
use Rattle.mk_sched_supply.specs.Stock.{IsStockOf}
use Rattle.mk_sched.specs.declared.derived.Derived.{Derived}
use Rattle.mk_sched.specs.declared.faults.Ended.{Ended}
use Rattle.mk_sched.specs.declared.faults.Ended.TheVariants.{OutOfMemory}
use Rattle.mk_sched.specs.Answers.{IsOutOfMemory, moved}
use Rattle.mk_sched.specs.Cores.{CoreState, Stands}
use Rattle.mk_sched.specs.inner.Holding.{HasGivenUp}
use Rattle.mk_sched.specs.inner.Derived.{IsCurrent, IsDerived, core_of}

pub stands_of : (P : Plan) (J : List Entry) (K : Derived) (end : Option Ended) → IsDerived P J K end → Stands P J
stands_of P J K end derived = record { valid = derived.valid; orderly = derived.orderly; agrees = orderly_agrees P derived.valid J derived.orderly; within = derived.within }

pub not_same_number : (a b : ℕ) → (a == b) ≡ false → a ≢ b
not_same_number a b e same = true≢false (sym (eq-eqb a b same) ∙ e)

-- one more entry
pub one_longer : (J : List Entry) (e : Entry) → length (J ++ e ∷ []) ≡ length J + 1
one_longer J e = length-append J (e ∷ [])

-- before any entry
pub new_is : (P : Plan) (K : Derived) → IsValidPlan P → AreSimsOf P empty_view 0 K.sims → Mirrors P empty_view K.agenda → IsStockOf P empty_view K.stock → IsDerived P [] K None
new_is P K valid sims agenda stock = record {
  valid = valid;
  orderly = (tt, inl refl);
  within = omega arith;
  current = λ _. record { sims = sims; agenda = agenda; stock = stock; no_fault = refl; none_owed = refl };
}

-- the same journal, at its end
pub ended_derived : (P : Plan) (J : List Entry) (K : Derived) → IsDerived P J K None → (M : List Entry) (L : Derived) (end : Ended) → M ≡ J → IsDerived P M L (Some end)
ended_derived P J K derived M L end same = subst (λ (N : List Entry). IsDerived P N L (Some end)) (sym same) (record { valid = derived.valid; orderly = derived.orderly; within = derived.within; current = λ e. absurd (none_some (sym e)) })

-- nothing is to be given_up after an end
pub ended_given_up : (P : Plan) (J : List Entry) (K : Derived) (end : Ended) → HasGivenUp P J K (Some end)
ended_given_up P J K end = λ e. absurd (none_some (sym e))

pub derived_push : (P : Plan) (J : List Entry) (K L : Derived) (end : Option Ended) (e : Entry) → IsDerived P J K None → length J ≢ P.entries → IsAllowed IsReady IsAdvance P (view P J) e
    → ((note P (view P J) e).owed ≡ None) ⊎ (length J + 1 ≡ P.entries) → (end ≡ None → IsCurrent P (note P (view P J) e) (length J + 1) L) → IsDerived P (J ++ e ∷ []) L end
derived_push P J K L end e derived room allowed owes current = record {
  valid = derived.valid;
  orderly = (orderly_push IsReady IsAdvance P J e derived.orderly.0 allowed, elim owes [ inl none ↦ inl (ap (λ (V : View). V.owed) (view_push P J e) ∙ none) | inr full ↦ inr (one_longer J e ∙ full) ]);
  within = let e : length (J ++ e ∷ []) ≡ length J + 1 = one_longer J e in let w : length J ≤ P.entries = derived.within in omega (arith, room);
  current = λ going. subst (λ (V : View). IsCurrent P V (length (J ++ e ∷ [])) L) (sym (view_push P J e)) (subst (λ (n : ℕ). IsCurrent P (note P (view P J) e) n L) (sym (one_longer J e)) (current going));
}

-- a journal with two more entries
pub derived_twice : (P : Plan) (J : List Entry) (K L : Derived) (e f : Entry) → IsDerived P J K None → length J + 1 < P.entries → IsAllowed IsReady IsAdvance P (view P J) e → IsAllowed IsReady IsAdvance P (note P (view P J) e) f
    → (note P (note P (view P J) e) f).owed ≡ None → IsCurrent P (note P (note P (view P J) e) f) (length J + 2) L → IsDerived P (J ++ e ∷ [] ++ f ∷ []) L None
derived_twice P J K L e f derived room first second owes current =
    let so_far : IsOrderlySoFar IsReady IsAdvance P (J ++ e ∷ []) = orderly_push IsReady IsAdvance P J e derived.orderly.0 first in
    let seen : view P (J ++ e ∷ [] ++ f ∷ []) ≡ note P (note P (view P J) e) f = view_push P (J ++ e ∷ []) f ∙ ap (λ (V : View). note P V f) (view_push P J e) in
    let count : length (J ++ e ∷ [] ++ f ∷ []) ≡ length J + 2 = longer (length J) (length (J ++ e ∷ [])) (length (J ++ e ∷ [] ++ f ∷ [])) (one_longer J e) (one_longer (J ++ e ∷ []) f) in
    record {
      valid = derived.valid;
      orderly = (orderly_push IsReady IsAdvance P (J ++ e ∷ []) f so_far (subst (λ (V : View). IsAllowed IsReady IsAdvance P V f) (sym (view_push P J e)) second), inl (ap (λ (V : View). V.owed) seen ∙ owes));
      within = omega (arith, count);
      current = λ going. subst (λ (V : View). IsCurrent P V (length (J ++ e ∷ [] ++ f ∷ [])) L) (sym seen) (subst (λ (n : ℕ). IsCurrent P (note P (note P (view P J) e) f) n L) (sym count) current);
    }
  where
    longer : (a b c : ℕ) → b ≡ a + 1 → c ≡ b + 1 → c ≡ a + 2
    longer a b c p q = omega arith

-- want of memory of a core that had not ended
pub failed_core : (P : Plan) (J M : List Entry) (old : CoreState) (o n : Option Ended) → old ≡ core_of P J o → o ≡ None → n ≡ Some OutOfMemory → M ≡ J → IsOutOfMemory old (core_of P M n)
failed_core P J M old o n is none end same =
    let was : old ≡ core_of P J None = is ∙ ap (λ (e : Option Ended). core_of P J e) none in
    record {
      no_fault = λ fault faulty. none_some (sym (ap (λ (k : CoreState). k.ended) was) ∙ faulty);
      ended = subst (λ (k : CoreState). core_of P M n ≡ moved k k.entries (Some OutOfMemory)) (sym was) (ap (λ (N : List Entry). core_of P N n) same ∙ ap (λ (e : Option Ended). core_of P J e) end);
    }
