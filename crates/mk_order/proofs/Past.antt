-- Nothing comes at or before the last Step of a simulator.
use Rattle.std.proofs.Common.{◌≡◌, ℕ, ℤ, true, List, Option, Some, None, option_map, refl, sym, ap, ◌∙◌, subst, ◌⊎◌, inl, inr, ◌<◌, pos, ◌≤ℤ◌}
use Rattle.mk_order_any.specs.Parts as theory
use Rattle.mk_order_any.proofs.Marks.{nothing_late_is_missed, new_dues_are_later, acts_right}
use Rattle.mk_base.specs.Lists.{Each}
use Rattle.mk_plan.specs.Due.{is_in_run, is_due}
use Rattle.mk_plan.specs.Plans.{sim_count, IsValidPlan}
use Rattle.mk_plan.specs.Ready.{pending, start, step_at, last_step, IsReady}
use Rattle.mk_order.proofs.Reasons.{pending_due}
use Rattle.mk_order.proofs.RightActs.{IsRight, due_not_negative}
use Rattle.mk_base.specs.declared.tier.Tier.{Tier}
use Rattle.mk_base.specs.declared.tier.Via.{Via}
use Rattle.mk_base.specs.Tiers.{delayed, IsBefore}
use Rattle.mk_plan.specs.declared.Plan.{Plan}
use Rattle.mk_plan.specs.declared.Entry.{Entry}
use Rattle.mk_plan.specs.Inputs.{is_since}
use Rattle.mk_plan.specs.Sequential.{last_time}
use Rattle.mk_plan.specs.Journals.{View, note, view}
use Rattle.mk_plan.specs.Walks.{IsLink, Reach, nobody}
use Rattle.mk_plan.specs.Orderly.{IsAllowed, IsOrderlySoFar}
use Rattle.mk_order.proofs.Theory.{parts, laws}
use Rattle.mk_order.proofs.Seen.{seen, turn_of, reached, reached_sound, follows, reach_back}

pub last_seen : (P : Plan) (V : View) (i : ℕ) → theory.last_step (parts P) (seen P V) i ≡ last_step V i
last_seen P V i = elim (V.open_at i) as (λ o. theory.case_of (option_map (turn_of P V.owed i) o) (last_time (V.acts i)) (λ T. Some T.when) ≡ step_at o (last_time (V.acts i))) [ None ↦ refl | Some T ↦ refl ]

module _ (Ready : Plan → View → ℕ → Tier → Type 0) (Advance : Plan → View → ℕ → Tier → ℤ → Type 0) (P : Plan) (truly : (V : View) (s : ℕ) (x : Tier) → Ready P V s x → IsReady P V s x) (valid : IsValidPlan P)
    (J : List Entry) (orderly : IsOrderlySoFar Ready Advance P J) where
  -- what is still to come reaches no simulator at or before its last Step
  pub nothing_missed : (i : ℕ) (p : Tier) → last_step (view P J) i ≡ Some p → (j : ℕ) (v : Via) (y : Tier) → IsLink P j v i → Reach P (start P (view P J)) nobody j y → IsBefore p (delayed y v)
  nothing_missed i p is j v y link walk = nothing_late_is_missed (parts P) (laws P valid) (seen P (view P J)) (reached Ready Advance P truly J orderly) i p (last_seen P (view P J) i ∙ is) j v y link (reach_back P (view P J) nobody j y walk)

  -- what becomes due by one more entry is later than the last Step
  pub dues_later : (e : Entry) → IsAllowed Ready Advance P (view P J) e → (j : ℕ) (y : Tier) → is_due P (note P (view P J) e).acts j y ≡ true
      → (is_due P (view P J).acts j y ≡ true) ⊎ (is_since (last_step (note P (view P J) e) j) y ≡ true)
  dues_later e allowed j y due =
      let V : View = view P J in
      elim (follows Ready Advance P truly V e (reached_sound Ready Advance P truly J orderly) allowed).0 [
        | inl moves ↦ elim (new_dues_are_later (parts P) (laws P valid) (seen P V) (seen P (note P V e)) (reached Ready Advance P truly J orderly) moves j y due) [
          | inl was ↦ inl was
          | inr new ↦ inr (ap (λ (o : Option Tier). is_since o y) (sym (last_seen P (note P V e) j)) ∙ new)
        ]
        | inr still ↦ inl (subst (λ (W : theory.View (parts P)). is_due P W.acts j y ≡ true) still due)
      ]

  -- the acts so far are right and have ended, and pending times are within the run
  pub view_right : (i : ℕ) → Each IsRight ((view P J).acts i)
  unfolding laws
  view_right i = acts_right (parts P) (laws P valid) (seen P (view P J)) (reached Ready Advance P truly J orderly) i

  pub pending_within : (s : ℕ) (x : Tier) → pending P (view P J).acts s ≡ Some x → (pos 0 ≤ℤ x.time) × (is_in_run P x ≡ true) × (s < sim_count P)
  pending_within s x is = due_not_negative P valid (view P J).acts s x view_right (pending_due P (view P J).acts s x is)
