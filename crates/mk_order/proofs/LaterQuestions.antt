-- Once a bound of a simulator is known, no later Step of it and no question of its turns comes
-- before that bound.
use Rattle.std.proofs.Common.{◌≡◌, ℕ, ℤ, List, [], ◌∷◌, ◌++◌, fold, Option, Some, sym, ap, ◌∙◌, subst}
use Rattle.std.proofs.lemmas.List.Sums.{fold-append}
use Rattle.mk_base.specs.declared.tier.Tier.{Tier}
use Rattle.mk_base.specs.Tiers.{IsUpTo}
use Rattle.mk_base.proofs.TierOrder.{up_to_trans, up_to_self}
use Rattle.mk_plan.specs.declared.Plan.{Plan}
use Rattle.mk_plan.specs.declared.Entry.{Entry}
use Rattle.mk_plan.specs.Plans.{IsValidPlan}
use Rattle.mk_plan.specs.Journals.{OpenTurn, View, empty_view, note, view}
use Rattle.mk_plan.specs.Ready.{pending, start, step_at, IsReady}
use Rattle.mk_plan.specs.Walks.{Reach, nobody, from_start, IsEarliest}
use Rattle.mk_plan.specs.Orderly.{IsOrderlyFrom, IsOrderlySoFar}
use Rattle.mk_order.specs.Pending.{IsMarkOf}
use Rattle.mk_order.proofs.Seen.{IsSound, follows, reached_sound}
use Rattle.mk_order.proofs.Going.{bounds_rise}
use Rattle.mk_order.proofs.Pushing.{orderly_front}

module _ (Ready : Plan → View → ℕ → Tier → Type 0) (Advance : Plan → View → ℕ → Tier → ℤ → Type 0) (P : Plan) (truly : (V : View) (s : ℕ) (x : Tier) → Ready P V s x → IsReady P V s x) (valid : IsValidPlan P) where
  -- over many entries each end of a walk has one before them that isn't after it
  pub bounds_rise_from : (V : View) (K : List Entry) → IsSound V → IsOrderlyFrom Ready Advance P V K → (i : ℕ) (y : Tier) → Reach P (start P (fold (note P) V K)) nobody i y → (z : Tier) × Reach P (start P V) nobody i z × IsUpTo z y
  bounds_rise_from V [] sound orderly i y walk = (y, walk, up_to_self y)
  bounds_rise_from V (e ∷ K) sound orderly i y walk =
      let t = bounds_rise_from (note P V e) K (follows Ready Advance P truly V e sound orderly.0).1 orderly.1 i y walk in
      let u = bounds_rise P valid Ready Advance truly V e sound orderly.0 i t.0 t.1 in
      (u.0, u.1, up_to_trans u.0 t.0 y u.2 t.2)

  -- a mark stays a mark
  pub mark_stays_from : (V : View) (K : List Entry) → IsSound V → IsOrderlyFrom Ready Advance P V K → (s : ℕ) (m : Tier) → IsMarkOf P V s m → IsMarkOf P (fold (note P) V K) s m
  mark_stays_from V K sound orderly s m mark = record { low = λ y walk. let t = bounds_rise_from V K sound orderly s y walk in up_to_trans m t.0 y (mark.low t.0 t.1) t.2 }

  module _ (J K : List Entry) (orderly : IsOrderlySoFar Ready Advance P (J ++ K)) where
    both_parts : IsOrderlySoFar Ready Advance P J × IsOrderlyFrom Ready Advance P (view P J) K
    both_parts = orderly_front Ready Advance P J K orderly

    view_is : view P (J ++ K) ≡ fold (note P) (view P J) K
    view_is = fold-append (note P) empty_view J K

    pub mark_stays : (s : ℕ) (m : Tier) → IsMarkOf P (view P J) s m → IsMarkOf P (view P (J ++ K)) s m
    mark_stays s m mark = subst (λ (V : View). IsMarkOf P V s m) (sym view_is) (mark_stays_from (view P J) K (reached_sound Ready Advance P truly J both_parts.0) both_parts.1 s m mark)

    -- where nothing comes to s, nothing will
    pub unreached_stays : (s : ℕ) → ((y : Tier) → Reach P (start P (view P J)) nobody s y → ⊥) → (y : Tier) → Reach P (start P (view P (J ++ K))) nobody s y → ⊥
    unreached_stays s none y walk = let t = bounds_rise_from (view P J) K (reached_sound Ready Advance P truly J both_parts.0) both_parts.1 s y (subst (λ (V : View). Reach P (start P V) nobody s y) view_is walk) in none t.0 t.1

-- ---- what a mark says

module _ (P : Plan) (V : View) (s : ℕ) (m : Tier) where
  pub earliest_is_mark : IsEarliest P (start P V) s m → IsMarkOf P V s m
  earliest_is_mark e = record { low = e.least }

  pub unreached_is_mark : ((y : Tier) → Reach P (start P V) nobody s y → ⊥) → IsMarkOf P V s m
  unreached_is_mark none = record { low = λ y walk. absurd (none y walk) }

  -- the start of s is at the mark or after it
  pub start_after : IsMarkOf P V s m → (x : Tier) → start P V s ≡ Some x → IsUpTo m x
  start_after mark x is = mark.low x (from_start s x (λ z. z) is)

  -- so is a Step that it may be asked for, and with it the question for its inputs
  pub step_after : IsMarkOf P V s m → (x : Tier) → IsReady P V s x → IsUpTo m x
  step_after mark x ready = start_after mark x (ap (λ (o : Option OpenTurn). step_at o (pending P V.acts s)) ready.closed ∙ ready.at_pending)

  -- and so is each question that is asked in an open turn
  pub turn_after : IsMarkOf P V s m → (T : OpenTurn) → V.open_at s ≡ Some T → IsUpTo m T.at
  turn_after mark T is = start_after mark T.at (ap (λ (o : Option OpenTurn). step_at o (pending P V.acts s)) is)
