-- Sequential execution as a law: each act is the one that is due after the simulator's acts before,
-- over all acts.
use Rattle.std.proofs.Common.{◌≡◌, ℕ, true, List, ◌∷◌, ◌++◌}
use Rattle.mk_order_any.specs.Parts as theory
use Rattle.mk_order_any.proofs.Folding.{seq_right, made_by}
use Rattle.mk_base.specs.Lists.{Each}
use Rattle.mk_plan.specs.declared.Plan.{Plan}
use Rattle.mk_plan.specs.Plans.{IsValidPlan}
use Rattle.mk_plan.specs.Acts.{Act}
use Rattle.mk_plan.specs.Due.{is_due}
use Rattle.mk_plan.specs.Sequential.{Messages, act, sequential}
use Rattle.mk_order.proofs.RightActs.{IsRight}
use Rattle.mk_order.proofs.Theory.{parts, laws}

module _ (P : Plan) (valid : IsValidPlan P) (R : Messages) where
  pub acts_right : (i : ℕ) → Each IsRight (sequential P R i)
  unfolding theory.seq laws
  acts_right i = seq_right (parts P) (laws P valid) R i

  -- each act is due, and is the turn that follows the acts before it, over all acts
  pub act_is : (s : ℕ) (before : List Act) (u : Act) (after : List Act) → sequential P R s ≡ before ++ u ∷ after → (is_due P (sequential P R) s u.at ≡ true) × (u ≡ act P (sequential P R) s u.at before (R s))
  unfolding theory.seq
  act_is s before u after is = made_by (parts P) (laws P valid) R s before u after is
