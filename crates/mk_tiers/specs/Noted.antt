-- Who may step from another time on, as starts change.
use Rattle.std.specs.Prelude.{◌≡◌, ℕ, ◌<◌, false, length, Option}
use Rattle.mk_base.specs.declared.tier.Tier.{Tier}
use Rattle.mk_plan.specs.declared.Plan.{Plan}
use Rattle.mk_plan.specs.Plans.{IsValidPlan}
use Rattle.mk_tiers.specs.declared.bits.Bits.{Bits}
use Rattle.mk_tiers.specs.Seen.{Seen, AreOfPlan, IsEarliestIn}
use Rattle.mk_tiers.specs.Sets.{has}

-- as bounds go from A to B they stay those of their plan, with as many simulators, and the set
-- grows: who isn't in it after that may step from the same time on by B as by A
pub record HasNoted (A B : Seen) (old new : Bits) : Type 0 where
  pub plan : (P : Plan) → AreOfPlan P A → AreOfPlan P B
  pub count : length B.owns ≡ length A.owns
  pub grown : (i : ℕ) → i < 256 → has new i ≡ false → has old i ≡ false
  pub same : (P : Plan) → IsValidPlan P → AreOfPlan P A → (s : ℕ) → s < length A.owns → s < 256
      → has new s ≡ false → (e : Option Tier) → IsEarliestIn P A s e → IsEarliestIn P B s e
