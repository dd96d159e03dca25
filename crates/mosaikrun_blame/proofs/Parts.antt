-- The first part in which two plans differ is one.
use Rattle.std.proofs.Common.{◌≡◌, ℕ, ◌<◌, Some, None, inl, inr, arith}
use Rattle.std.proofs.lemmas.Bool.{cases_lt}
use Rattle.mk_plan.specs.declared.Plan.{Plan}
use Rattle.mk_plan_same.specs.declared.plans.Part.{Part}
use Rattle.mk_plan_same.specs.declared.plans.Part.TheVariants.{Bounds, Sims, Models, Entities, Conns, Asyncs}
use Rattle.mk_plan_same.specs.Parts.{AreSameBefore, IsFirstOther, IsSame, number}

-- the parts before one are the same
same_of : (P Q : Plan) (p q : Part) → number p < number q → AreSameBefore P Q q → IsSame P Q p
same_of P Q Bounds Bounds low before = absurd (omega (arith, low))
same_of P Q Bounds Sims low before = before
same_of P Q Bounds Models low before = before.0
same_of P Q Bounds Entities low before = before.0
same_of P Q Bounds Conns low before = before.0
same_of P Q Bounds Asyncs low before = before.0
same_of P Q Sims Bounds low before = absurd (omega (arith, low))
same_of P Q Sims Sims low before = absurd (omega (arith, low))
same_of P Q Sims Models low before = before.1
same_of P Q Sims Entities low before = before.1
same_of P Q Sims Conns low before = before.1
same_of P Q Sims Asyncs low before = before.1
same_of P Q Models Bounds low before = absurd (omega (arith, low))
same_of P Q Models Sims low before = absurd (omega (arith, low))
same_of P Q Models Models low before = absurd (omega (arith, low))
same_of P Q Models Entities low before = before.2
same_of P Q Models Conns low before = before.2
same_of P Q Models Asyncs low before = before.2
same_of P Q Entities Bounds low before = absurd (omega (arith, low))
same_of P Q Entities Sims low before = absurd (omega (arith, low))
same_of P Q Entities Models low before = absurd (omega (arith, low))
same_of P Q Entities Entities low before = absurd (omega (arith, low))
same_of P Q Entities Conns low before = before.3
same_of P Q Entities Asyncs low before = before.3
same_of P Q Conns Bounds low before = absurd (omega (arith, low))
same_of P Q Conns Sims low before = absurd (omega (arith, low))
same_of P Q Conns Models low before = absurd (omega (arith, low))
same_of P Q Conns Entities low before = absurd (omega (arith, low))
same_of P Q Conns Conns low before = absurd (omega (arith, low))
same_of P Q Conns Asyncs low before = before.4
same_of P Q Asyncs Bounds low before = absurd (omega (arith, low))
same_of P Q Asyncs Sims low before = absurd (omega (arith, low))
same_of P Q Asyncs Models low before = absurd (omega (arith, low))
same_of P Q Asyncs Entities low before = absurd (omega (arith, low))
same_of P Q Asyncs Conns low before = absurd (omega (arith, low))
same_of P Q Asyncs Asyncs low before = absurd (omega (arith, low))

pub one_part : (P Q : Plan) (n m : ℕ) → IsFirstOther P Q (Some n) → IsFirstOther P Q (Some m) → n ≡ m
one_part P Q n m a b = elim (cases_lt (number a.0) (number b.0)) [
  | inl less ↦ absurd (a.2.1 (same_of P Q a.0 b.0 less b.2.0))
  | inr more ↦ elim (cases_lt (number b.0) (number a.0)) [
    | inl less ↦ absurd (b.2.1 (same_of P Q b.0 a.0 less a.2.0))
    | inr same ↦ let one = a.1 in let other = b.1 in omega (arith, more, same, one, other)
  ]
]

all_same : (P Q : Plan) (p : Part) → IsFirstOther P Q None → IsSame P Q p
all_same P Q Bounds same = same.0.0
all_same P Q Sims same = same.0.1
all_same P Q Models same = same.0.2
all_same P Q Entities same = same.0.3
all_same P Q Conns same = same.0.4
all_same P Q Asyncs same = same.1

pub same_or_other : (P Q : Plan) (n : ℕ) → IsFirstOther P Q None → IsFirstOther P Q (Some n) → ⊥
same_or_other P Q n a b = b.2.1 (all_same P Q b.0 a)
