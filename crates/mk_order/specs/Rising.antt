-- What one more entry does to the bounds and to what is due.
use Rattle.std.specs.Prelude.{◌≡◌, ℕ, true, ◌⊎◌, Some}
use Rattle.mk_base.specs.declared.tier.Tier.{Tier}
use Rattle.mk_base.specs.declared.tier.Via.{Via}
use Rattle.mk_base.specs.Tiers.{delayed, IsUpTo, IsBefore}
use Rattle.mk_plan.specs.declared.Plan.{Plan}
use Rattle.mk_plan.specs.Due.{is_due}
use Rattle.mk_plan.specs.Inputs.{is_since}
use Rattle.mk_plan.specs.Journals.{View}
use Rattle.mk_plan.specs.Walks.{IsLink, Reach, nobody}
use Rattle.mk_plan.specs.Ready.{start, last_step}

-- no end of a walk comes before all that there were, so no bound falls
abbrev pub BoundsRise : Plan → View → View → Type 0
BoundsRise P V W = (i : ℕ) (y : Tier) → Reach P (start P W) nobody i y → (z : Tier)
    × Reach P (start P V) nobody i z × IsUpTo z y

-- what becomes due lies after the last Step of its simulator, so no trigger is late
abbrev pub DuesAreLater : Plan → View → View → Type 0
DuesAreLater P V W = (i : ℕ) (y : Tier) → is_due P W.acts i y ≡ true → (is_due P V.acts i y ≡ true)
    ⊎ (is_since (last_step W i) y ≡ true)

-- whatever may still come to a simulator comes after its last Step
abbrev pub NothingIsMissed : Plan → View → Type 0
NothingIsMissed P V = (i : ℕ) (p : Tier) → last_step V i ≡ Some p → (j : ℕ) (v : Via) (y : Tier)
    → IsLink P j v i → Reach P (start P V) nobody j y → IsBefore p (delayed y v)
