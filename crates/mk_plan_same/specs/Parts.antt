-- The parts of two plans, and the first in which they differ.
use Rattle.std.specs.Prelude.{◌≡◌, ℕ, Option, Some, None, ⊤}
use Rattle.mk_plan.specs.declared.Plan.{Plan}
use Rattle.mk_plan_same.specs.declared.plans.Part.{Part}
use Rattle.mk_plan_same.specs.declared.plans.Part.TheVariants.{Bounds, Sims, Models, Entities, Conns, Asyncs}

-- the number of a part
abbrev pub number : Part → ℕ
number Bounds = 1
number Sims = 2
number Models = 3
number Entities = 4
number Conns = 5
number Asyncs = 6

-- two runs end at the same time and have the same loop limit
abbrev pub HaveSameBounds : Plan → Plan → Type 0
HaveSameBounds a b = (a.until ≡ b.until) × (a.loops ≡ b.loops)

-- the parts before this one are the same
abbrev pub AreSameBefore : Plan → Plan → Part → Type 0
AreSameBefore a b Bounds = ⊤
AreSameBefore a b Sims = HaveSameBounds a b
AreSameBefore a b Models = HaveSameBounds a b × (a.sims ≡ b.sims)
AreSameBefore a b Entities = HaveSameBounds a b × (a.sims ≡ b.sims) × (a.models ≡ b.models)
AreSameBefore a b Conns = HaveSameBounds a b × (a.sims ≡ b.sims) × (a.models ≡ b.models)
    × (a.entities ≡ b.entities)
AreSameBefore a b Asyncs = HaveSameBounds a b × (a.sims ≡ b.sims) × (a.models ≡ b.models)
    × (a.entities ≡ b.entities) × (a.conns ≡ b.conns)

-- this part is the same
abbrev pub IsSame : Plan → Plan → Part → Type 0
IsSame a b Bounds = HaveSameBounds a b
IsSame a b Sims = a.sims ≡ b.sims
IsSame a b Models = a.models ≡ b.models
IsSame a b Entities = a.entities ≡ b.entities
IsSame a b Conns = a.conns ≡ b.conns
IsSame a b Asyncs = a.asyncs ≡ b.asyncs

-- the first part that isn't the same, or none where all are
abbrev pub IsFirstPart : Plan → Plan → Option Part → Type 0
IsFirstPart a b None = AreSameBefore a b Asyncs × IsSame a b Asyncs
IsFirstPart a b (Some part) = AreSameBefore a b part × (IsSame a b part → ⊥)

-- the number of that part
abbrev pub IsFirstOther : Plan → Plan → Option ℕ → Type 0
IsFirstOther a b None = IsFirstPart a b None
IsFirstOther a b (Some n) = (part : Part) × (n ≡ number part) × IsFirstPart a b (Some part)
