-- How links change their places.
use Rattle.std.specs.Prelude.{◌≡◌, ◌+◌, ◌≤◌, ◌⊎◌, ℕ, List, [], ◌∷◌, ◌++◌, Option, None, Some, if◌then◌else◌}
use Rattle.std.specs.List.{list_any}
use Rattle.mk_base.specs.declared.LinkNo.{LinkNo}
use Rattle.mk_base.specs.Lists.{IsIn}
use Rattle.mk_base.specs.Links.{same_link, without}
use Rattle.mk_poll.specs.Turning.{Turning}

-- no link
abbrev pub no_links : Turning
no_links = record { ready = []; taken = []; parked = [] }

-- the link was added
abbrev pub IsAdded : LinkNo → Turning → Type 0
IsAdded link t = IsIn link t.ready ⊎ (IsIn link t.taken ⊎ IsIn link t.parked)

-- how often the link stands among these
abbrev pub times_in : LinkNo → List LinkNo → ℕ
times_in link [] = 0
times_in link (other ∷ more) = if same_link other link then 1 + times_in link more
    else times_in link more

-- no link stands twice, nor in two of the places
abbrev pub IsApart : Turning → Type 0
IsApart t = (link : LinkNo)
    → times_in link t.ready + (times_in link t.taken + times_in link t.parked) ≤ 1

-- one more link, which is ready
abbrev pub added : LinkNo → Turning → Turning
added link t = record { ready = t.ready ++ link ∷ []; taken = t.taken; parked = t.parked }

-- the link behind the first of these
abbrev pub second : LinkNo → List LinkNo → List LinkNo
second link [] = link ∷ []
second link (first ∷ more) = first ∷ link ∷ more

-- the last of the links, and then the others in their order
abbrev pub last_first : List LinkNo → List LinkNo
last_first [] = []
last_first (link ∷ more) = second link (last_first more)

-- the links without this one, in whose place the last of them stands
abbrev pub lifted : LinkNo → List LinkNo → List LinkNo
lifted link [] = []
lifted link (other ∷ more) = if same_link other link then last_first more
    else other ∷ lifted link more

-- a ready link stays in its place; another one becomes the last that is ready
abbrev pub made_ready : LinkNo → Turning → Turning
made_ready link t = if list_any (λ other. same_link other link) t.ready then t
    else record {
      ready = t.ready ++ link ∷ [];
      taken = without link t.taken;
      parked = lifted link t.parked;
    }

-- a taken link, parked
abbrev pub made_parked : LinkNo → Turning → Turning
made_parked link t = record {
  ready = t.ready;
  taken = without link t.taken;
  parked = t.parked
      ++ link ∷ [];
}

-- the first ready link was taken; or none is ready
abbrev pub TakeOf : Turning → Option LinkNo → Turning → Type 0
TakeOf old None new = (old.ready ≡ []) × (new ≡ old)
TakeOf old (Some link) new = (rest : List LinkNo) × (old.ready ≡ link ∷ rest)
    × (new ≡ record { ready = rest; taken = old.taken ++ link ∷ []; parked = old.parked })
