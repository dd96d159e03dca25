-- For proofs alone. Beside `Links`, which has what a reader needs.
use Rattle.std.specs.Prelude.{◌≡◌, ◌+◌, ◌<◌, ◌≤◌, ℕ, List, length, Option, Some, slice_get, option_and_then}
use Rattle.mk_base.specs.declared.LinkNo.{LinkNo}
use Rattle.mk_poll.specs.Turning.{Turning}
use Rattle.mk_poll.specs.Links.{times_in}

-- there is room for so many links in each of the three places, and there are no more
pub record HasRoom (count ready taken parked room_ready room_taken room_parked : ℕ) : Type 0 where
  pub within : ready + (taken + parked) ≤ count
  pub for_ready : count ≤ room_ready
  pub for_taken : count ≤ room_taken
  pub for_parked : count ≤ room_parked

-- the spot of a link, if it has one
abbrev pub spot_at : List (Option ℕ) → LinkNo → Option ℕ
spot_at spots link = option_and_then (λ spot. spot) (slice_get spots link.0)

-- the spot of each parked link is its place among them, and no other link has one
pub record AreAt (spot : LinkNo → Option ℕ) (parked : List LinkNo) : Type 0 where
  pub here : (i : ℕ) (link : LinkNo) → slice_get parked i ≡ Some link → spot link ≡ Some i
  pub there : (i : ℕ) (link : LinkNo) → spot link ≡ Some i → slice_get parked i ≡ Some link

-- each of these links has a number below this one
abbrev pub AreBelow : ℕ → List LinkNo → Type 0
AreBelow count links = (link : LinkNo) → 1 ≤ times_in link links → link.0 < count

-- how often the link stands in the three places
abbrev pub times_of : LinkNo → Turning → ℕ
times_of link t = times_in link t.ready + (times_in link t.taken + times_in link t.parked)

-- the spots are those of these turns
pub record HaveSpots (spots : List (Option ℕ)) (t : Turning) : Type 0 where
  pub below : (link : LinkNo) → 1 ≤ times_of link t → link.0 < length spots
  pub at : AreAt (spot_at spots) t.parked

-- the spot of a link was set, and those of all others are as before
pub record IsSpotSet (link : LinkNo) (spot : Option ℕ) (old new : List (Option ℕ)) : Type 0 where
  pub here : spot_at new link ≡ spot
  pub others : (other : LinkNo) → (other.0 ≡ link.0 → ⊥) → spot_at new other ≡ spot_at old other
  pub count : length new ≡ length old

-- there may be more links, which have no spot
pub record AreMore (old new : List (Option ℕ)) : Type 0 where
  pub same : (link : LinkNo) → spot_at new link ≡ spot_at old link
  pub count : length old ≤ length new
