-- For proofs alone. How a stock comes about and takes outputs.
use Rattle.std.specs.Prelude.{◌≡◌, ℕ, Bool, false, List, [], map, take, length, Option, Some, None, is_some, option_map, unwrap_or, slice_get}
use Rattle.mk_base.specs.declared.json.Json.{Json}
use Rattle.mk_base.specs.declared.tier.Tier.{Tier}
use Rattle.mk_base.specs.Texts.{text_of}
use Rattle.mk_plan.specs.declared.Plan.{Plan}
use Rattle.mk_plan.specs.declared.Want.{Want}
use Rattle.mk_plan.specs.Plans.{owner, sim_count, eid_of}
use Rattle.mk_plan.specs.Turns.{wanted}
use Rattle.mk_plan.specs.Deliveries.{Supply, triggering_in}
use Rattle.mk_buffers.specs.declared.buffers.Buffers.{Buffers}
use Rattle.mk_buffers.specs.Held.{with_output}
use Rattle.mk_buffers.specs.Standing.{StandFor}
use Rattle.mk_sched_supply.specs.declared.feeds.Feed.{Feed}
use Rattle.mk_sched_supply.specs.declared.stock.Stock.{Stock}
use Rattle.mk_sched_supply.specs.Stock.{ArePlaces}

-- the attribute of the entity of that name
abbrev pub names_of : List ℕ → List ℕ → Want
names_of eid attr = record { eid = eid; attr = attr }

-- there is a value at the place
abbrev pub is_given : List (Option Json) → ℕ → Bool
is_given values p = unwrap_or (option_map is_some (slice_get values p)) false

-- the same for each of these places
abbrev pub are_given : List (Option Json) → List ℕ → List Bool
are_given values places = map (is_given values) places

-- the feed of s, as far as the first k connections
pub record IsFeedSoFar (P : Plan) (k s : ℕ) (f : Feed) : Type 0 where
  pub wants : f.wants ≡ wanted P s
  pub places : ArePlaces P s (triggering_in P s (take k P.conns)) f.triggers.items

-- the feeds of all simulators, as far as the first k connections
pub record AreFeedsOf (P : Plan) (k : ℕ) (feeds : List Feed) : Type 0 where
  pub count : length feeds ≡ sim_count P
  pub each : (s : ℕ) (f : Feed) → slice_get feeds s ≡ Some f → IsFeedSoFar P k s f

-- the feeds of all simulators before any connection
pub record HasNoTriggers (P : Plan) (feeds : List Feed) : Type 0 where
  pub count : length feeds ≡ sim_count P
  pub each : (s : ℕ) (f : Feed) → slice_get feeds s ≡ Some f → (f.wants ≡ wanted P s)
      × (f.triggers.items ≡ [])

-- the names, the feeds and the marks are as they were
pub record HasSameRest (old new : Stock) : Type 0 where
  pub names : new.names ≡ old.names
  pub feeds : new.feeds ≡ old.feeds
  pub marks : new.buffers.marks ≡ old.buffers.marks

-- the buffers stand for the supply, with the value of what is wanted of s, if there is one, as an
-- output of one of its entities
abbrev pub HasGiven : Plan → ℕ → Tier → Want → Option Json → Supply → Buffers → Type 0
HasGiven P s x w None S b = StandFor P b S
HasGiven P s x w (Some v) S b = (e : ℕ) × (owner P e ≡ s) × (eid_of P e ≡ w.eid)
    × StandFor P b (with_output S e w.attr (record { at = x; value = text_of v }))
