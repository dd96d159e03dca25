-- For proofs alone. Beside `Standing`, which has what a reader needs.
use Rattle.std.specs.Prelude.{◌≡◌, ◌≢◌, ℕ, ◌<◌, ◌≤◌, false, List, Some, None, [], slice_get, slice_set, length, pos, Option, flat_map, IfSome}
use Rattle.mk_base.specs.declared.tier.Tier.{Tier}
use Rattle.mk_base.specs.Lists.{IsIn}
use Rattle.mk_base.specs.Tiers.{IsUpTo, moment}
use Rattle.mk_plan.specs.declared.Plan.{Plan}
use Rattle.mk_plan.specs.declared.Input.{Input}
use Rattle.mk_plan.specs.Plans.{owner, eid_of}
use Rattle.mk_buffers.specs.declared.inlets.Inlet.{Inlet}
use Rattle.mk_buffers.specs.declared.sets.Slot.{Slot}
use Rattle.mk_buffers.specs.declared.gifts.Target.{Target}
use Rattle.mk_buffers.specs.declared.outlets.Part.{Part}
use Rattle.mk_plan.specs.Deliveries.{Timed, Gift}
use Rattle.mk_buffers.specs.declared.outlets.Outlet.{Outlet}
use Rattle.mk_buffers.specs.declared.buffers.Buffers.{Buffers}
use Rattle.mk_buffers.specs.declared.buffers.Home.{Home}
use Rattle.mk_buffers_log.specs.Logs.{IsFew, StaysFew, is_due}
use Rattle.mk_buffers.specs.inner.Slots.{HaveTaken}
use Rattle.mk_buffers.specs.inner.Held.{AreThinned, HasTaken}
use Rattle.mk_buffers.specs.Standing.{next_of, given, mark_of, last_for}

-- as many simulators without a set value
pub record AreUnset (count : ℕ) (sets : List (List Slot)) : Type 0 where
  pub all : length sets ≡ count
  pub each : (s : ℕ) (l : List Slot) → slice_get sets s ≡ Some l → l ≡ []

-- nothing but the marks at which outlets are looked at again has changed
pub record IsNoted (old new : Buffers) : Type 0 where
  pub outlets : new.outlets ≡ old.outlets
  pub homes : new.homes ≡ old.homes
  pub until : new.until ≡ old.until
  pub marks : new.marks ≡ old.marks
  pub inlets : new.inlets ≡ old.inlets
  pub sets : new.sets ≡ old.sets
  pub feeds : new.feeds ≡ old.feeds

-- the outlets of a simulator are looked at again at this mark
pub record IsLookedAgain (s : ℕ) (next : Option Tier) (old new : Buffers) : Type 0 where
  pub here : s < length old.next_marks.items
      → new.next_marks.items ≡ slice_set old.next_marks.items s next
  pub past : length old.next_marks.items ≤ s → new.next_marks ≡ old.next_marks

-- an outlet may be looked at again earlier, and is before more of its outputs have nothing later
-- than the mark
pub record HasNoted (i : ℕ) (old new : Buffers) : Type 0 where
  pub count : length new.next_marks.items ≡ length old.next_marks.items
  pub earlier : (s : ℕ) (m : Tier) → is_due (next_of new s) m ≡ false
      → is_due (next_of old s) m ≡ false
  pub here : (o : Outlet) → slice_get old.outlets.items i ≡ Some o
      → o.sim < length old.next_marks.items → IsFew o.vias.items old.until old.marks.least o.log
      → StaysFew o.vias.items old.until old.marks.least (next_of new o.sim) o.log

-- an outlet has taken one more output
pub record Delivers (old new : Buffers) (i : ℕ) (t : Timed) : Type 0 where
  pub before : Outlet
  pub after : Outlet
  pub at_place : slice_get old.outlets.items i ≡ Some before
  pub outlets : new.outlets.items ≡ slice_set old.outlets.items i after
  pub taken : HasTaken old.until old.marks.least t before after
  pub few : IsFew after.vias.items old.until old.marks.least after.log
  pub count : length new.next_marks.items ≡ length old.next_marks.items
  pub earlier : (s : ℕ) (m : Tier) → is_due (next_of new s) m ≡ false
      → is_due (next_of old s) m ≡ false
  pub stays : after.sim < length old.next_marks.items
      → StaysFew after.vias.items old.until old.marks.least (next_of new after.sim) after.log
  pub homes : new.homes ≡ old.homes
  pub until : new.until ≡ old.until
  pub marks : new.marks ≡ old.marks
  pub inlets : new.inlets ≡ old.inlets
  pub sets : new.sets ≡ old.sets
  pub feeds : new.feeds ≡ old.feeds

-- a simulator's slots have taken one more set value
pub record HasSet (s : ℕ) (eid : List ℕ) (g : Gift) (old new : Buffers) : Type 0 where
  pub before : List Slot
  pub after : List Slot
  pub at_place : slice_get old.sets.items s ≡ Some before
  pub sets : new.sets.items ≡ slice_set old.sets.items s after
  pub taken : HaveTaken (mark_of old s)
      (record { eid = eid; attr = g.given.attr; source = g.given.source; value = [] })
      (record { at = g.at; value = g.given.value }) before after
  pub outlets : new.outlets ≡ old.outlets
  pub homes : new.homes ≡ old.homes
  pub until : new.until ≡ old.until
  pub marks : new.marks ≡ old.marks
  pub inlets : new.inlets ≡ old.inlets
  pub feeds : new.feeds ≡ old.feeds
  pub next_marks : new.next_marks ≡ old.next_marks

-- the simulator of an entity and its name there, where both are known
abbrev pub TargetOf : Buffers → ℕ → Option Target → Type 0
TargetOf b e None = (h : Home) → slice_get b.homes.items e ≡ Some h → h.sim < length b.sets.items
    → h.sim < length b.marks.marks → ⊥
TargetOf b e (Some t) = (h : Home) × (slice_get b.homes.items e ≡ Some h) × (t.sim ≡ h.sim)
    × (t.eid ≡ h.eid)

-- outlets have given up what no question from the mark on can reach
pub record HasThinned (mark : Tier) (old new : Buffers) : Type 0 where
  pub outlets : AreThinned old.until mark old.outlets.items new.outlets.items
  pub homes : new.homes ≡ old.homes
  pub until : new.until ≡ old.until
  pub marks : new.marks ≡ old.marks
  pub inlets : new.inlets ≡ old.inlets
  pub sets : new.sets ≡ old.sets
  pub feeds : new.feeds ≡ old.feeds

-- the outlets of a part hold few outputs that have nothing later than the mark, and go on to do so
-- until they are looked at again
pub record IsPartSwept (mark : Tier) (part : Part) (next : Option Tier) (b : Buffers) : Type 0 where
  pub few : (i : ℕ) (o : Outlet) → slice_get b.outlets.items i ≡ Some o → part.first ≤ i
      → i < part.end → IsFew o.vias.items b.until mark o.log
  pub stays : (i : ℕ) (o : Outlet) → slice_get b.outlets.items i ≡ Some o → part.first ≤ i
      → i < part.end → StaysFew o.vias.items b.until mark next o.log

-- the outlet at the place has given up what it may, and no other has changed
pub record IsSweptAt (mark : Tier) (i : ℕ) (next : Option Tier) (old new : Buffers) : Type 0 where
  pub few : (o : Outlet) → slice_get new.outlets.items i ≡ Some o
      → IsFew o.vias.items new.until mark o.log
  pub stays : (o : Outlet) → slice_get new.outlets.items i ≡ Some o
      → StaysFew o.vias.items new.until mark next o.log
  pub others : (j : ℕ) → j ≢ i → slice_get new.outlets.items j ≡ slice_get old.outlets.items j
  pub next_marks : new.next_marks ≡ old.next_marks

-- nothing that it delivers comes before the start
abbrev pub IsAfterStart : Buffers → Inlet → Tier → Type 0
IsAfterStart b i x = IfSome (last_for b i x) (λ d. IsUpTo (moment (pos 0)) d.at)

-- what these inlets give, in their order; none of it comes before the start
pub record HasGathered (b : Buffers) (l : List Inlet) (p : Option Tier) (x : Tier)
    (ins : List Input) : Type 0 where
  pub inputs : ins ≡ flat_map (λ i. given b i p x) l
  pub begun : (i : Inlet) → IsIn i l → IsAfterStart b i x

-- each entity's outlets are those of its part
pub record AreHomes (P : Plan) (parts : List Part) (homes : List Home) : Type 0 where
  pub count : length homes ≡ length P.entities
  pub each : (e : ℕ) (h : Home) → slice_get homes e ≡ Some h → (slice_get parts e ≡ Some h.outlets)
      × (h.sim ≡ owner P e) × (h.eid ≡ eid_of P e)
