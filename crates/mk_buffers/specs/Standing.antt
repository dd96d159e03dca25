-- For which supply buffers stand, and what their calls change.
use Rattle.std.specs.Prelude.{◌≡◌, ◌≢◌, ℕ, ◌+◌, ◌<◌, ◌≤◌, true, false, List, Some, None, [], filter, unwrap_or, slice_get, length, pos, Option, option_map, option_and_then, option_to_list}
use Rattle.mk_base.specs.declared.tier.Tier.{Tier}
use Rattle.std.specs.List.Sorted.{IsStrictlySortedBy}
use Rattle.std.specs.declared.vec.Vec.{Vec}
use Rattle.std.specs.declared.alloc.Global.{Global}
use Rattle.mk_base.specs.Data.{IsValueText}
use Rattle.mk_base.specs.Lists.{IsIn, same_text}
use Rattle.mk_base.specs.Tiers.{moment}
use Rattle.mk_plan.specs.declared.Plan.{Plan}
use Rattle.mk_plan.specs.declared.Conn.{Conn}
use Rattle.mk_plan.specs.declared.Input.{Input}
use Rattle.mk_plan.specs.declared.Want.{Want}
use Rattle.mk_plan.specs.Plans.{owner, eid_of, full_id, IsValidPlan}
use Rattle.mk_plan.specs.declared.SetValue.{SetValue}
use Rattle.mk_plan.specs.Turns.{wanted}
use Rattle.mk_plan.specs.Inputs.{latest, connections_to}
use Rattle.mk_buffers.specs.declared.inlets.Inlet.{Inlet}
use Rattle.mk_buffers.specs.declared.sets.Slot.{Slot}
use Rattle.mk_buffers.specs.declared.outlets.Part.{Part}
use Rattle.mk_plan.specs.Asks.{gives_attr}
use Rattle.mk_plan.specs.Deliveries.{Timed, Gift, Supply}
use Rattle.mk_buffers.specs.declared.outlets.Outlet.{Outlet}
use Rattle.mk_buffers.specs.declared.buffers.Buffers.{Buffers}
use Rattle.mk_buffers.specs.declared.buffers.Home.{Home}
use Rattle.mk_buffers_log.specs.Logs.{AnswersFrom, IsAmong, IsFew, StaysFew, arrivals, by}
use Rattle.mk_buffers.specs.Listing.{inlet_order}
use Rattle.mk_buffers.specs.Bounds.{HasShape}
use Rattle.mk_buffers.specs.Marking.{AreAsking, IsLeastMark, greater}
use Rattle.mk_buffers.specs.Slots.{AnswerGifts}
use Rattle.mk_buffers.specs.Held.{is_key, has_key, kept_in, chosen_for, input_of}

-- the outlet at the place is that of this attribute
abbrev pub HasKey : Buffers → ℕ → List ℕ → ℕ → Type 0
HasKey b e attr i = has_key b.outlets.items e attr i ≡ true

-- no outlet of the entity is that of this attribute
abbrev pub LacksKey : Buffers → ℕ → List ℕ → Type 0
LacksKey b e attr = (h : Home) → slice_get b.homes.items e ≡ Some h → (i : ℕ) → h.outlets.first ≤ i
    → i < h.outlets.end → has_key b.outlets.items e attr i ≡ false

-- the entity's attribute has an outlet, among those of the entity
pub record IsFound (b : Buffers) (e : ℕ) (attr : List ℕ) : Type 0 where
  pub home : Home
  pub at_home : slice_get b.homes.items e ≡ Some home
  pub place : ℕ
  pub first : home.outlets.first ≤ place
  pub end : place < home.outlets.end
  pub key : has_key b.outlets.items e attr place ≡ true

-- a connection as its target sees it
pub record IsInlet (P : Plan) (b : Buffers) (c : Conn) (i : Inlet) : Type 0 where
  pub eid : i.eid ≡ eid_of P c.to
  pub attr : i.attr ≡ c.to_attr
  pub source : i.source ≡ full_id P c.from
  pub via : i.via ≡ c.via
  pub persistent : i.persistent ≡ c.persistent
  pub initial : i.initial ≡ c.initial
  pub outlet : Outlet
  pub at_place : slice_get b.outlets.items i.outlet ≡ Some outlet
  pub entity : outlet.entity ≡ c.from
  pub from_attr : outlet.attr ≡ c.from_attr
  pub delay : IsIn c.via outlet.vias.items

-- the connections to a simulator, sorted
pub record AreInlets (P : Plan) (b : Buffers) (s : ℕ) (l : List Inlet) : Type 0 where
  pub sorted : IsStrictlySortedBy inlet_order l
  pub each : (i : Inlet) → IsIn i l → (c : Conn) × IsIn c (connections_to P s) × IsInlet P b c i
  pub all : (c : Conn) → IsIn c (connections_to P s) → (i : Inlet) × IsIn i l × IsInlet P b c i

-- the outlet at the place is that of a wanted attribute
pub record IsOutletFor (P : Plan) (b : Buffers) (s : ℕ) (w : Want) (place : ℕ) : Type 0 where
  pub outlet : Outlet
  pub at_place : slice_get b.outlets.items place ≡ Some outlet
  pub sim : owner P outlet.entity ≡ s
  pub eid : eid_of P outlet.entity ≡ w.eid
  pub attr : outlet.attr ≡ w.attr

-- the outlets of a simulator stand in the order of its wanted attributes
abbrev pub AreAligned : Plan → Buffers → ℕ → Part → Type 0
AreAligned P b s part = (i : ℕ) (w : Want) → slice_get (wanted P s) i ≡ Some w
    → IsOutletFor P b s w (part.first + i)

-- there is a table for each simulator
pub record HasSizes (P : Plan) (b : Buffers) : Type 0 where
  pub inlets : length b.inlets.items ≡ length P.sims
  pub sets : length b.sets.items ≡ length P.sims
  pub feeds : length b.feeds.items ≡ length P.sims
  pub marks : length b.marks.marks ≡ length P.sims

-- no value is set
abbrev pub IsUnset : Buffers → Type 0
IsUnset b = (s : ℕ) (l : List Slot) → slice_get b.sets.items s ≡ Some l → l ≡ []

-- the mark of a simulator: it asks for no inputs before
abbrev pub mark_of : Buffers → ℕ → Tier
mark_of b s = unwrap_or (slice_get b.marks.marks s) (moment (pos 0))

-- the least mark of those that ask: nobody asks for a value before
abbrev pub least_mark : Buffers → Tier
least_mark b = b.marks.least

-- how many outputs are held
abbrev pub outputs_held : Buffers → ℕ
outputs_held b = kept_in b.outlets.items

-- each mark is as it was
abbrev pub HasSameMarks : Buffers → Buffers → Type 0
HasSameMarks old new = new.marks ≡ old.marks

-- a simulator's mark has become the greater of it and x, and no other mark has changed
pub record HasRaised (s : ℕ) (x : Tier) (old new : Buffers) : Type 0 where
  pub here : mark_of new s ≡ greater (mark_of old s) x
  pub others : (r : ℕ) → r ≢ s → mark_of new r ≡ mark_of old r

-- an entity has its home
pub record HasHome (P : Plan) (b : Buffers) (e : ℕ) : Type 0 where
  pub home : Home
  pub at_home : slice_get b.homes.items e ≡ Some home
  pub sim : home.sim ≡ owner P e
  pub eid : home.eid ≡ eid_of P e

-- the supply's values are texts of values
pub record HasValueTexts (S : Supply) : Type 0 where
  pub outputs : (e : ℕ) (attr : List ℕ) (t : Timed) → IsIn t (S.outputs e attr)
      → IsValueText t.value
  pub gifts : (e : ℕ) (g : Gift) → IsIn g (S.gifts e) → IsValueText g.given.value

-- set values in the order in which they were given are those that the supply has under each entity
pub record AreGifts (P : Plan) (S : Supply) (all : List Gift) : Type 0 where
  pub by_source : (e : ℕ) → e < length P.entities
      → filter (λ g. same_text g.given.source (full_id P e)) all ≡ S.gifts e
  pub sourced : (g : Gift) → IsIn g all → (e : ℕ) × (e < length P.entities)
      × (g.given.source ≡ full_id P e)

-- the set values that are held answer as these, for each simulator from its mark on
abbrev pub HoldsGifts : Plan → Buffers → List Gift → Type 0
HoldsGifts P b all = (s : ℕ) (l : List Slot) → slice_get b.sets.items s ≡ Some l → s < length P.sims
    → AnswerGifts P s (mark_of b s) l all

-- a set value is the text of a value, set under the full id of the entity
pub record IsSourced (P : Plan) (e : ℕ) (w : SetValue) : Type 0 where
  pub below : e < length P.entities
  pub source : w.source ≡ full_id P e
  pub text : IsValueText w.value

-- when the outlets of a simulator are looked at again
abbrev pub next_of : Buffers → ℕ → Option Tier
next_of b s = unwrap_or (slice_get b.next_marks.items s) None

-- an outlet stands among those of its simulator, and is looked at again with them
pub record IsLookedAt (b : Buffers) (i : ℕ) (o : Outlet) : Type 0 where
  pub part : Part
  pub at_sim : slice_get b.feeds.items o.sim ≡ Some part
  pub first : part.first ≤ i
  pub end : i < part.end
  pub noted : o.sim < length b.next_marks.items

-- the outlets of the first n simulators hold few outputs that have nothing later than the mark; all
-- hold few from the mark on until they are looked at again, each with those of its simulator
pub record IsSwept (mark : Tier) (n : ℕ) (b : Buffers) : Type 0 where
  pub few : (i : ℕ) (o : Outlet) → slice_get b.outlets.items i ≡ Some o → o.sim < n
      → IsFew o.vias.items b.until mark o.log
  pub stays : (i : ℕ) (o : Outlet) → slice_get b.outlets.items i ≡ Some o
      → StaysFew o.vias.items b.until mark (next_of b o.sim) o.log
  pub looked : (i : ℕ) (o : Outlet) → slice_get b.outlets.items i ≡ Some o → IsLookedAt b i o

-- the same of all outlets, at the least mark
abbrev pub IsTight : Buffers → Type 0
IsTight b = IsSwept b.marks.least (length b.feeds.items) b

-- the tables are those of the plan
pub record IsOfPlan (P : Plan) (b : Buffers) : Type 0 where
  pub valid : IsValidPlan P
  pub homes : (e : ℕ) → e < length P.entities → HasHome P b e
  pub home_count : length b.homes.items ≡ length P.entities
  pub asking : AreAsking P b.marks.asks
  pub least : IsLeastMark b.marks
  pub until : b.until ≡ P.until
  pub sizes : HasSizes P b
  pub once : (i j : ℕ) (o q : Outlet) → slice_get b.outlets.items i ≡ Some o
      → slice_get b.outlets.items j ≡ Some q → is_key o.entity o.attr q ≡ true → i ≡ j
  pub inlets : (s : ℕ) (l : Vec Inlet Global) → slice_get b.inlets.items s ≡ Some l
      → AreInlets P b s l.items
  pub aligned : (s : ℕ) (part : Part) → slice_get b.feeds.items s ≡ Some part
      → AreAligned P b s part
  pub found : (e : ℕ) (attr : List ℕ) → gives_attr P e attr ≡ true → IsFound b e attr
  pub shape : HasShape P b.outlets.items
  pub tight : IsTight b

-- what the buffers keep is among this supply, and they answer as it, at every question for a value
-- from the least mark on, and at every question for the inputs of a simulator from its mark on; the
-- supply's values are texts of values
pub record StandFor (P : Plan) (b : Buffers) (S : Supply) : Type 0 where
  pub of_plan : IsOfPlan P b
  pub texts : HasValueTexts S
  pub gifts : (all : List Gift) × AreGifts P S all × HoldsGifts P b all
  pub outputs : (i : ℕ) (o : Outlet) → slice_get b.outlets.items i ≡ Some o
      → AnswersFrom o.vias.items b.until b.marks.least o.log (S.outputs o.entity o.attr)
  pub among : (i : ℕ) (o : Outlet) → slice_get b.outlets.items i ≡ Some o
      → IsAmong o.log (S.outputs o.entity o.attr)

-- nothing that is held has changed
pub record IsUnchanged (old new : Buffers) : Type 0 where
  pub outlets : new.outlets.items ≡ old.outlets.items
  pub homes : new.homes ≡ old.homes
  pub feeds : new.feeds ≡ old.feeds
  pub next_marks : new.next_marks ≡ old.next_marks
  pub until : new.until ≡ old.until
  pub marks : new.marks ≡ old.marks
  pub inlets : new.inlets ≡ old.inlets
  pub sets : new.sets.items ≡ old.sets.items

-- what the outlet of an inlet delivered last up to x
abbrev pub last_for : Buffers → Inlet → Tier → Option Timed
last_for b i x = option_and_then
    (λ (o : Outlet). latest (by x (arrivals i.via (Some b.until) o.log)))
    (slice_get b.outlets.items i.outlet)

-- what an inlet gives a step at x after a step at p
abbrev pub value_for : Buffers → Inlet → Option Tier → Tier → Option (List ℕ)
value_for b i p x = chosen_for i p x (last_for b i x)

-- the input of that value, if there is one
abbrev pub given : Buffers → Inlet → Option Tier → Tier → List Input
given b i p x = option_to_list (option_map (input_of i) (value_for b i p x))

-- the tables are those of the plan, nothing has come, and each mark is at the start
pub record IsNew (P : Plan) (b : Buffers) : Type 0 where
  pub of_plan : IsOfPlan P b
  pub unset : IsUnset b
  pub empty : (i : ℕ) (o : Outlet) → slice_get b.outlets.items i ≡ Some o → o.log ≡ []
  pub starts : (s : ℕ) → mark_of b s ≡ moment (pos 0)
