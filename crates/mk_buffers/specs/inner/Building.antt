-- For proofs alone. How the tables of new buffers come about, a connection's source after the
-- other.
use Rattle.std.specs.Prelude.{◌≡◌, ◌≢◌, ◌⊎◌, sum_by, ℕ, ◌+◌, ◌<◌, ◌≤◌, true, false, nat_lt, nat_le, List, [], ◌∷◌, ◌++◌, length, Some, slice_get, slice_set, ◌==◌, if◌then◌else◌}
use Rattle.std.specs.List.Sorted.{IsStrictlySortedBy, IsPartitionPoint}
use Rattle.std.specs.Ordering.{ordering_then, nat_cmp}
use Rattle.std.specs.declared.cmp.Ordering.{Ordering}
use Rattle.std.specs.declared.cmp.Ordering.TheVariants.{Greater}
use Rattle.mk_base.specs.declared.tier.Via.{Via}
use Rattle.mk_base.specs.Lists.{IsIn, text_order}
use Rattle.mk_plan.specs.declared.Plan.{Plan}
use Rattle.mk_plan.specs.declared.Conn.{Conn}
use Rattle.mk_plan.specs.Plans.{owner, eid_of, RefersInside, HasDistinctNames}
use Rattle.mk_buffers.specs.declared.outlets.Source.{Source}
use Rattle.mk_buffers.specs.declared.outlets.Outlet.{Outlet}
use Rattle.mk_buffers.specs.declared.outlets.Outlets.{Outlets}
use Rattle.mk_buffers.specs.declared.outlets.Part.{Part}

-- no item is greater than a later one
abbrev pub AreRising : {X : Type 0} → (X → X → Ordering) → List X → Type 0
AreRising {X} order xs = (i j : ℕ) (x y : X) → i < j → slice_get xs i ≡ Some x
    → slice_get xs j ≡ Some y → order x y ≢ Greater

-- by simulator, then the entity's name, then the attribute's
abbrev pub source_order : Source → Source → Ordering
source_order a b = ordering_then (nat_cmp a.sim b.sim)
    (ordering_then (text_order a.eid.now b.eid.now) (text_order a.attr.now b.attr.now))

-- the source of a connection of the plan
pub record IsSource (P : Plan) (s : Source) : Type 0 where
  pub conn : Conn
  pub at_place : slice_get P.conns s.place ≡ Some conn
  pub sim : s.sim ≡ owner P conn.from
  pub eid : s.eid.now ≡ eid_of P conn.from
  pub attr : s.attr.now ≡ conn.from_attr
  pub entity : s.entity ≡ conn.from
  pub via : s.via ≡ conn.via

-- the sources of the first n connections
pub record HasSources (P : Plan) (n : ℕ) (xs : List Source) : Type 0 where
  pub each : (s : Source) → IsIn s xs → IsSource P s
  pub all : (p : ℕ) → p < n → (s : Source) × IsIn s xs × (s.place ≡ p)
  pub count : length xs ≡ n

-- the sources of all connections, sorted
pub record AreSources (P : Plan) (xs : List Source) : Type 0 where
  pub sources : HasSources P (length P.conns) xs
  pub rising : AreRising source_order xs

-- by simulator, then the entity's name, then the attribute's
abbrev pub outlet_order : Plan → Outlet → Outlet → Ordering
outlet_order P a b = ordering_then (nat_cmp a.sim b.sim)
    (ordering_then (text_order (eid_of P a.entity) (eid_of P b.entity)) (text_order a.attr b.attr))

-- a new outlet of that source
pub record IsOutletOf (s : Source) (o : Outlet) : Type 0 where
  pub sim : o.sim ≡ s.sim
  pub entity : o.entity ≡ s.entity
  pub attr : o.attr ≡ s.attr.now
  pub log : o.log ≡ []

-- the connection has its outlet
pub record HasOutlet (b : Outlets) (s : Source) : Type 0 where
  pub outlet : ℕ
  pub place : slice_get b.of_conn.items s.place ≡ Some outlet
  pub is : Outlet
  pub at_place : slice_get b.all.items outlet ≡ Some is
  pub entity : is.entity ≡ s.entity
  pub attr : is.attr ≡ s.attr.now
  pub via : IsIn s.via is.vias.items

-- a delay of an outlet is that of a source
pub record IsDelayOf (s : Source) (o : Outlet) (v : Via) : Type 0 where
  pub entity : o.entity ≡ s.entity
  pub attr : o.attr ≡ s.attr.now
  pub via : v ≡ s.via

-- the outlets of some sources, of which some have got theirs
pub record AreOutlets (P : Plan) (done joined : List Source) (b : Outlets) : Type 0 where
  pub sorted : IsStrictlySortedBy (outlet_order P) b.all.items
  pub each : (o : Outlet) → IsIn o b.all.items → (s : Source) × IsIn s done × IsOutletOf s o
  pub conns : (s : Source) → IsIn s joined → HasOutlet b s
  pub entities : (i : ℕ) (o : Outlet) → slice_get b.all.items i ≡ Some o → (part : Part)
      × (slice_get b.of_entity.items o.entity ≡ Some part) × (part.first ≤ i) × (i < part.end)
  pub begun : (e : ℕ) (part : Part) → slice_get b.of_entity.items e ≡ Some part
      → part.first ≤ length b.all.items
  pub delays : (o : Outlet) (v : Via) → IsIn o b.all.items → IsIn v o.vias.items → (s : Source)
      × IsIn s joined × IsDelayOf s o v
  pub few : sum_by (λ o. length o.vias.items) b.all.items ≤ length joined
  pub conn_count : length b.of_conn.items ≡ length P.conns
  pub entity_count : length b.of_entity.items ≡ length P.entities

-- a source that comes after those done
pub record IsNext (P : Plan) (done : List Source) (s : Source) : Type 0 where
  pub names : HasDistinctNames P
  pub references : RefersInside P
  pub is : IsSource P s
  pub each : (t : Source) → IsIn t done → IsSource P t
  pub after : (t : Source) → IsIn t done → source_order t s ≢ Greater

-- the part, if it reaches up to this end and began at the place if it was empty
abbrev pub reached : Part → ℕ → ℕ → Part
reached o place end = record { first = if o.first == o.end then place else o.first; end = end }

-- one part reaches further
pub record HasReached (old new : List Part) (part place end : ℕ) : Type 0 where
  pub count : length new ≡ length old
  pub others : (j : ℕ) → j ≢ part → slice_get new j ≡ slice_get old j
  pub here : (o : Part) → slice_get old part ≡ Some o
      → slice_get new part ≡ Some (reached o place end)

-- one more outlet
pub record HasAdded (s : Source) (old new : Outlets) : Type 0 where
  pub outlet : Outlet
  pub all : new.all.items ≡ old.all.items ++ outlet ∷ []
  pub is : IsOutletOf s outlet
  pub vias : outlet.vias.items ≡ []
  pub of_conn : new.of_conn.items ≡ old.of_conn.items
  pub of_entity : HasReached old.of_entity.items new.of_entity.items s.entity (length old.all.items)
      (length old.all.items + 1)

-- an outlet with one more delay
pub record HasVia (via : Via) (old new : Outlet) : Type 0 where
  pub sim : new.sim ≡ old.sim
  pub entity : new.entity ≡ old.entity
  pub attr : new.attr ≡ old.attr
  pub log : new.log ≡ old.log
  pub there : IsIn via new.vias.items
  pub others : (v : Via) → IsIn v old.vias.items → IsIn v new.vias.items
  pub back : (v : Via) → IsIn v new.vias.items → IsIn v old.vias.items ⊎ (v ≡ via)
  pub longer : length new.vias.items ≤ length old.vias.items + 1

-- the source's connection has got the last outlet
pub record HasJoined (s : Source) (old new : Outlets) (n : ℕ) (o : Outlet) : Type 0 where
  pub outlet : Outlet
  pub all : new.all.items ≡ slice_set old.all.items n outlet
  pub via : HasVia s.via o outlet
  pub of_conn : s.place < length old.of_conn.items
      → new.of_conn.items ≡ slice_set old.of_conn.items s.place n
  pub of_entity : new.of_entity.items ≡ old.of_entity.items

-- the outlets of a simulator are those from the first up to the end
pub record IsPartOf (all : List Outlet) (sim : ℕ) (part : Part) : Type 0 where
  pub first : IsPartitionPoint (λ (o : Outlet). nat_lt o.sim sim
      ≡ true) (λ (o : Outlet). nat_lt o.sim sim ≡ false) all part.first
  pub end : IsPartitionPoint (λ (o : Outlet). nat_le o.sim sim
      ≡ true) (λ (o : Outlet). nat_le o.sim sim ≡ false) all part.end

-- the same of each simulator
pub record AreParts (sims : ℕ) (all : List Outlet) (parts : List Part) : Type 0 where
  pub count : length parts ≡ sims
  pub each : (s : ℕ) (part : Part) → slice_get parts s ≡ Some part → IsPartOf all s part
