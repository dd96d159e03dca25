-- For proofs alone. Beside `Listing`, which has what a reader needs.
use Rattle.std.specs.Prelude.{◌≡◌, ℕ, ◌<◌, List, length, Some, slice_get}
use Rattle.std.specs.List.Sorted.{IsStrictlySortedBy}
use Rattle.std.specs.Ordering.{ordering_then, nat_cmp}
use Rattle.std.specs.declared.alloc.Global.{Global}
use Rattle.std.specs.declared.cmp.Ordering.{Ordering}
use Rattle.std.specs.declared.cmp.Ordering.TheVariants.{Less}
use Rattle.std.specs.declared.vec.Vec.{Vec}
use Rattle.mk_base.specs.Lists.{IsIn, text_order}
use Rattle.mk_plan.specs.declared.Plan.{Plan}
use Rattle.mk_plan.specs.declared.Conn.{Conn}
use Rattle.mk_plan.specs.Plans.{owner, eid_of, full_id}
use Rattle.mk_buffers.specs.declared.inlets.Inlet.{Inlet}
use Rattle.mk_buffers.specs.declared.inlets.Target.{Target}
use Rattle.mk_buffers.specs.Listing.{inlet_order}

-- by simulator, then the entity's name, then the attribute's, then the source's
abbrev pub target_order : Target → Target → Ordering
target_order a b = ordering_then (nat_cmp a.sim b.sim)
    (ordering_then (text_order a.eid.now b.eid.now)
    (ordering_then (text_order a.conn.now.to_attr b.conn.now.to_attr)
    (text_order a.source.now b.source.now)))

-- the target of a connection
pub record IsTarget (P : Plan) (c : Conn) (outlet : ℕ) (t : Target) : Type 0 where
  pub sim : t.sim ≡ owner P c.to
  pub eid : t.eid.now ≡ eid_of P c.to
  pub source : t.source.now ≡ full_id P c.from
  pub conn : t.conn.now ≡ c
  pub to : t.outlet ≡ outlet

-- the target of the connection at the place
pub record IsTargetAt (P : Plan) (outlets : List ℕ) (p : ℕ) (t : Target) : Type 0 where
  pub of : Conn
  pub at_place : slice_get P.conns p ≡ Some of
  pub to : ℕ
  pub outlet : slice_get outlets p ≡ Some to
  pub is : IsTarget P of to t

-- the targets of the first connections
abbrev pub HasTargets : Plan → List ℕ → List Target → Type 0
HasTargets P outlets ts = (p : ℕ) (t : Target) → slice_get ts p ≡ Some t → IsTargetAt P outlets p t

-- the targets of all connections, sorted
pub record AreTargets (P : Plan) (outlets : List ℕ) (ts : List Target) : Type 0 where
  pub each : (t : Target) → IsIn t ts → (p : ℕ) × IsTargetAt P outlets p t
  pub all : (p : ℕ) → p < length P.conns → (t : Target) × IsIn t ts × IsTargetAt P outlets p t
  pub sorted : (i j : ℕ) (x y : Target) → i < j → slice_get ts i ≡ Some x → slice_get ts j ≡ Some y
      → target_order x y ≡ Less

-- the inlet of that target
pub record IsInletOf (t : Target) (i : Inlet) : Type 0 where
  pub eid : i.eid ≡ t.eid.now
  pub attr : i.attr ≡ t.conn.now.to_attr
  pub source : i.source ≡ t.source.now
  pub outlet : i.outlet ≡ t.outlet
  pub via : i.via ≡ t.conn.now.via
  pub persistent : i.persistent ≡ t.conn.now.persistent
  pub initial : i.initial ≡ t.conn.now.initial

-- the inlets of a simulator are those of its targets among these
pub record AreListedAt (done : List Target) (s : ℕ) (l : List Inlet) : Type 0 where
  pub sorted : IsStrictlySortedBy inlet_order l
  pub each : (i : Inlet) → IsIn i l → (t : Target) × IsIn t done × (t.sim ≡ s) × IsInletOf t i
  pub all : (t : Target) → IsIn t done → t.sim ≡ s → (i : Inlet) × IsIn i l × IsInletOf t i

-- the same of each simulator
pub record AreListed (n : ℕ) (done : List Target) (v : List (Vec Inlet Global)) : Type 0 where
  pub count : length v ≡ n
  pub each : (s : ℕ) (l : Vec Inlet Global) → slice_get v s ≡ Some l → AreListedAt done s l.items

-- a target that comes after those done
abbrev pub ComesNext : List Target → Target → Type 0
ComesNext done t = (u : Target) → IsIn u done → target_order u t ≡ Less
