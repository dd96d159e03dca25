-- How many outputs may be held: one for each connection, one for each source attribute, and those
-- that are late.
use Rattle.std.specs.Prelude.{◌≡◌, ℕ, ◌+◌, ◌≤◌, Bool, not, ◌&&◌, ◌||◌, List, [], ◌∷◌, length, filter, Some, slice_get, sum_by, int_lt, ◌==◌, if◌then◌else◌}
use Rattle.std.specs.List.{list_any}
use Rattle.mk_base.specs.declared.tier.Tier.{Tier}
use Rattle.mk_base.specs.declared.tier.Via.{Via}
use Rattle.mk_base.specs.Lists.{IsIn, same_text}
use Rattle.mk_base.specs.Tiers.{delayed, up_to}
use Rattle.mk_plan.specs.declared.Plan.{Plan}
use Rattle.mk_plan.specs.declared.Conn.{Conn}
use Rattle.mk_plan.specs.Deliveries.{Supply}
use Rattle.mk_buffers.specs.declared.outlets.Outlet.{Outlet}

-- the connections take the same attribute of the same entity
abbrev pub same_source : Conn → Conn → Bool
same_source c d = (d.from == c.from) && same_text d.from_attr c.from_attr

-- of these connections, one for each source attribute
abbrev pub sources : List Conn → List Conn
sources [] = []
sources (c ∷ cs) = if list_any (same_source c) cs then sources cs else c ∷ sources cs

-- by this connection an output that is made at x comes later than the mark, and before the run's
-- end
abbrev pub comes_late : Plan → Tier → Tier → Conn → Bool
comes_late P mark x c = not (up_to (delayed x c.via) mark) && int_lt (delayed x c.via).time P.until

-- the making of an output of the attribute, or its delivery before the run's end by a connection that
-- takes it, is later than the mark
abbrev pub is_late : Plan → Tier → ℕ → List ℕ → Tier → Bool
is_late P mark e attr x = not (up_to x mark)
    || list_any (λ c. (c.from == e) && same_text c.from_attr attr && comes_late P mark x c) P.conns

-- how many outputs of the source attribute of this connection are late
abbrev pub late_of : Plan → Supply → Tier → Conn → ℕ
late_of P S mark c = length
    (filter (λ t. is_late P mark c.from c.from_attr t.at) (S.outputs c.from c.from_attr))

-- the connections, the distinct source attributes, and the late outputs
abbrev pub most_kept : Plan → Supply → Tier → ℕ
most_kept P S mark = length P.conns + length (sources P.conns) + sum_by (late_of P S mark)
    (sources P.conns)

-- outlets are those of attributes that connections take, their delays those of these connections,
-- and in all no more than there are connections
pub record HasShape (P : Plan) (outlets : List Outlet) : Type 0 where
  pub taken : (i : ℕ) (o : Outlet) → slice_get outlets i ≡ Some o → (c : Conn) × IsIn c P.conns
      × (o.entity ≡ c.from) × (o.attr ≡ c.from_attr)
  pub delays : (i : ℕ) (o : Outlet) (v : Via) → slice_get outlets i ≡ Some o → IsIn v o.vias.items
      → (c : Conn) × IsIn c P.conns × (o.entity ≡ c.from) × (o.attr ≡ c.from_attr) × (v ≡ c.via)
  pub few : sum_by (λ o. length o.vias.items) outlets ≤ length P.conns
