-- Each simulator's triggering connections, with whom they trigger.
use Rattle.std.specs.Prelude.{◌≡◌, ℕ, List, [], ◌∷◌, Some, unwrap_or, slice_get, ⊤}
use Rattle.mk_plan.specs.declared.Plan.{Plan}
use Rattle.mk_plan.specs.declared.Conn.{Conn}
use Rattle.mk_plan.specs.Plans.{owner}
use Rattle.mk_sched_agenda.specs.declared.outlets.Outlet.{Outlet}

-- the outlet is that of the connection
pub record IsOutletOf (P : Plan) (c : Conn) (o : Outlet) : Type 0 where
  pub conn : slice_get P.conns o.conn ≡ Some c
  pub to : o.to.0 ≡ owner P c.to
  pub via : o.via ≡ c.via

-- the outlets are those of the connections, one by one
abbrev pub AreOutletsOf : Plan → List Conn → List Outlet → Type 0
AreOutletsOf P [] [] = ⊤
AreOutletsOf P [] (o ∷ os) = ⊥
AreOutletsOf P (c ∷ cs) [] = ⊥
AreOutletsOf P (c ∷ cs) (o ∷ os) = IsOutletOf P c o × AreOutletsOf P cs os

-- the outlets of a simulator
abbrev pub outlets_in : List (List Outlet) → ℕ → List Outlet
outlets_in rows i = unwrap_or (slice_get rows i) []
