-- For proofs alone. Beside `Outlets`, which has what a reader needs.
use Rattle.std.specs.Prelude.{◌≡◌, ℕ, ◌<◌, List, length, take}
use Rattle.mk_plan.specs.declared.Plan.{Plan}
use Rattle.mk_plan.specs.Plans.{sim_count}
use Rattle.mk_sched_agenda.specs.declared.outlets.Outlet.{Outlet}
use Rattle.mk_sched_agenda.specs.Outlets.{outlets_in, AreOutletsOf}
use Rattle.mk_plan.specs.Deliveries.{triggering_in}

-- the rows are the outlets of each simulator, as far as the first k connections
pub record AreRowsOf (P : Plan) (k : ℕ) (rows : List (List Outlet)) : Type 0 where
  pub count : length rows ≡ sim_count P
  pub each : (i : ℕ) → i < sim_count P
      → AreOutletsOf P (triggering_in P i (take k P.conns)) (outlets_in rows i)
