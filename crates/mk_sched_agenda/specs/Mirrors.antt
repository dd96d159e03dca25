-- What an agenda is seen as, and when it mirrors a journal's view.
use Rattle.std.specs.Prelude.{◌≡◌, ℕ, ◌<◌, Bool, List, length, Option}
use Rattle.mk_base.specs.declared.tier.Tier.{Tier}
use Rattle.mk_plan.specs.declared.Plan.{Plan}
use Rattle.mk_plan.specs.Plans.{sim_count}
use Rattle.mk_plan.specs.Journals.{View}
use Rattle.mk_plan.specs.Ready.{last_step}
use Rattle.mk_nextstep.specs.declared.queue.Due.{Due}
use Rattle.mk_nextstep.specs.Queues.{time_of}
use Rattle.mk_tiers.specs.Seen.{Seen, AreOfPlan, start_in, is_busy_in}
use Rattle.mk_order.specs.Pending.{Pends, StartsOf}
use Rattle.mk_sched_agenda.specs.declared.limits.Limits.{Limits}
use Rattle.mk_sched_agenda.specs.declared.outlets.Outlet.{Outlet}
use Rattle.mk_sched_agenda.specs.Outlets.{AreOutletsOf, outlets_in}
use Rattle.mk_plan.specs.Deliveries.{triggering_from}
use Rattle.mk_sched_agenda.specs.Dues.{limits_of, queue_in, last_in}

-- an agenda: the limits of the run, each simulator's triggering connections, the steps to come of
-- each, its last step, and the bounds of their starts
pub record AgendaState : Type 0 where
  pub limits : Limits
  pub outlets : List (List Outlet)
  pub queues : List (List Due)
  pub lasts : List (Option Tier)
  pub bounds : Seen

-- whether a step to come is triggered
abbrev pub flag_of : Due → Bool
flag_of d = d.triggered

-- the agenda is one of the plan
pub record IsOfPlan (P : Plan) (A : AgendaState) : Type 0 where
  pub limits : A.limits ≡ limits_of P
  pub count : length A.queues ≡ sim_count P
  pub outlets : (i : ℕ) → i < sim_count P
      → AreOutletsOf P (triggering_from P i) (outlets_in A.outlets i)
  pub bounds : AreOfPlan P A.bounds

-- the steps to come of each simulator are those that are due and that it has not been asked for,
-- marked where something that came triggers them; last steps and starts are those of the view, and
-- starts are outstanding where a turn is open
pub record Mirrors (P : Plan) (V : View) (A : AgendaState) : Type 0 where
  pub plan : IsOfPlan P A
  pub queues : (i : ℕ) → i < sim_count P → Pends P time_of flag_of V i (queue_in A.queues i)
  pub lasts : (i : ℕ) → i < sim_count P → last_in A.lasts i ≡ last_step V i
  pub starts : StartsOf P V (start_in A.bounds) (is_busy_in A.bounds)
