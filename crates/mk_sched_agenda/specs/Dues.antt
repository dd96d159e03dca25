-- What an agenda keeps of each simulator, its steps to come and its last step; and the limits of a
-- run.
use Rattle.std.specs.Prelude.{ℕ, List, [], Option, None, unwrap_or, slice_get}
use Rattle.mk_base.specs.declared.tier.Tier.{Tier}
use Rattle.mk_plan.specs.declared.Plan.{Plan}
use Rattle.mk_nextstep.specs.declared.queue.Due.{Due}
use Rattle.mk_sched_agenda.specs.declared.limits.Limits.{Limits}

-- the steps to come of a simulator
abbrev pub queue_in : List (List Due) → ℕ → List Due
queue_in queues i = unwrap_or (slice_get queues i) []

-- the time of the last step of a simulator
abbrev pub last_in : List (Option Tier) → ℕ → Option Tier
last_in lasts i = unwrap_or (slice_get lasts i) None

-- the limits of a plan
abbrev pub limits_of : Plan → Limits
limits_of P = record { until = P.until; loops = P.loops }
