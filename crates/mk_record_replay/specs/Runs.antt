-- What comes of messages that are given to a new core.
use Rattle.std.specs.Prelude.{◌≡◌, ◌<◌, ⊤, true, List, None}
use Rattle.mk_plan.specs.declared.Plan.{Plan}
use Rattle.mk_plan.specs.Plans.{sim_count}
use Rattle.mk_plan.specs.Journals as journals
use Rattle.mk_record_read.specs.declared.saved.Arrival.{Arrival}
use Rattle.mk_sched.specs.Cores.{CoreState}
use Rattle.mk_record_replay.specs.declared.replaying.ReplayEnd.{ReplayEnd}
use Rattle.mk_record_replay.specs.declared.replaying.ReplayEnd.TheVariants.{Done, Core, Short, Other}
use Rattle.mk_record_replay.specs.Replays.{IsReplay, EndsBy}
use Rattle.mk_plan.specs.Messages.{is_message_in_range}

-- a core of this plan takes the message: it came from one of the plan's simulators, and its whole
-- numbers are in range
abbrev pub CanArrive : Plan → Arrival → Type 0
CanArrive P a = (a.sim.0 < sim_count P) × (is_message_in_range a.message ≡ true)

-- the core goes on after this end of a replay, unless it is a fault
abbrev pub IsGoingAfter : ReplayEnd → CoreState → Type 0
IsGoingAfter Done core = core.ended ≡ None
IsGoingAfter (Core f) core = ⊤
IsGoingAfter (Short n) core = core.ended ≡ None
IsGoingAfter (Other n) core = ⊤

-- the core's journal is a replay of the messages A, with this end, and the core goes on where the end
-- is no fault
pub record HasReplayed (P : Plan) (A : List journals.Arrival) (end : ReplayEnd)
    (new : CoreState) : Type 0 where
  pub plan : new.plan ≡ P
  pub replay : IsReplay P A new.entries
  pub ends : EndsBy P A new.entries end
  pub going : IsGoingAfter end new
