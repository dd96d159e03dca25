-- What holds of each message that was read.
use Rattle.std.specs.Prelude.{◌≡◌, ◌<◌, true}
use Rattle.mk_plan.specs.declared.Plan.{Plan}
use Rattle.mk_plan.specs.Journals.{Arrival}
use Rattle.mk_plan.specs.Plans.{sim_count}
use Rattle.mk_plan.specs.Messages.{is_message_in_range}

-- the message came from a simulator of the plan, and each whole number in its content or arguments
-- is in range
pub record IsKnown (P : Plan) (a : Arrival) : Type 0 where
  pub sim : a.sim < sim_count P
  pub in_range : is_message_in_range a.message ≡ true
