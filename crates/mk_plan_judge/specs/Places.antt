-- The id of the request that is open at a place.
use Rattle.std.specs.Prelude.{ℕ}
use Rattle.mk_plan.specs.declared.Place.{Place}
use Rattle.mk_plan.specs.declared.Place.TheVariants.{Idle, Stepping, Fetching}

-- the id of the open request, or 0
abbrev pub open_id : Place → ℕ
open_id Idle = 0
open_id (Stepping at id asks) = id
open_id (Fetching at id) = id
