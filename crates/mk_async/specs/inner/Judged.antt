-- For proofs alone. The last two tests of a request, as they are made.
use Rattle.std.specs.Prelude.{ℕ, Option, Some, None, not, if◌then◌else◌}
use Rattle.mk_plan.specs.declared.Plan.{Plan}
use Rattle.mk_plan.specs.Asks.{unknown_name, no_pair}
use Rattle.mk_async.specs.declared.request.Asked.{Asked}
use Rattle.mk_async.specs.inner.Known.{knows_asked, permits_asked}

-- the number of the first of the two that fails
abbrev pub tested : Plan → ℕ → Asked → Option ℕ
tested P s asked = if not (knows_asked P s asked) then Some unknown_name
    else if not (permits_asked P s asked) then Some no_pair else None
