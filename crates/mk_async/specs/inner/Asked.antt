-- For proofs alone. Beside `Asked`, which has what a reader needs.
use Rattle.std.specs.Prelude.{◌≡◌, true, Option, Some, None, ⊤, IsSome}
use Rattle.mk_plan.specs.Asks.{Request}
use Rattle.mk_async.specs.declared.request.Asked.{Asked}
use Rattle.mk_async.specs.Asked.{asked_in, is_asked_in_range}

-- what is asked for is the request; nothing is where there is none
abbrev pub IsAskedRequest : Option Asked → Option Request → Type 0
IsAskedRequest None request = request ≡ None
IsAskedRequest (Some asked) request = (asked_in asked ≡ request) × IsSome request

-- where something is asked for, the whole numbers that it sets are in range
abbrev pub HasRange : Option Asked → Type 0
HasRange None = ⊤
HasRange (Some asked) = is_asked_in_range asked ≡ true
