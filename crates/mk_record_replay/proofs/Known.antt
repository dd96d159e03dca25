-- The messages of a record are such as a core takes.
use Rattle.std.proofs.Common.{zero, suc, List, [], ◌∷◌, map, All, arith}
use Rattle.mk_plan.specs.declared.Plan.{Plan}
use Rattle.mk_record_read.specs.declared.saved.Arrival.{Arrival}
use Rattle.mk_record_read.specs.Seen.{came}
use Rattle.mk_record_read.specs.Steps.{IsKnown}
use Rattle.mk_record_replay.specs.Runs.{CanArrive}

all_first : {X : Type 0} (Q : X → Type 0) (x : X) (xs : List X) → Q x → All Q xs → All Q (x ∷ xs)
all_first Q x xs here more zero d h = here
all_first Q x xs here more (suc i) d h = more i d (omega arith)

-- the core takes the messages
pub messages_of_record : (P : Plan) (xs : List Arrival) → All (IsKnown P) (map came xs) → All (CanArrive P) xs
messages_of_record P [] known = λ i d h. absurd (omega arith)
messages_of_record P (x ∷ xs) known =
    let here = known 0 (came x) (omega arith) in
    all_first (CanArrive P) x xs (here.sim, here.in_range) (messages_of_record P xs (λ i d h. known (suc i) d (omega arith)))
