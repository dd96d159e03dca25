-- What all commands on records make of a record's bytes first: what they say, and the journal of
-- their replay, in which all is done; or why there is none.
use Rattle.std.specs.Prelude.{◌≡◌, ◌⊎◌, ℕ, List, Option, Some, None}
use Rattle.mk_plan.specs.declared.Plan.{Plan}
use Rattle.mk_plan.specs.declared.Entry.{Entry}
use Rattle.mk_plan.specs.Plans.{IsValidPlan}
use Rattle.mk_plan.specs.Journals.{Arrival}
use Rattle.mk_record.specs.Reading.{reading, Said, Faulty}
use Rattle.mk_record.specs.Asked.{Asked}
use Rattle.mk_record.specs.Differences.{IsOther}
use Rattle.mk_record.specs.Replays.{IsReplay, IsWhole}
use Rattle.mk_record.specs.Orders.{IsReplayBy, IsReplayInOrder}
use Rattle.mk_record.specs.ReplayEnd.{ReplayEnd}
use Rattle.mk_record.specs.ReplayEnd.TheVariants as ends
use Rattle.mosaikrun_sayings.specs.Stops.{stop_of}
use Rattle.mosaikrun_endings.specs.declared.ending.Ending.{Ending}
use Rattle.mosaikrun_endings.specs.declared.ending.Ending.TheVariants as endings

-- why the bytes are no record: their first fault, or want of memory
abbrev pub IsUnread : List ℕ → Ending → Type 0
IsUnread bytes e = (e ≡ endings.Mem)
    ⊎ ((line : ℕ) × (fault : ℕ) × (e ≡ endings.Record line fault)
    × (reading bytes ≡ Faulty line fault))

-- the bytes are a record
pub record IsRecord (bytes : List ℕ) : Type 0 where
  pub plan : Plan
  pub arrivals : List Arrival
  pub steps : Option (List Asked)
  pub read : reading bytes ≡ Said plan arrivals steps

-- the replay in this order comes to a journal in which all is done; one of the messages as they
-- came, which begins with the steps and messages of a record of version 2, or one of them in the
-- order of a number
abbrev pub IsDoneBy : Plan → List Arrival → Option (List Asked) → Option ℕ → List Entry → Type 0
IsDoneBy P A steps None J = IsReplay P A J × IsOther A steps J None × IsWhole P A J
IsDoneBy P A steps (Some N) J = IsReplayInOrder P A N J ends.Done

-- what is said of a replay that doesn't end with all done
abbrev pub IsSaidOf : Plan → List Entry → ReplayEnd → Ending → Type 0
IsSaidOf P J ends.Done e = ⊥
IsSaidOf P J (ends.Short n) e = e ≡ endings.Short n
IsSaidOf P J (ends.Other n) e = e ≡ endings.Differs n
IsSaidOf P J (ends.Core fault) e = e ≡ stop_of P J fault

-- the bytes are a record of a valid plan, whose replay in this order ends as is said
pub record EndsEarly (bytes : List ℕ) (order : Option ℕ) (e : Ending) : Type 0 where
  pub plan : Plan
  pub arrivals : List Arrival
  pub journal : List Entry
  pub end : ReplayEnd
  pub steps : Option (List Asked)
  pub read : reading bytes ≡ Said plan arrivals steps
  pub valid : IsValidPlan plan
  pub replayed : IsReplayBy plan arrivals steps order journal end
  pub said : IsSaidOf plan journal end e

-- why the replay of a record in this order isn't done: it ends as is said, or memory is wanting
abbrev pub IsNotDone : List ℕ → Option ℕ → Ending → Type 0
IsNotDone bytes order e = (e ≡ endings.Mem) ⊎ EndsEarly bytes order e

-- the bytes are a record of this plan, which is valid, and its replay, its messages as they came,
-- comes to this journal, in which all is done
pub record ReplaysTo (bytes : List ℕ) (P : Plan) (J : List Entry) : Type 0 where
  pub arrivals : List Arrival
  pub steps : Option (List Asked)
  pub read : reading bytes ≡ Said P arrivals steps
  pub valid : IsValidPlan P
  pub done : IsDoneBy P arrivals steps None J
