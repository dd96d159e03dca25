-- What was said with a simulator in a journal, and where two talks part.
use Rattle.std.specs.Prelude.{◌≡◌, ℕ, List, ◌∷◌, ◌++◌, fold, filter_map, map, filter, Bool, ◌==◌, Option, Some, None}
use Rattle.mk_base.specs.declared.tier.Tier.{Tier}
use Rattle.mk_plan.specs.declared.Item.TheVariants.{Step, GetData, Answer, Refuse}
use Rattle.mk_plan.specs.declared.Message.{Message}
use Rattle.mk_plan.specs.declared.Entry.{Entry}
use Rattle.mk_plan.specs.declared.Entry.TheVariants.{Sent, Got}
use Rattle.mk_plan.specs.Acts.{Said, Told, Heard}
use Rattle.mk_plan.specs.Journals.{bare}

-- what an entry says: an item without its max_advance, or a message
abbrev pub said : Entry → Said
said (Sent s item) = Told (bare item)
said (Got s m) = Heard m

-- the entry was sent to simulator i, or came from it
abbrev pub is_with : ℕ → Entry → Bool
is_with i (Sent s item) = s.0 == i
is_with i (Got s m) = s.0 == i

-- the talk of a simulator in a journal: what was sent to it and what came from it, in order
abbrev pub talk : List Entry → ℕ → List Said
talk J i = map said (filter (is_with i) J)

-- the message, if it is one
abbrev pub message_in : Said → Option Message
message_in (Told item) = None
message_in (Heard m) = Some m

-- the messages of a talk
abbrev pub messages : List Said → List Message
messages xs = filter_map message_in xs

-- the time of the Step that is said, or else the time before
abbrev pub step_after : Option Tier → Said → Option Tier
step_after before (Heard m) = before
step_after before (Told (Step at ins advance)) = Some at
step_after before (Told (GetData wants)) = before
step_after before (Told (Answer id content)) = before
step_after before (Told (Refuse id reason)) = before

-- the time of the last Step of a talk
abbrev pub last_step : List Said → Option Tier
last_step xs = fold step_after None xs

-- two talks are equal up to a place at which both have a message, and these messages differ
pub record PartByMessages (xs ys : List Said) (before : List Said) (m n : Message) : Type 0 where
  pub more : List Said
  pub other : List Said
  pub first : xs ≡ before ++ Heard m ∷ more
  pub second : ys ≡ before ++ Heard n ∷ other
  pub differ : m ≡ n → ⊥
