-- How far a simulator can be sent the items of a journal anew: up to the first of its messages that
-- it hasn't sent again.
use Rattle.std.specs.Prelude.{ℕ, zero, suc, ◌==◌, List, [], ◌∷◌, if◌then◌else◌}
use Rattle.mk_plan.specs.declared.Item.{Item}
use Rattle.mk_plan.specs.declared.Entry.{Entry}
use Rattle.mk_plan.specs.declared.Entry.TheVariants.{Sent, Got}
use Rattle.mk_plan.specs.Journals.{sent}

-- the beginning of a journal up to the message of simulator i that comes after n others of it; all of
-- the journal where there is none
abbrev pub up_to : ℕ → ℕ → List Entry → List Entry
up_to i n [] = []
up_to i n (Sent s item ∷ J) = Sent s item ∷ up_to i n J
up_to i n (Got s m ∷ J) = if s.0 == i
    then elim n [ zero ↦ [] | suc k ↦ Got s m ∷ up_to i k J ]
    else Got s m ∷ up_to i n J

-- the items of simulator i that are free once it has sent n messages again: those that were sent
-- before its message n, from 0
abbrev pub free_items : List Entry → ℕ → ℕ → List Item
free_items J i n = sent (up_to i n J) i
