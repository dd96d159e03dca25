-- For proofs alone. What each simulator was sent in a journal, kept for each apart.
use Rattle.std.specs.Prelude.{◌≡◌, ℕ, List, length, slice_get, Some}
use Rattle.mk_plan.specs.declared.Entry.{Entry}
use Rattle.mk_plan.specs.declared.Item.{Item}
use Rattle.mk_plan.specs.Journals.{sent}

-- for each of so many simulators the items that it was sent, in order
pub record AreShares (count : ℕ) (J : List Entry) (shares : List (List Item)) : Type 0 where
  pub all : length shares ≡ count
  pub each : (i : ℕ) (s : List Item) → slice_get shares i ≡ Some s → s ≡ sent J i
