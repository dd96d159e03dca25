-- For proofs alone. Numbers below a count, each at most once, in the order in which they came.
use Rattle.std.specs.Prelude.{◌≡◌, ℕ, Bool, true, false, List, length, slice_get, slice_index_or, Some, count_by}
use Rattle.mk_base.specs.Lists.{IsIn}

pub record Listing : Type 0 where
  pub count : ℕ
  pub order : List ℕ

-- a number is marked exactly if it is listed, as many are marked as are listed, and each is listed
-- at most once
pub record MarksListed (marks : List Bool) (order : List ℕ) : Type 0 where
  pub listed : (s : ℕ) → slice_index_or marks s false ≡ true → IsIn s order
  pub marked : (s : ℕ) → IsIn s order → slice_index_or marks s false ≡ true
  pub counted : count_by (λ (b : Bool). b) marks ≡ length order
  pub apart : (i j s : ℕ) → slice_get order i ≡ Some s → slice_get order j ≡ Some s → i ≡ j
