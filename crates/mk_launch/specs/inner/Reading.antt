-- For proofs alone. What a reader of a template has read so far.
use Rattle.std.specs.Prelude.{ℕ, List, Option}

-- the address; whole words; the word that goes on; and the part that goes on, by its quotation mark
-- and where it was opened
pub record Reading : Type 0 where
  pub address : List ℕ
  pub done : List (List ℕ)
  pub word : Option (List ℕ)
  pub part : Option (ℕ × ℕ)
