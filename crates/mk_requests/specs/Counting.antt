-- Request ids that are counted up.
use Rattle.std.specs.Prelude.{ℕ, Option}

-- the id that is drawn next, and the one that awaits its answer
pub record Counting : Type 0 where
  pub next : ℕ
  pub outstanding : Option ℕ
