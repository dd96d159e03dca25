-- For proofs alone. The tables of bounds in which no simulator has a start.
use Rattle.std.specs.Prelude.{◌≡◌, ℕ, ◌<◌, false, length, slice_index, slice_index_or}
use Rattle.mk_tiers.specs.declared.filled.Labels.{Labels}
use Rattle.mk_tiers.specs.declared.filled.Hints.{Hints}
use Rattle.mk_tiers.specs.declared.filled.Tables.{Tables}
use Rattle.mk_tiers.specs.Times.{never}

-- n starts and labels that never come, and n places for labels to be tried
pub record AreNever (n : ℕ) (t : Labels) : Type 0 where
  pub owns_count : length t.owns.items ≡ n
  pub labels_count : length t.labels.items ≡ n
  pub trial_count : length t.trial.items ≡ n
  pub owns : (i : ℕ) → i < n → slice_index t.owns.items i ≡ never
  pub labels : (i : ℕ) → i < n → slice_index t.labels.items i ≡ never

-- n places of each kind
pub record AreFirst (n : ℕ) (t : Hints) : Type 0 where
  pub hints : length t.hints.items ≡ n
  pub blocks : length t.blocks.items ≡ n

-- the tables of n simulators, of which none has a start or is busy
pub record AreIdle (n : ℕ) (t : Tables) : Type 0 where
  pub labels : AreNever n t.labels
  pub busy_count : length t.busy.items ≡ n
  pub busy : (i : ℕ) → slice_index_or t.busy.items i false ≡ false
  pub places : AreFirst n t.places
