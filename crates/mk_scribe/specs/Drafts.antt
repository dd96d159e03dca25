-- What is seen of a draft, which may be missing.
use Rattle.std.specs.Prelude.{◌≡◌, ℕ, ◌≤◌, ◌⊎◌, Bool, true, false, List, Option, Some, None}
use Rattle.mk_outside.specs.Counts.{HasRisen}
use Rattle.mk_outside.specs.Sinks.{appended}

-- whether there is one; what was written, where the sink tells that; and the sink's counts
pub record Draft : Type 0 where
  pub is_there : Bool
  pub written : Option (List ℕ)
  pub faults : ℕ
  pub shortages : ℕ

-- a sink as a draft
abbrev pub draft_of : {S : Type 0} → (S → Option (List ℕ)) → (S → ℕ) → (S → ℕ) → Option S → Draft
draft_of written faults shortages None = record {
  is_there = false;
  written = None;
  faults = 0;
  shortages = 0;
}
draft_of written faults shortages (Some sink) = record {
  is_there = true;
  written = written sink;
  faults = faults sink;
  shortages = shortages sink;
}

-- the same draft later: more may stand after what was written, and no count has fallen
pub record IsLater (old new : Draft) : Type 0 where
  pub same : new.is_there ≡ old.is_there
  pub more : List ℕ
  pub grown : new.written ≡ appended more old.written
  pub faults : old.faults ≤ new.faults
  pub shortages : old.shortages ≤ new.shortages

-- the sink has counted a fault since, or that memory was out
abbrev pub HasRefused : Draft → Draft → Type 0
HasRefused old new = HasRisen old.faults new.faults ⊎ HasRisen old.shortages new.shortages
