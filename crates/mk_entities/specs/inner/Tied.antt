-- For proofs alone. Beside `Tied`, which has what a reader needs.
use Rattle.std.specs.Prelude.{◌≡◌, ℕ, suc, ◌==◌, ◌≤◌, List, [], ◌∷◌, length, unwrap_or, slice_get, if◌then◌else◌}
use Rattle.mk_entities.specs.declared.entities.EntityInfo.{EntityInfo}
use Rattle.mk_entities.specs.Sound.{AreSound}
use Rattle.mk_entities.specs.Tied.{AreFirst}
use Rattle.mk_base.specs.Limits.{most_entities}

-- the eids of simulator s among entities that are numbered from n
abbrev pub numbered : ℕ → ℕ → List EntityInfo → List (List ℕ × ℕ)
numbered s n [] = []
numbered s n (e ∷ es) = if e.sim.0 == s then (e.eid, n) ∷ numbered s (suc n) es
    else numbered s (suc n) es

-- the names at place s
abbrev pub names_at : List (List (List ℕ × ℕ)) → ℕ → List (List ℕ × ℕ)
names_at names s = unwrap_or (slice_get names s) []

-- there are few enough entities, each is found by its eid and has what it must have, and each
-- simulator's names are theirs
pub record IsTied (entities : List EntityInfo) (names : List (List (List ℕ × ℕ))) : Type 0 where
  pub few : length entities ≤ most_entities
  pub distinct : AreFirst entities
  pub sound : AreSound entities
  pub numbers : (s : ℕ) → names_at names s ≡ numbered s 0 entities
