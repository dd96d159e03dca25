-- For proofs alone. Where a simulator stands behind an entry of it, and whether anybody is behind.
use Rattle.std.specs.Prelude.{◌≡◌, ℕ, ◌+◌, Option, Some, None, slice_get}
use Rattle.mk_resume_loop.specs.declared.behind.Standing.{Standing}
use Rattle.mk_resume_loop.specs.inner.Underway.{BehindSeen}

-- where a simulator stands, once its next entry, a message, was looked up behind so many
abbrev pub standing_at : Option ℕ → ℕ → ℕ → Option Standing
standing_at None gone id = None
standing_at (Some p) gone id = Some (record { place = p; gone = gone + 1; id = id })

-- nobody is behind
abbrev pub HasNobody : BehindSeen → Type 0
HasNobody B = (i : ℕ) → (o : Option Standing) → slice_get B.sims i ≡ Some o → o ≡ None

-- somebody is
abbrev pub HasSomebody : BehindSeen → Type 0
HasSomebody B = (i : ℕ) × (c : Standing) × (slice_get B.sims i ≡ Some (Some c))
