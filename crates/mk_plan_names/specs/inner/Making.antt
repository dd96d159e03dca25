-- For proofs alone. How an index of names comes about.
use Rattle.std.specs.Prelude.{◌≡◌, ℕ, ◌==◌, ◌&&◌, ◌||◌, List, length, map}
use Rattle.std.specs.List.{list_any, range_with_len}
use Rattle.std.specs.String.{string_bytes}
use Rattle.std.specs.declared.string.String.{String}
use Rattle.indexmap.specs.IndexSet.{IndexSet}
use Rattle.mk_base.specs.Lists.{same_text}
use Rattle.mk_plan.specs.declared.AsyncPair.{AsyncPair}
use Rattle.mk_plan.specs.declared.Conn.{Conn}
use Rattle.mk_plan.specs.declared.Plan.{Plan}
use Rattle.mk_plan.specs.Plans.{full_id}
use Rattle.mk_plan_names.specs.Names.{has_at, is_paired}

-- the texts are the full ids of the first n entities
abbrev pub AreFirstIds : {Y : Type 0} → Plan → ℕ → List (String Y) → Type 0
AreFirstIds P n ids = map string_bytes ids ≡ map (full_id P) (range_with_len 0 n)

-- the sets have the attributes that these connections take
abbrev pub AreAttrsOf : {S Y : Type 0} → List Conn → List (IndexSet (String Y) S) → Type 0
AreAttrsOf cs sets = (e : ℕ) (attr : List ℕ)
    → has_at sets e attr ≡ list_any (λ c. (c.from == e) && same_text c.from_attr attr) cs

-- there are as many sets, and that of the connection's source has its attribute too
pub record HasSource {S Y : Type 0} (old : List (IndexSet (String Y) S)) (c : Conn)
    (new : List (IndexSet (String Y) S)) : Type 0 where
  pub count : length new ≡ length old
  pub each : (e : ℕ) (attr : List ℕ)
      → has_at new e attr ≡ has_at old e attr || ((c.from == e) && same_text c.from_attr attr)

-- the pairs are these
abbrev pub ArePairsOf : List AsyncPair → List (ℕ × ℕ) → Type 0
ArePairsOf asyncs pairs = (from to : ℕ)
    → is_paired pairs from to ≡ list_any (λ p. (p.from.0 == from) && (p.to.0 == to)) asyncs
