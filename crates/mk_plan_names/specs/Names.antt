-- The names of a plan's parts, as an index of them has them.
use Rattle.std.specs.Prelude.{◌≡◌, ℕ, Bool, false, ◌==◌, ◌&&◌, List, length, map, unwrap_or, option_map, slice_get}
use Rattle.std.specs.List.{list_any, range_with_len}
use Rattle.std.specs.String.{string_bytes}
use Rattle.std.specs.declared.string.String.{String}
use Rattle.indexmap.specs.IndexSet.{IndexSet, contains_text}
use Rattle.mk_plan.specs.declared.Plan.{Plan}
use Rattle.mk_plan.specs.Plans.{full_id, has_pair}
use Rattle.mk_plan.specs.Asks.{gives_attr}
use Rattle.mk_plan_names.specs.declared.index.Names.{Names}

-- the full ids of all entities, in order
abbrev pub full_ids : Plan → List (List ℕ)
full_ids P = map (full_id P) (range_with_len 0 (length P.entities))

-- the set at the place has the text
abbrev pub has_at : {S Y : Type 0} → List (IndexSet (String Y) S) → ℕ → List ℕ → Bool
has_at sets e text = unwrap_or (option_map (λ s. contains_text s text) (slice_get sets e)) false

-- one of the pairs is of these two
abbrev pub is_paired : List (ℕ × ℕ) → ℕ → ℕ → Bool
is_paired pairs from to = list_any (λ p. (p.0 == from) && (p.1 == to)) pairs

-- the full ids are those of the plan's entities, the attributes are those that connections take,
-- and the pairs are the plan's
pub record AreNamesOf (P : Plan) (n : Names) : Type 0 where
  pub ids : map string_bytes n.ids.keys ≡ full_ids P
  pub attrs : (e : ℕ) (attr : List ℕ) → has_at n.attrs.items e attr ≡ gives_attr P e attr
  pub pairs : (from to : ℕ) → is_paired n.pairs.keys from to ≡ has_pair P from to
