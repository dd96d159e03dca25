-- For proofs alone. Beside `Lists`, which has what a reader needs.
use Rattle.std.specs.Prelude.{ℕ, Bool, List, [], ◌∷◌, suc, if◌then◌else◌, unwrap_or, slice_get, false, Option, Some, None, option_map}
use Rattle.std.specs.Ordering.{nat_cmp, is_gt}
use Rattle.std.specs.Cmp.Lexicographic.{slice_cmp}
use Rattle.mk_base.specs.Lists.{same_text}

-- how many entries stand before the place of this name, where names rise
abbrev pub place_under : {V : Type 0} → List ℕ → List (List ℕ × V) → ℕ
place_under name [] = 0
place_under name (e ∷ es) = if is_gt (slice_cmp nat_cmp name e.0) then suc (place_under name es)
    else 0

-- the entry at place i has this name
abbrev pub is_name_at : {V : Type 0} → List ℕ → List (List ℕ × V) → ℕ → Bool
is_name_at {V} name entries i = unwrap_or
    (option_map (λ (e : List ℕ × V). same_text name e.0) (slice_get entries i)) false

-- the value of this entry, if it is there and has this name
abbrev pub value_if_named : {V : Type 0} → List ℕ → Option (List ℕ × V) → Option V
value_if_named name None = None
value_if_named name (Some e) = if same_text name e.0 then Some e.1 else None
