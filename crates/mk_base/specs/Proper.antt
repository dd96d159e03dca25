-- Trees as the types of the program keep them.
use Rattle.std.specs.Prelude.{ℕ, Bool, true, ◌&&◌, List, [], ◌∷◌}
use Rattle.std.specs.List.{list_all}
use Rattle.std.specs.Map.{keys_of}
use Rattle.std.specs.Str.{is_utf8}
use Rattle.std.specs.Ordering.{is_lt}
use Rattle.mk_base.specs.declared.json.Json.{Json, Json-F}
use Rattle.mk_base.specs.Folds.{folded}
use Rattle.mk_base.specs.Lists.{text_order}

-- the names stand in byte order, each once
abbrev pub names_rise : List (List ℕ) → Bool
names_rise [] = true
names_rise (k ∷ ks) = list_all (λ l. is_lt (text_order k l)) ks && names_rise ks

abbrev proper_step : Json-F Bool → Bool
proper_step Json-F.Null = true
proper_step (Json-F.Bool b) = true
proper_step (Json-F.Whole n) = true
proper_step Json-F.Odd = true
proper_step (Json-F.Text s) = is_utf8 s
proper_step (Json-F.List bs) = list_all (λ (b : Bool). b) bs
proper_step (Json-F.Object ms) = names_rise (keys_of ms) && list_all is_utf8 (keys_of ms)
    && list_all (λ (m : List ℕ × Bool). m.1) ms

-- each text and name is UTF-8, and each object has its names in byte order, each once
abbrev pub is_proper : Json → Bool
is_proper = folded Bool proper_step
