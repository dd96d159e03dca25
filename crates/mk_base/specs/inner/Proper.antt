-- For proofs alone. Beside `Proper`, which has what a reader needs.
use Rattle.std.specs.Prelude.{ℕ, Bool, ◌&&◌, List}
use Rattle.std.specs.List.{list_all}
use Rattle.std.specs.Map.{keys_of}
use Rattle.std.specs.Str.{is_utf8}
use Rattle.mk_base.specs.declared.json.Json.{Json}
use Rattle.mk_base.specs.Proper.{names_rise, is_proper}

-- the members of an object of a proper tree
abbrev pub are_proper : List (List ℕ × Json) → Bool
are_proper ms = names_rise (keys_of ms) && list_all is_utf8 (keys_of ms)
    && list_all (λ (m : List ℕ × Json). is_proper m.1) ms
