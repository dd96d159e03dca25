-- Bytes that are UTF-8, and others.
use Rattle.std.proofs.Common.{◌≡◌, ℕ, List, true, false, Some, None, refl, ap}
use Rattle.std.specs.Prelude.{IsUtf8, option_map, if◌then◌else◌}
use Rattle.std.specs.Str.{is_utf8}
use Rattle.std.proofs.lemmas.Str.{IsUtf8-from_is_utf8, is_utf8-from_IsUtf8}
use Rattle.toml.specs.Data.{Members}
use Rattle.toml.specs.Parse.{parse_document}
use Rattle.mk_base.specs.declared.json.Json as tree
use Rattle.mk_scenario_toml.specs.Document.{members_of, table_of, toml_of}

pub toml_is : (bytes : List ℕ) (ms : Members) → IsUtf8 bytes → parse_document bytes ≡ Some ms → toml_of bytes ≡ Some (tree.Object (members_of ms))
toml_is bytes ms text e = rw (is_utf8-from_IsUtf8 bytes text) (ap (option_map (λ ms. tree.Object (members_of ms))) e)

pub toml_none : (bytes : List ℕ) → (IsUtf8 bytes → parse_document bytes ≡ None) → toml_of bytes ≡ None
toml_none bytes h = elim (is_utf8 bytes) as (λ b. is_utf8 bytes ≡ b → (if b then table_of bytes else None) ≡ None) [
  | true ↦ λ e. ap (option_map (λ ms. tree.Object (members_of ms))) (h (IsUtf8-from_is_utf8 bytes e))
  | false ↦ λ e. refl
] refl
