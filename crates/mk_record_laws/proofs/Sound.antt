-- For proofs alone. What is parsed is sound.
use Rattle.std.proofs.Common.{◌≡◌, ℕ, ◌≤◌, Bool, true, false, List, Option, Some, None, option_map, refl, sym, subst, if◌then◌else◌}
use Rattle.std.specs.Str.{is_utf8}
use Rattle.std.proofs.lemmas.Str.{IsUtf8-from_is_utf8}
use Rattle.serde_json.specs.Data.{Data}
use Rattle.serde_json.specs.Read.{read}
use Rattle.serde_json.proofs.Nesting.{depth-read}
use Rattle.mk_base.specs.declared.json.Json.{Json}
use Rattle.mk_base.proofs.Lists.{some_same, none_some}
use Rattle.mk_json.specs.Parsed.{tree_of, parsed}
use Rattle.mk_json.proofs.Values.{read-in_range, nesting-tree_of}
use Rattle.mk_record_laws.specs.Sound.{IsSoundTree}
use Rattle.mk_record_laws.proofs.Values.{read_proper}

pub sound_tree : (bytes : List ℕ) (t : Json) → parsed bytes ≡ Some t → IsSoundTree t
sound_tree bytes t e = by (is_utf8 bytes) (read bytes) refl refl e
  where
    by : (b : Bool) (o : Option Data) → is_utf8 bytes ≡ b → read bytes ≡ o → (if b then option_map tree_of o else None) ≡ Some t → IsSoundTree t
    by false o u r e = absurd (none_some e)
    by true None u r e = absurd (none_some e)
    by true (Some d) u r e = subst IsSoundTree (some_same e) (record {
      proper = read_proper bytes d (IsUtf8-from_is_utf8 bytes u) r;
      in_range = read-in_range bytes d r;
      nests = subst (λ (n : ℕ). n ≤ 127) (sym (nesting-tree_of d)) (depth-read bytes d r);
    })
