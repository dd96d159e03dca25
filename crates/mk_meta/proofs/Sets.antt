-- Texts that are put into a set, and those that it has.
use Rattle.std.proofs.Common.{◌≡◌, ℕ, true, ◌||◌, List, [], ◌∷◌, ◌++◌, sym, ap, ◌∙◌}
use Rattle.std.specs.Str.{bytes_eq}
use Rattle.std.specs.String.{string_bytes, string_eq}
use Rattle.std.specs.declared.string.String.{String}
use Rattle.std.proofs.lemmas.List.Folds.{list_any-append}
use Rattle.std.proofs.lemmas.Map.Text.{hash_set_updates_text}
use Rattle.indexmap.specs.IndexSet.{IndexSet, contains_text, UpdatesBy}
use Rattle.mk_base.specs.Lists.{is_among, same_text}
use Rattle.mk_meta.specs.inner.TextSets.{HasMore, HasTexts}
use Rattle.mk_base.proofs.Bools.{cond_is_or, or_false}

module _ {S Y : Type 0} where
  pub set_grown : (old new : IndexSet (String Y) S) (key : String Y) (text : List ℕ) → string_bytes key ≡ text → UpdatesBy string_eq (string_eq key) old new true → HasMore old text new
  set_grown old new key text is up other = hash_set_updates_text (string_bytes key) old new true up other ∙ cond_is_or (bytes_eq (string_bytes key) other) (contains_text old other) ∙ ap (λ k. contains_text old other || bytes_eq k other) is

  pub has_more : (known new : IndexSet (String Y) S) (texts : List (List ℕ)) (text : List ℕ) → HasTexts known texts → HasMore known text new → HasTexts new (texts ++ text ∷ [])
  has_more known new texts text has more other = more other ∙ ap (λ b. b || same_text text other) (has other) ∙ ap (λ b. is_among texts other || b) (sym (or_false (same_text text other))) ∙ sym (list_any-append (λ t. same_text t other) texts (text ∷ []))
