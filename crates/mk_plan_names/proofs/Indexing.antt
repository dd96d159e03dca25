-- The places of full ids among all, and the entities that have them.
use Rattle.std.proofs.Common.{◌≡◌, ℕ, zero, suc, ◌+◌, ◌<◌, ◌≤◌, get_or, Bool, true, false, List, [], ◌∷◌, ◌++◌, map, length, Option, Some, None, option_map, position, refl, sym, ap, ◌∙◌, arith, true≢false, if◌then◌else◌}
use Rattle.std.specs.List.{find, list_any, range_with_len}
use Rattle.std.specs.Str.{bytes_eq}
use Rattle.std.specs.String.{string_bytes, string_eq}
use Rattle.std.specs.declared.string.String.{String}
use Rattle.std.proofs.lemmas.Slice.Eq.{bytes_eq-Decides}
use Rattle.indexmap.specs.IndexSet.{insert_key}
use Rattle.mk_base.specs.Lists.{same_text}
use Rattle.mk_base.proofs.Lists.{map_append}
use Rattle.mk_base.proofs.AtPlaces.{place_first, place_later, same_sym}
use Rattle.mk_plan.specs.declared.Plan.{Plan}
use Rattle.mk_plan.specs.Plans.{full_id, RefersInside, HasDistinctNames}
use Rattle.mk_plan.proofs.FullIds.{same_full}
use Rattle.mk_base.proofs.Items.{range_more}

-- ---- ids of entities in order

heads : {x y : List ℕ} {xs ys : List (List ℕ)} → x ∷ xs ≡ y ∷ ys → (x ≡ y) × (xs ≡ ys)
heads e = (cc, cc)

along : (a : ℕ) (r : Option ℕ) → option_map (λ i. a + i) (option_map suc r) ≡ option_map (λ i. a + 1 + i) r
along a None = refl
along a (Some i) = ap Some (omega arith)

module _ {Y : Type 0} (f : ℕ → List ℕ) (t : List ℕ) where
  abbrev is : String Y → Bool
  is k = bytes_eq t (string_bytes k)

  -- the place of a text among the ids is the entity that it names
  pub found : (ks : List (String Y)) (a n : ℕ) → map string_bytes ks ≡ map f (range_with_len a n) → option_map (λ i. a + i) (position is ks) ≡ find (λ e. same_text (f e) t) (range_with_len a n)
  found [] a zero e = refl
  found [] a (suc n) e = cc
  found (k ∷ ks) a zero e = cc
  found (k ∷ ks) a (suc n) e = let h = heads e in at (is k) (same_text (f a) t) refl refl (same_sym t (string_bytes k) ∙ ap (λ s. same_text s t) h.0) (found ks (a + 1) n h.1)
    where
      at : (b c : Bool) → is k ≡ b → same_text (f a) t ≡ c → is k ≡ same_text (f a) t → option_map (λ i. a + 1 + i) (position is ks) ≡ find (λ e. same_text (f e) t) (range_with_len (a + 1) n)
          → option_map (λ i. a + i) (position is (k ∷ ks)) ≡ (if same_text (f a) t then Some a else find (λ e. same_text (f e) t) (range_with_len (a + 1) n))
      at true true here there same rest = rw there (ap (option_map (λ i. a + i)) (place_first is k ks here) ∙ ap Some (omega arith))
      at false false here there same rest = rw there (ap (option_map (λ i. a + i)) (place_later is k ks here) ∙ along a (position is ks) ∙ rest)
      at true false here there same rest = absurd (true≢false (sym here ∙ same ∙ there))
      at false true here there same rest = absurd (true≢false (sym there ∙ sym same ∙ here))

  -- a text that is no id is not among the keys
  pub absent : (ks : List (String Y)) (a n : ℕ) → map string_bytes ks ≡ map f (range_with_len a n) → ((j : ℕ) → a ≤ j → j < a + n → bytes_eq t (f j) ≡ false) → list_any is ks ≡ false
  absent [] a n e none = refl
  absent (k ∷ ks) a zero e none = cc
  absent (k ∷ ks) a (suc n) e none = let h = heads e in rw (ap (bytes_eq t) h.0 ∙ none a (omega arith) (omega arith)) (absent ks (a + 1) n h.1 (λ j low high. none j (omega arith) (omega arith)))

  pub key_at : (ks : List (String Y)) (a n i : ℕ) (k : String Y) → map string_bytes ks ≡ map f (range_with_len a n) → i < length ks → k ≡ get_or ks i k → string_bytes k ≡ f (a + i)
  key_at [] a n i k e low at = absurd (omega arith)
  key_at (x ∷ ks) a zero i k e low at = cc
  key_at (x ∷ ks) a (suc n) zero k e low at = ap string_bytes at ∙ (heads e).0 ∙ ap f (omega arith)
  key_at (x ∷ ks) a (suc n) (suc i) k e low at = key_at ks (a + 1) n i k (heads e).1 (omega arith) at ∙ ap f (omega arith)

from_zero : (r : Option ℕ) → option_map (λ i. 0 + i) r ≡ r
from_zero None = refl
from_zero (Some i) = ap Some (omega arith)

module _ {Y : Type 0} (P : Plan) where
  pub entity_at : (t : List ℕ) (ks : List (String Y)) → map string_bytes ks ≡ map (full_id P) (range_with_len 0 (length P.entities)) → position (λ k. bytes_eq t (string_bytes k)) ks ≡ find (λ e. same_text (full_id P e) t) (range_with_len 0 (length P.entities))
  entity_at t ks e = sym (from_zero (position (λ k. bytes_eq t (string_bytes k)) ks)) ∙ found (full_id P) t ks 0 (length P.entities) e

  -- the next entity's id goes last
  pub id_added : RefersInside P → HasDistinctNames P → (ks new : List (String Y)) (key : String Y) (i : ℕ) → map string_bytes ks ≡ map (full_id P) (range_with_len 0 i) → string_bytes key ≡ full_id P i → i < length P.entities → new ≡ insert_key string_eq ks key → map string_bytes new ≡ map (full_id P) (range_with_len 0 (i + 1))
  id_added refs names ks new key i e named low made =
      let none : list_any (string_eq key) ks ≡ false = absent (full_id P) (string_bytes key) ks 0 i e (λ j zero below. fresh j (omega arith) (bytes_eq (string_bytes key) (full_id P j)) refl) in
      let last : new ≡ ks ++ key ∷ [] = made ∙ ap (λ b. if b then ks else ks ++ key ∷ []) none in
      let zero_more : i ≡ 0 + i = omega arith in
      let one_more : suc i ≡ i + 1 = omega arith in
      ap (map string_bytes) last ∙ map_append string_bytes ks (key ∷ []) ∙ (λ k. e k ++ named k ∷ []) ∙ sym (map_append (full_id P) (range_with_len 0 i) (i ∷ []))
      ∙ ap (map (full_id P)) (ap (λ j. range_with_len 0 i ++ j ∷ []) zero_more ∙ sym (range_more 0 i) ∙ ap (range_with_len 0) one_more)
    where
      apart : (j : ℕ) → j < i → full_id P i ≡ full_id P j → ⊥
      apart j less same = let eq : i ≡ j = same_full P names refs i j low (omega arith) same in absurd (omega arith)

      fresh : (j : ℕ) → j < i → (b : Bool) → bytes_eq (string_bytes key) (full_id P j) ≡ b → bytes_eq (string_bytes key) (full_id P j) ≡ false
      fresh j less false h = h
      fresh j less true h = absurd (apart j less (sym named ∙ (bytes_eq-Decides (string_bytes key) (full_id P j)).0 h))

module _ {Y : Type 0} (f : ℕ → List ℕ) where
  -- there are as many ids as entities
  pub ids_count : (ks : List (String Y)) (a n : ℕ) → map string_bytes ks ≡ map f (range_with_len a n) → length ks ≡ n
  ids_count [] a zero e = refl
  ids_count [] a (suc n) e = cc
  ids_count (k ∷ ks) a zero e = cc
  ids_count (k ∷ ks) a (suc n) e = ap suc (ids_count ks (a + 1) n (heads e).1)
