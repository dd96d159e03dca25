-- The attributes that connections take, by their entities.
use Rattle.std.proofs.Common.{◌≡◌, ℕ, zero, suc, ◌+◌, ◌<◌, nat_eq, Bool, true, false, ◌&&◌, ◌||◌, List, [], ◌∷◌, ◌++◌, length, slice_get, slice_set, get_or, Option, Some, option_map, unwrap_or, refl, sym, ap, ◌∙◌, arith, ◌==◌, if◌then◌else◌, take, true≢false}
use Rattle.std.specs.List.{list_any}
use Rattle.std.specs.Str.{bytes_eq}
use Rattle.std.specs.String.{string_bytes, string_eq}
use Rattle.std.specs.declared.string.String.{String}
use Rattle.std.proofs.lemmas.Bool.{and_parts, eqb-true}
use Rattle.std.proofs.lemmas.List.{take_more}
use Rattle.std.proofs.lemmas.Option.{slice_get-get_or}
use Rattle.std.proofs.lemmas.List.Folds.{list_any-append}
use Rattle.std.proofs.lemmas.Slice.Eq.{bytes_eq-Decides}
use Rattle.std.proofs.lemmas.Map.Text.{hash_set_updates_text}
use Rattle.indexmap.specs.IndexSet.{IndexSet, contains_text, insert_key, UpdatesBy}
use Rattle.mk_base.specs.Lists.{same_text}
use Rattle.mk_base.proofs.Lists.{length_set, set_here, set_else, some_passes, passes_some}
use Rattle.mk_plan.specs.declared.AsyncPair.{AsyncPair}
use Rattle.mk_plan.specs.declared.Conn.{Conn}
use Rattle.mk_plan_names.specs.inner.Making.{AreAttrsOf, ArePairsOf, HasSource}
use Rattle.mk_plan_names.specs.Names.{has_at, is_paired}
use Rattle.mk_base.proofs.Counts.{test_equal}
use Rattle.mk_base.proofs.Bools.{cond_is_or, is_or_false}

has_it : (x b : Bool) → x ≡ true → x ≡ x || b
has_it true b h = refl
has_it false b h = absurd (true≢false (sym h))

module _ {S Y : Type 0} where
  at_place : (sets : List (IndexSet (String Y) S)) (e : ℕ) (attr : List ℕ) (s : IndexSet (String Y) S) → slice_get sets e ≡ Some s → has_at sets e attr ≡ contains_text s attr
  at_place sets e attr s is = ap (λ (o : Option (IndexSet (String Y) S)). unwrap_or (option_map (λ s. contains_text s attr) o) false) is

  -- one set takes the connection's attribute, or has it already
  pub source_added : (sets : List (IndexSet (String Y) S)) (c : Conn) (old d new : IndexSet (String Y) S) → c.from < length sets → old ≡ get_or sets c.from d → ((attr : List ℕ) → contains_text new attr ≡ contains_text old attr || same_text c.from_attr attr) → HasSource sets c (slice_set sets c.from new)
  source_added sets c old d new low is grows = record { count = length_set sets c.from new; each = λ e attr. by e attr (nat_eq c.from e) refl }
    where
      there : slice_get sets c.from ≡ Some old
      there = slice_get-get_or sets c.from d low ∙ ap Some (sym is)

      by : (e : ℕ) (attr : List ℕ) (b : Bool) → nat_eq c.from e ≡ b → has_at (slice_set sets c.from new) e attr ≡ has_at sets e attr || (nat_eq c.from e && same_text c.from_attr attr)
      by e attr true h = let same : c.from ≡ e = test_equal c.from e h in
          rw h (ap (λ i. has_at (slice_set sets c.from new) i attr) (sym same) ∙ at_place (slice_set sets c.from new) c.from attr new (set_here sets c.from new old there) ∙ grows attr
          ∙ ap (λ b. b || same_text c.from_attr attr) (sym (at_place sets c.from attr old there) ∙ ap (λ i. has_at sets i attr) same))
      by e attr false h = rw h (ap (λ (o : Option (IndexSet (String Y) S)). unwrap_or (option_map (λ s. contains_text s attr) o) false) (set_else sets c.from e new (λ q. true≢false (sym (self e) ∙ ap (λ i. nat_eq i e) q ∙ h))) ∙ is_or_false (has_at sets e attr))
        where
          self : (e : ℕ) → nat_eq e e ≡ true
          self e = grind arith

  pub set_grown : (old new : IndexSet (String Y) S) (key : String Y) (attr : List ℕ) → string_bytes key ≡ attr → UpdatesBy string_eq (string_eq key) old new true → (text : List ℕ) → contains_text new text ≡ contains_text old text || same_text attr text
  set_grown old new key attr is up text = hash_set_updates_text (string_bytes key) old new true up text ∙ cond_is_or (bytes_eq (string_bytes key) text) (contains_text old text) ∙ ap (λ k. contains_text old text || bytes_eq k text) is

  pub set_kept : (old : IndexSet (String Y) S) (attr : List ℕ) → contains_text old attr ≡ true → (text : List ℕ) → contains_text old text ≡ contains_text old text || same_text attr text
  set_kept old attr there text = by (same_text attr text) refl
    where
      by : (b : Bool) → same_text attr text ≡ b → contains_text old text ≡ contains_text old text || same_text attr text
      by false h = rw h (is_or_false (contains_text old text))
      by true h = has_it (contains_text old text) (same_text attr text) (ap (contains_text old) (sym ((bytes_eq-Decides attr text).0 h)) ∙ there)

  -- one more empty set
  pub empty_more : (sets new : List (IndexSet (String Y) S)) (s : IndexSet (String Y) S) → s.keys ≡ [] → new ≡ sets ++ s ∷ [] → AreAttrsOf [] sets → AreAttrsOf [] new
  empty_more sets new s none made all e attr = ap (λ l. has_at l e attr) made ∙ by sets e (all e attr)
    where
      by : (sets : List (IndexSet (String Y) S)) (e : ℕ) → has_at sets e attr ≡ false → has_at (sets ++ s ∷ []) e attr ≡ false
      by [] zero h = ap (λ ks. list_any (λ k. bytes_eq attr (string_bytes k)) ks) none
      by [] (suc e) h = refl
      by (x ∷ sets) zero h = h
      by (x ∷ sets) (suc e) h = by sets e h

-- ---- pairs

pub same_item : {X : Type 0} (xs ys : List X) (i : ℕ) (d : X) → xs ≡ ys → get_or xs i d ≡ get_or ys i d
same_item xs ys i d e = ap (λ l. get_or l i d) e

pub same_pair : (a b : ℕ × ℕ) → (nat_eq a.0 b.0 && nat_eq a.1 b.1) ≡ true → a ≡ b
same_pair a b h = let p = and_parts (nat_eq a.0 b.0) (nat_eq a.1 b.1) h in λ i. (eqb-true a.0 b.0 p.0 i, eqb-true a.1 b.1 p.1 i)

module _ (eq : ℕ × ℕ → ℕ × ℕ → Bool) (law : (a b : ℕ × ℕ) → eq a b ≡ true → a ≡ b) (k : ℕ × ℕ) where
  abbrev test : ℕ → ℕ → ℕ × ℕ → Bool
  test from to p = (p.0 == from) && (p.1 == to)

  -- an equal pair is among them already
  known : (ks : List (ℕ × ℕ)) (from to : ℕ) → list_any (eq k) ks ≡ true → test from to k ≡ true → list_any (test from to) ks ≡ true
  known ks from to there here = let p = some_passes (eq k) ks there in passes_some (test from to) p.0 ks p.1 (ap (test from to) (sym (law k p.0 p.2)) ∙ here)

  pair_added : (ks : List (ℕ × ℕ)) (from to : ℕ) → is_paired (insert_key eq ks k) from to ≡ is_paired ks from to || test from to k
  pair_added ks from to = by (list_any (eq k) ks) (test from to k) refl refl
    where
      by : (b c : Bool) → list_any (eq k) ks ≡ b → test from to k ≡ c → list_any (test from to) (if b then ks else ks ++ k ∷ []) ≡ list_any (test from to) ks || test from to k
      by true true there here = known ks from to there here ∙ sym (ap (λ b. b || test from to k) (known ks from to there here))
      by true false there here = rw here (is_or_false (list_any (test from to) ks))
      by false c there here = list_any-append (test from to) ks (k ∷ []) ∙ ap (λ b. list_any (test from to) ks || b) (sym (is_or_false (test from to k)))

  -- one more pair
  pub pairs_more : (asyncs : List AsyncPair) (p d : AsyncPair) (i : ℕ) (old new : List (ℕ × ℕ)) → i < length asyncs → ArePairsOf (take i asyncs) old → new ≡ insert_key eq old k → k ≡ (p.from.0, p.to.0) → p ≡ get_or asyncs i d → ArePairsOf (take (i + 1) asyncs) new
  pairs_more asyncs p d i old new low all made is at from to =
      ap (λ l. is_paired l from to) made ∙ pair_added old from to ∙ ap (λ b. b || test from to k) (all from to) ∙ ap (λ (q : ℕ × ℕ). list_any async (take i asyncs) || test from to q) is
      ∙ ap (λ b. list_any async (take i asyncs) || b) (is_or_false (async p)) ∙ sym (list_any-append async (take i asyncs) (p ∷ [])) ∙ ap (list_any async) (ap (λ q. take i asyncs ++ q ∷ []) at ∙ sym (take_more asyncs i d low))
    where
      async : AsyncPair → Bool
      async q = (q.from.0 == from) && (q.to.0 == to)
