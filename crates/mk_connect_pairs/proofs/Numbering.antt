-- The numbers of models, and what stands under their simulators and names.
use Rattle.std.proofs.Common.{◌≡◌, ℕ, suc, nat_eq, Bool, true, false, ◌&&◌, List, [], ◌∷◌, ◌++◌, length, position, Option, Some, None, refl, sym, ap, ◌∙◌, if◌then◌else◌, true≢false}
use Rattle.std.specs.Prelude.{is_some, option_map}
use Rattle.std.specs.Map.{lookup}
use Rattle.std.specs.HashMap.{HashMap}
use Rattle.std.specs.String.{string_bytes}
use Rattle.std.specs.declared.string.String.{String}
use Rattle.std.proofs.lemmas.Bool.{and_parts}
use Rattle.std.proofs.lemmas.Slice.Eq.{bytes_eq-Decides}
use Rattle.indexmap.specs.IndexMap.{insert_entry}
use Rattle.mk_base.specs.Lists.{same_text}
use Rattle.mk_base.proofs.AtPlaces.{place_first, place_later, nat_eq_sym, same_sym}
use Rattle.mk_connect_pairs.specs.inner.Lookups.{HasNumbers, IsKeyOf, is_key}
use Rattle.mk_connect_pairs.specs.Models.{is_model}
use Rattle.mk_connect_pairs.specs.declared.models.SimModel.{SimModel}
use Rattle.mk_base.proofs.Counts.{test_equal}

abbrev pub or_else : {X : Type 0} → Option X → Option X → Option X
or_else (Some x) other = Some x
or_else None other = other

-- the place of the first that passes, with one item more
pub position_more : {X : Type 0} (p : X → Bool) (xs : List X) (m : X) → position p (xs ++ m ∷ []) ≡ or_else (position p xs) (if p m then Some (length xs) else None)
position_more p [] m = at (p m) refl
  where
    at : (b : Bool) → p m ≡ b → position p (m ∷ []) ≡ (if b then Some 0 else None)
    at true is = place_first p m [] is
    at false is = place_later p m [] is
position_more p (x ∷ xs) m = at (p x) refl (position_more p xs m)
  where
    further : (r : Option ℕ) (b : Bool) (n : ℕ) → option_map suc (or_else r (if b then Some n else None)) ≡ or_else (option_map suc r) (if b then Some (suc n) else None)
    further (Some i) b n = refl
    further None true n = refl
    further None false n = refl

    at : (b : Bool) → p x ≡ b → position p (xs ++ m ∷ []) ≡ or_else (position p xs) (if p m then Some (length xs) else None) → position p (x ∷ xs ++ m ∷ []) ≡ or_else (position p (x ∷ xs)) (if p m then Some (suc (length xs)) else None)
    at true is more = place_first p x (xs ++ m ∷ []) is ∙ ap (λ o. or_else o (if p m then Some (suc (length xs)) else None)) (sym (place_first p x xs is))
    at false is more = place_later p x (xs ++ m ∷ []) is ∙ ap (option_map suc) more ∙ further (position p xs) (p m) (length xs) ∙ ap (λ o. or_else o (if p m then Some (suc (length xs)) else None)) (sym (place_later p x xs is))

lookup_more : {K V : Type 0} (q : K → Bool) (es : List (K × V)) (k : K) (v : V) → lookup q (es ++ (k, v) ∷ []) ≡ or_else (lookup q es) (if q k then Some v else None)
lookup_more q [] k v = refl
lookup_more q (e ∷ es) k v = at (q e.0) (lookup_more q es k v)
  where
    at : (b : Bool) → lookup q (es ++ (k, v) ∷ []) ≡ or_else (lookup q es) (if q k then Some v else None) → (if b then Some e.1 else lookup q (es ++ (k, v) ∷ [])) ≡ or_else (if b then Some e.1 else lookup q es) (if q k then Some v else None)
    at true more = refl
    at false more = more

-- what is put under a key that isn't there goes last
pub appended : {K V : Type 0} (eq : K → K → Bool) (test : K → Bool) (k : K) → ((b : K) → eq k b ≡ test b) → (es : List (K × V)) (v : V) → lookup test es ≡ None → insert_entry eq es k v ≡ es ++ (k, v) ∷ []
appended eq test k same [] v none = refl
appended eq test k same (e ∷ es) v none = at (test e.0) refl none (appended eq test k same es v)
  where
    at : (b : Bool) → test e.0 ≡ b → (if b then Some e.1 else lookup test es) ≡ None → (lookup test es ≡ None → insert_entry eq es k v ≡ es ++ (k, v) ∷ []) → insert_entry eq (e ∷ es) k v ≡ e ∷ es ++ (k, v) ∷ []
    at true is none more = cc
    at false is none more = let other : eq k e.0 ≡ false = same e.0 ∙ is in rw other (ap (λ l. e ∷ l) (more none))

key_same : {Y : Type 0} (m : SimModel) (sim : ℕ) (name : List ℕ) (key : ℕ × String Y) → IsKeyOf m.sim.0 m.name key → is_key {Y = Y} sim name key ≡ is_model (record { 0 = sim }) name m
key_same m sim name key is = (λ i. (nat_eq sim (is.0 i)) && same_text name (is.1 i)) ∙ (λ i. nat_eq_sym sim m.sim.0 i && same_sym name m.name i)

module _ {S Y : Type 0} (models : List SimModel) (m : SimModel) where
  -- one model more, under a key of its own
  pub numbers_new : (old new : HashMap (ℕ × String Y) ℕ S) (key : ℕ × String Y) (n : ℕ) → HasNumbers old models → n ≡ length models → IsKeyOf m.sim.0 m.name key → new.entries ≡ old.entries ++ (key, n) ∷ [] → HasNumbers new (models ++ m ∷ [])
  numbers_new old new key n has count is made sim name =
      ap (lookup (is_key {Y = Y} sim name)) made ∙ lookup_more (is_key {Y = Y} sim name) old.entries key n
      ∙ (λ i. or_else (has sim name i) (if key_same m sim name key is i then Some (count i) else None))
      ∙ sym (position_more (is_model (record { 0 = sim }) name) models m)

  -- one model more, whose key is there
  pub numbers_again : (old : HashMap (ℕ × String Y) ℕ S) (key : ℕ × String Y) → HasNumbers old models → IsKeyOf m.sim.0 m.name key → is_some (lookup (is_key {Y = Y} key.0 (string_bytes key.1)) old.entries) ≡ true → HasNumbers old (models ++ m ∷ [])
  numbers_again old key has is there sim name = has sim name ∙ at (is_model (record { 0 = sim }) name m) refl (position (is_model (record { 0 = sim }) name) models) refl ∙ sym (position_more (is_model (record { 0 = sim }) name) models m)
    where
      unless_same : nat_eq m.sim.0 sim ≡ true → same_text m.name name ≡ true → is_some (position (is_model (record { 0 = sim }) name) models) ≡ true
      unless_same same_sim same_name = ap is_some (sym (has sim name))
          ∙ ap (λ s. is_some (lookup (is_key {Y = Y} s name) old.entries)) (sym (test_equal m.sim.0 sim same_sim) ∙ sym is.0)
          ∙ ap (λ t. is_some (lookup (is_key {Y = Y} key.0 t) old.entries)) (sym ((bytes_eq-Decides m.name name).0 same_name) ∙ sym is.1) ∙ there

      at : (b : Bool) → is_model (record { 0 = sim }) name m ≡ b → (r : Option ℕ) → position (is_model (record { 0 = sim }) name) models ≡ r → r ≡ or_else r (if b then Some (length models) else None)
      at false other (Some i) r = refl
      at false other None r = refl
      at true same (Some i) r = refl
      at true same None r = let t = and_parts (nat_eq m.sim.0 sim) (same_text m.name name) same in absurd (true≢false (sym (unless_same t.0 t.1) ∙ ap is_some r))
