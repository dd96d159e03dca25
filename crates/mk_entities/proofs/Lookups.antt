-- The names of a simulator, and the numbers that they give.
use Rattle.std.proofs.Common.{◌≡◌, ℕ, zero, suc, ◌+◌, ◌<◌, ◌==◌, Bool, true, false, List, [], ◌∷◌, ◌++◌, length, Option, Some, None, refl, sym, ap, ◌∙◌, arith, if◌then◌else◌, take, true≢false, get_or, ◌≤◌}
use Rattle.std.specs.Prelude.{option_map}
use Rattle.std.specs.List.{find}
use Rattle.std.specs.Map.{lookup}
use Rattle.std.specs.Str.{bytes_eq}
use Rattle.std.specs.declared.string.String.{String}
use Rattle.std.specs.String.{string_bytes}
use Rattle.mk_base.specs.declared.SimNo.{SimNo}
use Rattle.mk_base.specs.Lists.{same_text, value_under}
use Rattle.mk_base.proofs.AtPlaces.{place_first, place_later, same_sym}
use Rattle.mk_entities.specs.declared.entities.EntityInfo.{EntityInfo}
use Rattle.mk_entities.specs.Creation.{is_named, entity_number}
use Rattle.mk_entities.specs.inner.Making.{number_in}
use Rattle.mk_entities.specs.inner.Names.{texts_of}
use Rattle.mk_entities.specs.inner.Tied.{names_at, numbered}

-- ---- texts and keys

module _ {Y : Type 0} where
  -- the value at a key is the value under its text
  pub value_is : (bs : List ℕ) (es : List (String Y × ℕ)) → lookup (λ k. bytes_eq bs (string_bytes k)) es ≡ value_under bs (texts_of es)
  value_is bs [] = refl
  value_is bs (e ∷ es) = at (bytes_eq bs (string_bytes e.0)) (same_text (string_bytes e.0) bs) (same_sym bs (string_bytes e.0)) (value_is bs es)
    where
      at : (b c : Bool) → b ≡ c → lookup (λ k. bytes_eq bs (string_bytes k)) es ≡ value_under bs (texts_of es)
          → (if b then Some e.1 else lookup (λ k. bytes_eq bs (string_bytes k)) es) ≡ option_map (λ (e : List ℕ × ℕ). e.1) (if c then Some (string_bytes e.0, e.1) else find (λ (e : List ℕ × ℕ). same_text e.0 bs) (texts_of es))
      at true true same rest = refl
      at false false same rest = rest
      at true false same rest = absurd (true≢false same)
      at false true same rest = absurd (true≢false (sym same))

  pub texts_append : (es fs : List (String Y × ℕ)) → texts_of (es ++ fs) ≡ texts_of es ++ texts_of fs
  texts_append [] fs = refl
  texts_append (e ∷ es) fs = ap (λ l. (string_bytes e.0, e.1) ∷ l) (texts_append es fs)

  pub texts_take : (n : ℕ) (es : List (String Y × ℕ)) → texts_of (take n es) ≡ take n (texts_of es)
  texts_take zero es = refl
  texts_take (suc n) [] = refl
  texts_take (suc n) (e ∷ es) = ap (λ l. (string_bytes e.0, e.1) ∷ l) (texts_take n es)

-- ---- numbered entities

along : (n : ℕ) (r : Option ℕ) → option_map (λ i. suc n + i) r ≡ option_map (λ i. n + i) (option_map suc r)
along n None = refl
along n (Some i) = ap Some (omega arith)

from_zero : (r : Option ℕ) → option_map (λ i. 0 + i) r ≡ r
from_zero None = refl
from_zero (Some i) = ap Some (omega arith)

module _ (sim : SimNo) (eid : List ℕ) where
  number_from : (n : ℕ) (es : List EntityInfo) → value_under eid (numbered sim.0 n es) ≡ option_map (λ i. n + i) (entity_number es sim eid)
  number_from n [] = refl
  number_from n (e ∷ es) = at (e.sim.0 == sim.0) (same_text e.eid eid) refl refl (number_from (suc n) es)
    where
      at : (b c : Bool) → (e.sim.0 == sim.0) ≡ b → same_text e.eid eid ≡ c → value_under eid (numbered sim.0 (suc n) es) ≡ option_map (λ i. suc n + i) (entity_number es sim eid)
          → value_under eid (if (e.sim.0 == sim.0) then (e.eid, n) ∷ numbered sim.0 (suc n) es else numbered sim.0 (suc n) es) ≡ option_map (λ i. n + i) (entity_number (e ∷ es) sim eid)
      at true true own here rest = rw own (rw here (ap Some (omega arith))) ∙ ap (option_map (λ i. n + i)) (sym (place_first (is_named sim eid) e es (rw own here)))
      at true false own here rest = rw own (rw here (rest ∙ along n (entity_number es sim eid))) ∙ ap (option_map (λ i. n + i)) (sym (place_later (is_named sim eid) e es (rw own here)))
      at false c own here rest = rw own (rest ∙ along n (entity_number es sim eid)) ∙ ap (option_map (λ i. n + i)) (sym (place_later (is_named sim eid) e es (rw own refl)))

-- the number that a simulator's names give is that of its first entity with this eid
pub number_is : (sim : SimNo) (es : List EntityInfo) (eid : List ℕ) → number_in (numbered sim.0 0 es) eid ≡ entity_number es sim eid
number_is sim es eid = number_from sim eid 0 es ∙ from_zero (entity_number es sim eid)

-- ---- names by the place of their simulator

pub names_there : (names : List (List (List ℕ × ℕ))) (s : ℕ) (x : List (List ℕ × ℕ)) → s < length names → x ≡ get_or names s x → names_at names s ≡ x
names_there [] s x below is = absurd (omega arith)
names_there (n ∷ names) zero x below is = sym is
names_there (n ∷ names) (suc s) x below is = names_there names s x (omega arith) is

pub no_names : (names : List (List (List ℕ × ℕ))) (s : ℕ) → length names ≤ s → names_at names s ≡ []
no_names [] s beyond = refl
no_names (n ∷ names) zero beyond = absurd (omega arith)
no_names (n ∷ names) (suc s) beyond = no_names names s (omega arith)
