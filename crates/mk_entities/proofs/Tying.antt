-- Entities and names are tied after each reply.
use Rattle.std.proofs.Common.{◌≡◌, ℕ, zero, suc, ◌+◌, ◌<◌, ◌≤◌, ◌==◌, false, List, [], ◌∷◌, ◌++◌, map, length, Option, Some, None, Result, Ok, Err, refl, sym, ap, subst, ◌∙◌, arith, unwrap_or, slice_set, ◌⊎◌, inl, inr}
use Rattle.std.specs.Prelude.{OnOk, IfErr}
use Rattle.mk_base.specs.declared.SimNo.{SimNo}
use Rattle.mk_base.specs.Lists.{Each}
use Rattle.mk_base.proofs.Lists.{append_nil, set_else}
use Rattle.mk_base.specs.Verdicts.{unless}
use Rattle.mk_meta.specs.declared.meta.Meta.{Meta}
use Rattle.mk_entities.specs.declared.described.Described.{Described}
use Rattle.mk_entities.specs.declared.entities.EntityInfo.{EntityInfo}
use Rattle.mk_entities.specs.declared.fault.CreateFault.{CreateFault}
use Rattle.mk_entities.specs.Creation.{added, drafts, first_entity_fault, first_there, entity_number, rel_fault, with_entities}
use Rattle.mk_entities.specs.Tied.{AreFirst}
use Rattle.mk_entities.specs.inner.Tied.{IsTied, names_at, numbered}
use Rattle.mk_entities.proofs.Adding.{numbered_append, numbered_other, same_fault}
use Rattle.mk_entities.specs.Sound.{AreSound}
use Rattle.mk_entities.proofs.Distinct.{still_found}
use Rattle.mk_entities.proofs.Sounding.{IsNamed, eids_there, still_sound}
use Rattle.mk_base.specs.Limits.{most_entities}

passes : {B : Type 0} (f g : Option CreateFault) (x y : B) → unless f (unless g (Ok x)) ≡ Ok y → (f ≡ None) × (x ≡ y)
passes None None x y is = (cc, cc)
passes None (Some e) x y is = cc
passes (Some e) g x y is = cc

module _ (old new : List EntityInfo) (sim : SimNo) (group : ℕ) (model : List ℕ) (meta : Meta) (es : List Described) (is : with_entities old sim group model meta es ≡ Ok new) where
  abbrev make : Described → EntityInfo
  make = added (entity_number (drafts old sim group es) sim) (length old + length es) sim group

  passed : (first_entity_fault old sim group model meta es ≡ None) × (old ++ map make es ≡ new)
  passed = passes (first_entity_fault old sim group model meta es) (first_there (map (rel_fault (entity_number (drafts old sim group es) sim)) es)) (old ++ map make es) new is

  -- what is added of one simulator leaves the names of another as they are
  others_stay : (s : ℕ) → (sim.0 == s) ≡ false → numbered s 0 new ≡ numbered s 0 old
  others_stay s other = ap (numbered s 0) (sym passed.1) ∙ numbered_append s 0 old (map make es)
      ∙ ap (λ l. numbered s 0 old ++ l) (numbered_other sim make (λ e. refl) (λ e. refl) s (0 + length old) es other)
      ∙ append_nil (numbered s 0 old)

  found_again : AreFirst old → AreFirst new
  found_again found = subst AreFirst passed.1 (still_found old sim model meta es make (λ e. refl) (λ e. refl) found (same_fault old sim group model meta es ∙ passed.0))

  -- each new entity has what it must have
  sound_again : AreSound old → Each IsNamed es → AreSound new
  sound_again sound named = subst AreSound passed.1 (still_sound old (entity_number (drafts old sim group es) sim) sim group es sound (eids_there (numbered sim.0 0 old) (length old) model meta es (same_fault old sim group model meta es ∙ passed.0) named))

same_or_other : (s i : ℕ) → (s ≡ i) ⊎ ((i == s) ≡ false)
same_or_other s i = grind arith

other_is : (s i : ℕ) → (i == s) ≡ false → s ≡ i → ⊥
other_is s i other same = grind arith

set_same : (names : List (List (List ℕ × ℕ))) (i : ℕ) (x : List (List ℕ × ℕ)) → i < length names → names_at (slice_set names i x) i ≡ x
set_same [] i x below = absurd (omega arith)
set_same (n ∷ names) zero x below = refl
set_same (n ∷ names) (suc i) x below = set_same names i x (omega arith)

-- entities and names are tied after what is added of one simulator, or after nothing is
pub tied_again : (r : Result (Unit {0}) CreateFault) (old new : List EntityInfo) (names grown : List (List (List ℕ × ℕ))) (sim : SimNo) (group : ℕ) (model : List ℕ) (meta : Meta) (es : List Described) (now : List (List ℕ × ℕ))
    → IsTied old names → ((s : ℕ) → names_at grown s ≡ names_at names s) → sim.0 < length grown
    → OnOk r (with_entities old sim group model meta es ≡ Ok new) → IfErr r (λ e. new ≡ old) → length new ≤ most_entities → now ≡ numbered sim.0 0 new
    → Each IsNamed es → IsTied new (slice_set grown sim.0 now)
tied_again r old new names grown sim group model meta es now tied same room ok err few is named = record {
  few = few;
  distinct = found r ok err;
  sound = sound r ok err;
  numbers = λ s. at s (same_or_other s sim.0);
}
  where
    found : (r : Result (Unit {0}) CreateFault) → OnOk r (with_entities old sim group model meta es ≡ Ok new) → IfErr r (λ e. new ≡ old) → AreFirst new
    found (Ok u) ok err = found_again old new sim group model meta es ok tied.distinct
    found (Err e) ok err = subst AreFirst (sym err) tied.distinct

    sound : (r : Result (Unit {0}) CreateFault) → OnOk r (with_entities old sim group model meta es ≡ Ok new) → IfErr r (λ e. new ≡ old) → AreSound new
    sound (Ok u) ok err = sound_again old new sim group model meta es ok tied.sound named
    sound (Err e) ok err = subst AreSound (sym err) tied.sound

    stay : (r : Result (Unit {0}) CreateFault) (s : ℕ) → (sim.0 == s) ≡ false → OnOk r (with_entities old sim group model meta es ≡ Ok new) → IfErr r (λ e. new ≡ old) → numbered s 0 new ≡ numbered s 0 old
    stay (Ok u) s other ok err = others_stay old new sim group model meta es ok s other
    stay (Err e) s other ok err = ap (numbered s 0) err

    at : (s : ℕ) → (s ≡ sim.0) ⊎ ((sim.0 == s) ≡ false) → names_at (slice_set grown sim.0 now) s ≡ numbered s 0 new
    at s (inl e) = ap (names_at (slice_set grown sim.0 now)) e ∙ set_same grown sim.0 now room ∙ is ∙ ap (λ k. numbered k 0 new) (sym e)
    at s (inr other) = ap (λ o. unwrap_or o []) (set_else grown sim.0 s now (other_is s sim.0 other)) ∙ same s ∙ tied.numbers s ∙ sym (stay r s other ok err)
