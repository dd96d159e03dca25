-- Entities that are added, and the names of their simulator.
use Rattle.std.proofs.Common.{◌≡◌, ℕ, suc, ◌+◌, ◌<◌, ◌==◌, Bool, true, false, List, [], ◌∷◌, ◌++◌, map, length, take, Option, Some, None, Ok, Err, refl, sym, ap, ◌∙◌, arith, if◌then◌else◌, slice_get, unwrap_or, length-append}
use Rattle.std.specs.Prelude.{option_and_then}
use Rattle.std.specs.List.{range_with_len}
use Rattle.std.proofs.lemmas.List.{length-map, take-map}
use Rattle.std.proofs.Math.Seq.{take-append-add}
use Rattle.mk_base.specs.declared.SimNo.{SimNo}
use Rattle.mk_base.proofs.Lists.{map_same}
use Rattle.mk_base.proofs.AtPlaces.{place_below}
use Rattle.mk_base.specs.Verdicts.{unless}
use Rattle.mk_meta.specs.declared.meta.Meta.{Meta}
use Rattle.mk_entities.specs.declared.described.Described.{Described}
use Rattle.mk_entities.specs.declared.entities.EntityInfo.{EntityInfo}
use Rattle.mk_entities.specs.declared.fault.CreateFault.{CreateFault}
use Rattle.mk_entities.specs.Creation.{added, draft, drafts, entity_fault, first_entity_fault, first_there, is_named, entity_number, rel_fault, with_entities}
use Rattle.mk_entities.specs.inner.Making.{fault_at, first_fault, made_by, named_from, number_in}
use Rattle.mk_entities.specs.inner.Tied.{numbered}
use Rattle.mk_entities.proofs.Lookups.{number_is}
use Rattle.mk_entities.proofs.Numbers.{put_is_filter}
use Rattle.mk_base.proofs.Counts.{same_self}

-- ---- numbered entities

pub numbered_append : (s n : ℕ) (xs ys : List EntityInfo) → numbered s n (xs ++ ys) ≡ numbered s n xs ++ numbered s (n + length xs) ys
numbered_append s n [] ys = ap (λ k. numbered s k ys) (add_none n)
  where
    add_none : (n : ℕ) → n ≡ n + 0
    add_none n = omega arith
numbered_append s n (x ∷ xs) ys = at (x.sim.0 == s) (numbered_append s (suc n) xs ys ∙ ap (λ k. numbered s (suc n) xs ++ numbered s k ys) (over n (length xs)))
  where
    over : (n k : ℕ) → suc n + k ≡ n + suc k
    over n k = omega arith

    at : (b : Bool) → numbered s (suc n) (xs ++ ys) ≡ numbered s (suc n) xs ++ numbered s (n + suc (length xs)) ys
        → (if b then (x.eid, n) ∷ numbered s (suc n) (xs ++ ys) else numbered s (suc n) (xs ++ ys)) ≡ (if b then (x.eid, n) ∷ numbered s (suc n) xs else numbered s (suc n) xs) ++ numbered s (n + suc (length xs)) ys
    at true rest = ap (λ l. (x.eid, n) ∷ l) rest
    at false rest = rest

module _ (sim : SimNo) (make : Described → EntityInfo) (own_sim : (e : Described) → (make e).sim.0 ≡ sim.0) (own_eid : (e : Described) → (make e).eid ≡ unwrap_or e.eid []) where
  pub numbered_own : (n : ℕ) (es : List Described) → numbered sim.0 n (map make es) ≡ named_from n es
  numbered_own n [] = refl
  numbered_own n (e ∷ es) =
      let same : ((make e).sim.0 == sim.0) ≡ true = ap (λ s. s == sim.0) (own_sim e) ∙ same_self sim.0 in
      rw same (λ i. (own_eid e i, n) ∷ numbered_own (suc n) es i)

  pub numbered_other : (s n : ℕ) (es : List Described) → (sim.0 == s) ≡ false → numbered s n (map make es) ≡ []
  numbered_other s n [] other = refl
  numbered_other s n (e ∷ es) other =
      let not_same : ((make e).sim.0 == s) ≡ false = ap (λ k. k == s) (own_sim e) ∙ other in
      rw not_same (numbered_other s (suc n) es other)

-- ---- what follows from the tests

module _ (old : List EntityInfo) (sim : SimNo) (group : ℕ) (es : List Described) where
  abbrev all : List EntityInfo
  all = drafts old sim group es

  drafts_are : numbered sim.0 0 all ≡ numbered sim.0 0 old ++ named_from (length old) es
  drafts_are = numbered_append sim.0 0 old (map (draft sim group) es) ∙ ap (λ l. numbered sim.0 0 old ++ l) (numbered_own sim (draft sim group) (λ e. refl) (λ e. refl) (0 + length old) es ∙ ap (λ k. named_from k es) (zero_more (length old)))
    where
      zero_more : (n : ℕ) → 0 + n ≡ n
      zero_more n = omega arith

  -- the names so far number the entities so far
  pub numbers_so_far : (names : List (List ℕ × ℕ)) → names ≡ numbered sim.0 0 old ++ named_from (length old) es → number_in names ≡ entity_number all sim
  numbers_so_far names are = ap number_in (are ∙ sym drafts_are) ∙ (λ i text. number_is sim all text i)

-- the n-th test over the names is that over the entities
module _ (old : List EntityInfo) (sim : SimNo) (group : ℕ) (model : List ℕ) (meta : Meta) (es : List Described) where
  drafts_before : (n : ℕ) → take (length old + n) (drafts old sim group es) ≡ drafts old sim group (take n es)
  drafts_before n = take-append-add old (map (draft sim group) es) n ∙ ap (λ l. old ++ l) (take-map (draft sim group) n es)

  same_number : (n : ℕ) → number_in (numbered sim.0 0 old ++ named_from (length old) (take n es)) ≡ entity_number (take (length old + n) (drafts old sim group es)) sim
  same_number n = numbers_so_far old sim group (take n es) (numbered sim.0 0 old ++ named_from (length old) (take n es)) refl ∙ ap (λ before. entity_number before sim) (sym (drafts_before n))

  pub same_fault : first_fault (numbered sim.0 0 old) (length old) model meta es ≡ first_entity_fault old sim group model meta es
  same_fault = ap first_there (map_same (fault_at (numbered sim.0 0 old) (length old) model meta es)
      (λ n. option_and_then (entity_fault (entity_number (take (length old + n) (drafts old sim group es)) sim) (length old + n) model meta n) (slice_get es n))
      (range_with_len 0 (length es))
      (λ n m. ap (λ number. option_and_then (entity_fault number (length old + n) model meta n) (slice_get es n)) (same_number n)))

  module _ (names : List (List ℕ × ℕ)) (count : ℕ) (tied : names ≡ numbered sim.0 0 old) (long : count ≡ length old) where
    first_is : first_fault names count model meta es ≡ first_entity_fault old sim group model meta es
    first_is = ap (λ ns. first_fault ns count model meta es) tied ∙ ap (λ k. first_fault (numbered sim.0 0 old) k model meta es) long ∙ same_fault

    pub entity_refused : (fault : CreateFault) → first_fault names count model meta es ≡ Some fault → with_entities old sim group model meta es ≡ Err fault
    entity_refused fault is = ap (λ f. unless f (unless (first_there (map (rel_fault (entity_number (drafts old sim group es) sim)) es)) (Ok (old ++ map (added (entity_number (drafts old sim group es) sim) (length old + length es) sim group) es)))) (sym first_is ∙ is)

    module _ (now : List (List ℕ × ℕ)) (named : now ≡ names ++ named_from count es) (passed : first_fault names count model meta es ≡ None) where
      numbers_are : number_in now ≡ entity_number (drafts old sim group es) sim
      numbers_are = numbers_so_far old sim group es now (named ∙ ap (λ ns. ns ++ named_from count es) tied ∙ ap (λ k. numbered sim.0 0 old ++ named_from k es) long)

      then_rel : with_entities old sim group model meta es ≡ unless (first_there (map (rel_fault (number_in now)) es)) (Ok (old ++ map (added (number_in now) (length old + length es) sim group) es))
      then_rel = ap (λ f. unless f (unless (first_there (map (rel_fault (entity_number (drafts old sim group es) sim)) es)) (Ok (old ++ map (added (entity_number (drafts old sim group es) sim) (length old + length es) sim group) es)))) (sym first_is ∙ passed)
          ∙ ap (λ number. unless (first_there (map (rel_fault number) es)) (Ok (old ++ map (added number (length old + length es) sim group) es))) (sym numbers_are)

      pub rel_refused : (fault : CreateFault) → first_there (map (rel_fault (number_in now)) es) ≡ Some fault → with_entities old sim group model meta es ≡ Err fault
      rel_refused fault is = then_rel ∙ ap (λ f. unless f (Ok (old ++ map (added (number_in now) (length old + length es) sim group) es))) is

      length_drafts : length (map (draft sim group) es) ≡ length es
      length_drafts = length-map es (draft sim group)

      number_below : (text : List ℕ) (i : ℕ) → number_in now text ≡ Some i → i < length old + length es
      number_below text i is =
          let place = place_below (is_named sim text) (drafts old sim group es) i (sym (ap (λ (f : List ℕ → Option ℕ). f text) numbers_are) ∙ is) in
          omega (arith, length-append old (map (draft sim group) es), length_drafts)

      made_is : (e : Described) → added (number_in now) (length old + length es) sim group e ≡ made_by (number_in now) sim group e
      made_is e = ap (λ (numbers : List ℕ). record (draft sim group e) { related = numbers }) (sym (put_is_filter (number_in now) (length old + length es) number_below (unwrap_or e.rel [] ++ e.children)))

      pub accepted : (made : List EntityInfo) → first_there (map (rel_fault (number_in now)) es) ≡ None → made ≡ map (made_by (number_in now) sim group) es → with_entities old sim group model meta es ≡ Ok (old ++ made)
      accepted made none is = then_rel ∙ ap (λ f. unless f (Ok (old ++ map (added (number_in now) (length old + length es) sim group) es))) none
          ∙ ap (λ l. Ok (old ++ l)) (map_same (added (number_in now) (length old + length es) sim group) (made_by (number_in now) sim group) es (λ e m. made_is e) ∙ sym is)

      pub still_tied : (made : List EntityInfo) → made ≡ map (made_by (number_in now) sim group) es → now ≡ numbered sim.0 0 (old ++ made)
      still_tied made is = named ∙ ap (λ ns. ns ++ named_from count es) tied ∙ ap (λ k. numbered sim.0 0 old ++ named_from k es) (long ∙ zero_more (length old))
          ∙ ap (λ l. numbered sim.0 0 old ++ l) (sym (numbered_own sim (made_by (number_in now) sim group) (λ e. refl) (λ e. refl) (0 + length old) es))
          ∙ sym (numbered_append sim.0 0 old (map (made_by (number_in now) sim group) es))
          ∙ ap (λ l. numbered sim.0 0 (old ++ l)) (sym is)
        where
          zero_more : (n : ℕ) → n ≡ 0 + n
          zero_more n = omega arith
