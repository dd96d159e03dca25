-- The models of one simulator more, and the numbers of entities' models, in order.
use Rattle.std.proofs.Common.{◌≡◌, ℕ, zero, suc, ◌+◌, ◌<◌, List, [], ◌∷◌, ◌++◌, length, map, take, Option, refl, sym, ap, ◌∙◌, arith, slice_get, get_or, append_assoc}
use Rattle.std.specs.Prelude.{option_and_then}
use Rattle.std.proofs.lemmas.List.{take_more}
use Rattle.mk_base.proofs.Lists.{append_nil}
use Rattle.mk_meta.specs.declared.meta.Meta.{Meta}
use Rattle.mk_entities.specs.declared.entities.EntityInfo.{EntityInfo}
use Rattle.mk_connect_pairs.specs.Models.{model_number, models_from, sim_model}
use Rattle.mk_connect_pairs.specs.declared.models.SimModel.{SimModel}
use Rattle.mk_base.proofs.Counts.{plus_none, one_over}

pub models_append : (n : ℕ) (xs ys : List Meta) → models_from n (xs ++ ys) ≡ models_from n xs ++ models_from (n + length xs) ys
models_append n [] ys = ap (λ k. models_from k ys) (plus_none n)
models_append n (x ∷ xs) ys = ap (λ l. map (sim_model n x.kind) x.models ++ l) (models_append (suc n) xs ys ∙ ap (λ k. models_from (suc n) xs ++ models_from k ys) (one_over n (length xs)))
    ∙ sym (append_assoc (map (sim_model n x.kind) x.models) (models_from (suc n) xs) (models_from (n + suc (length xs)) ys))

-- the models of one simulator more
pub models_more : (xs : List Meta) (i : ℕ) (x : Meta) → i < length xs → x ≡ get_or xs i x → models_from 0 (take (i + 1) xs) ≡ models_from 0 (take i xs) ++ map (sim_model i x.kind) x.models
models_more xs i x below is = ap (models_from 0) (take_more xs i x below ∙ ap (λ z. take i xs ++ z ∷ []) (sym is)) ∙ models_append 0 (take i xs) (x ∷ [])
    ∙ ap (λ l. models_from 0 (take i xs) ++ l) (append_nil (map (sim_model (0 + length (take i xs)) x.kind) x.models) ∙ ap (λ k. map (sim_model k x.kind) x.models) (long xs i below))
  where
    long : (xs : List Meta) (i : ℕ) → i < length xs → 0 + length (take i xs) ≡ i
    long [] i below = absurd (omega arith)
    long (x ∷ xs) zero below = refl
    long (x ∷ xs) (suc i) below = let h = long xs i (omega arith) in omega arith

there : (models : List SimModel) (entities : List EntityInfo) (i : ℕ) → option_and_then (model_number models) (slice_get entities i) ≡ option_and_then (λ (n : Option ℕ). n) (slice_get (map (model_number models) entities) i)
there models [] i = refl
there models (e ∷ es) zero = refl
there models (e ∷ es) (suc i) = there models es i

-- the number at a place is that of the entity's model there
pub number_there : (models : List SimModel) (entities : List EntityInfo) (numbers : List (Option ℕ)) → numbers ≡ map (model_number models) entities → (i : ℕ) → option_and_then (model_number models) (slice_get entities i) ≡ option_and_then (λ (n : Option ℕ). n) (slice_get numbers i)
number_there models entities numbers are i = there models entities i ∙ ap (λ l. option_and_then (λ (n : Option ℕ). n) (slice_get l i)) (sym are)
