-- Pairs that are put, and the keys that stand for them.
use Rattle.std.proofs.Common.{◌≡◌, ℕ, ◌+◌, ◌<◌, nat_eq, Bool, true, false, ◌&&◌, List, [], ◌∷◌, ◌++◌, map, take, length, refl, sym, ap, ◌∙◌, if◌then◌else◌, get_or}
use Rattle.std.specs.Prelude.{flat_map, fold}
use Rattle.std.specs.List.{list_any}
use Rattle.std.proofs.lemmas.List.{take_more}
use Rattle.std.proofs.lemmas.List.Sums.{fold-append}
use Rattle.indexmap.specs.IndexSet.{insert_key}
use Rattle.mk_base.proofs.Lists.{append_nil, flat_map_append, map_append}
use Rattle.mk_connect.specs.Asyncs.{pair_put, same_pair}
use Rattle.mk_connect.specs.inner.Asyncs.{async_of}
use Rattle.mk_connect_pairs.proofs.Ways.{any_map}

abbrev pub same_key : ℕ × ℕ → ℕ × ℕ → Bool
same_key a b = nat_eq a.0 b.0 && nat_eq a.1 b.1

-- a key that is put is a pair that is put
pub key_put : (keys : List (ℕ × ℕ)) (k : ℕ × ℕ) → map async_of (insert_key same_key keys k) ≡ pair_put (map async_of keys) (async_of k)
key_put keys k = at (list_any (same_key k) keys) (list_any (same_pair (async_of k)) (map async_of keys)) (sym (any_map (same_pair (async_of k)) async_of keys))
  where
    at : (b c : Bool) → b ≡ c → map async_of (if b then keys else keys ++ k ∷ []) ≡ (if c then map async_of keys else map async_of keys ++ async_of k ∷ [])
    at true true e = refl
    at false false e = map_append async_of keys (k ∷ [])
    at true false e = cc
    at false true e = cc

-- a fold over what one item more gives
pub fold_more : {A X Y : Type 0} (step : A → Y → A) (f : X → List Y) (a : A) (xs : List X) (i : ℕ) (x : X) → i < length xs → x ≡ get_or xs i x → fold step a (flat_map f (take (i + 1) xs)) ≡ fold step (fold step a (flat_map f (take i xs))) (f x)
fold_more step f a xs i x below is = ap (λ l. fold step a (flat_map f l)) (take_more xs i x below ∙ ap (λ z. take i xs ++ z ∷ []) (sym is)) ∙ ap (fold step a) (flat_map_append f (take i xs) (x ∷ []) ∙ ap (λ l. flat_map f (take i xs) ++ l) (append_nil (f x)))
    ∙ fold-append step a (flat_map f (take i xs)) (f x)
