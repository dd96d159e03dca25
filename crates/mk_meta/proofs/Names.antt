-- Lists of models, by the names that these are described under.
use Rattle.std.proofs.Common.{◌≡◌, ℕ, suc, ◌≤◌, List, [], ◌∷◌, map, length, refl, ap, sym, subst}
use Rattle.std.specs.Map.{keys_of}
use Rattle.std.specs.List.Sorted.{IsStrictlySortedBy}
use Rattle.mk_base.specs.declared.json.Json.{Json}
use Rattle.mk_base.specs.Lists.{text_order}
use Rattle.mk_meta.specs.declared.meta.ModelMeta.{ModelMeta}
use Rattle.mk_meta.specs.Metadata.{IsListed}
use Rattle.mk_base.specs.Limits.{most_models}

lengths : {X Y Z : Type 0} (f : X → Z) (g : Y → Z) (xs : List X) (ys : List Y) → map f xs ≡ map g ys → length xs ≡ length ys
lengths f g [] [] e = refl
lengths f g [] (y ∷ ys) e = cc
lengths f g (x ∷ xs) [] e = cc
lengths f g (x ∷ xs) (y ∷ ys) e = ap suc (lengths f g xs ys cc)

abbrev pub name_of : ModelMeta → List ℕ
name_of m = m.name

abbrev pub described_as : List ℕ × Json → List ℕ
described_as m = m.0

-- the models are few enough, distinct and in byte order, since their descriptions are
pub models_listed : (ms : List (List ℕ × Json)) (xs : List ModelMeta) → length ms ≤ most_models → IsStrictlySortedBy text_order (keys_of ms) → map name_of xs ≡ map described_as ms → IsListed xs
models_listed ms xs few sorted named = (subst (λ n. n ≤ most_models) (sym (lengths name_of described_as xs ms named)) few, subst (IsStrictlySortedBy text_order) (sym named) sorted)
