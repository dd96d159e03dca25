-- The rules in a store.
use Rattle.std.specs.Prelude.{ℕ, Bool, List, map, Option}
use Rattle.std.specs.List.{list_any, position_from}
use Rattle.mk_base.specs.Lists.{same_text}
use Rattle.mk_watch_read.specs.declared.rule.Fold.{Fold}
use Rattle.mk_watch_read.specs.declared.rules.Rules.{Rules}

-- the names and the folds of the rules in a store, in the order in which they were added
abbrev pub names_in : {g : _} {f : _} {h : _} → Rules g f h → List (List ℕ)
names_in {g} {f} {h} r = map (λ k. k.name) r.rules

abbrev pub folds_in : {g : _} {f : _} {h : _} → Rules g f h → List Fold
folds_in {g} {f} {h} r = map (λ k. k.fold) r.rules

-- a rule has this name
abbrev pub has_name : List ℕ → List (List ℕ) → Bool
has_name name names = list_any (λ n. same_text n name) names

-- the place of the first rule of this name
abbrev pub place_of : List ℕ → List (List ℕ) → Option ℕ
place_of name names = position_from (λ n. same_text n name) 0 names
