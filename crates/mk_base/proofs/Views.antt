-- What a tree of one form is seen as.
use Rattle.std.proofs.Common.{List, Some, refl, ℕ, ℤ, ◌≡◌, [], flat_map, ◌++◌, ◌∷◌}
use Rattle.mk_base.specs.Trees.{items_in, text_in, whole_in}
use Rattle.mk_base.specs.declared.json.Json.{Json}
use Rattle.mk_base.specs.declared.json.Json as tree
use Rattle.mk_base.specs.declared.json.Json.TheVariants as v
use Rattle.mk_base.specs.Texts.{escaped, quoted}

pub items_in_list : (ts : List Json) → items_in (tree.List ts) ≡ Some ts
items_in_list ts = rw (v.outs-List ts) refl

pub whole_in_whole : (n : ℤ) → whole_in (tree.Whole n) ≡ Some n
whole_in_whole n = rw (v.outs-Whole n) refl

pub text_in_text : (s : List ℕ) → text_in (tree.Text s) ≡ Some s
text_in_text s = rw (v.outs-Text s) refl

pub quoted_is : (s : List ℕ) → quoted s ≡ 34 ∷ flat_map escaped s ++ 34 ∷ []
quoted_is s = refl
