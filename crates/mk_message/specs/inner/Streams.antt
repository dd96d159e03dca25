-- For proofs alone. What is gathered by a key, written item by item.
use Rattle.std.specs.Prelude.{ℕ, List, [], ◌∷◌, ◌++◌, codes, if◌then◌else◌}
use Rattle.mk_base.specs.Lists.{same_text}
use Rattle.mk_base.specs.Texts.{quoted}
use Rattle.mk_plan.specs.declared.Input.{Input}
use Rattle.mk_plan.specs.declared.Want.{Want}

-- what is written for the first item, for one behind another, and behind the last
pub record Stream (X : Type 0) : Type 0 where
  pub first : X → List ℕ
  pub next : X → X → List ℕ
  pub last : List ℕ

-- what is written behind an item
abbrev pub rest_of : {X : Type 0} → Stream X → X → List X → List ℕ
rest_of S p [] = S.last
rest_of S p (x ∷ xs) = S.next p x ++ rest_of S x xs

-- items in an object by their keys, the items of one key in its value
abbrev pub keyed : {X : Type 0} → (X → List ℕ) → Stream X → Stream X
keyed key S = record {
  first = λ x. codes "{" ++ (quoted (key x) ++ codes ":") ++ S.first x;
  next = λ p x. if same_text (key p) (key x) then S.next p x
      else (S.last ++ codes "," ++ (quoted (key x) ++ codes ":") ++ S.first x);
  last = S.last ++ codes "}";
}

-- a source and its value
abbrev pub source_member : Input → List ℕ
source_member n = (quoted n.source ++ codes ":") ++ n.value

abbrev pub by_source : Stream Input
by_source = record {
  first = λ n. codes "{" ++ source_member n;
  next = λ p n. codes ","
      ++ source_member n;
  last = codes "}";
}

abbrev pub by_attribute : Stream Input
by_attribute = keyed (λ n. n.attr) by_source

abbrev pub by_entity : Stream Input
by_entity = keyed (λ n. n.eid) by_attribute

abbrev pub attributes : Stream Want
attributes = record {
  first = λ w. codes "[" ++ quoted w.attr;
  next = λ p w. codes ","
      ++ quoted w.attr;
  last = codes "]";
}

abbrev pub wanted_by_entity : Stream Want
wanted_by_entity = keyed (λ w. w.eid) attributes
