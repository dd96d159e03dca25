-- What is gathered by a key, as it is written item by item.
use Rattle.std.proofs.Common.{◌≡◌, ℕ, Bool, true, false, List, [], ◌∷◌, ◌++◌, map, flat_map, codes, refl, sym, ap, ap₂, ◌∙◌, append_assoc, append-nil, if◌then◌else◌}
use Rattle.std.specs.List.{join_with_byte}
use Rattle.mk_base.specs.Lists.{same_text}
use Rattle.mk_base.specs.Texts.{quoted, object_text}
use Rattle.mk_plan.specs.Report.{inputs_text}
use Rattle.mk_plan.specs.declared.Input.{Input}
use Rattle.mk_message.specs.inner.Streams.{Stream, rest_of, keyed, source_member, by_source, by_attribute, by_entity, attributes, wanted_by_entity}
use Rattle.mk_message.specs.Written.{joined, gathered, wanted_text}
use Rattle.mk_base.proofs.Items.{map_map}
use Rattle.mk_base.proofs.Guessing.{text_is}

-- the pieces, each behind a comma
abbrev behind : List (List ℕ) → List ℕ
behind xs = flat_map (λ (x : List ℕ). 44 ∷ x) xs

pub join_more : (x : List ℕ) (xs : List (List ℕ)) → join_with_byte 44 (x ∷ xs) ≡ x ++ behind xs
join_more x [] = sym (append-nil x)
join_more x (y ∷ ys) = ap (λ l. x ++ (44 ∷ l)) (join_more y ys)

-- the text of some items is what the stream writes
abbrev Writes : {X : Type 0} → (List X → List ℕ) → Stream X → Type 0
Writes {X} value S = (p : X) (xs : List X) → value (p ∷ xs) ≡ S.first p ++ rest_of S p xs

-- ---- the innermost levels

module _ {X : Type 0} (piece : X → List ℕ) (open_ close : List ℕ) where
  abbrev plain : Stream X
  plain = record { first = λ x. open_ ++ piece x; next = λ p x. codes "," ++ piece x; last = close }

  behind-plain : (p : X) (xs : List X) → behind (map piece xs) ++ close ≡ rest_of plain p xs
  behind-plain p [] = refl
  behind-plain p (x ∷ xs) = append_assoc (44 ∷ piece x) (behind (map piece xs)) close ∙ ap (λ l. (44 ∷ piece x) ++ l) (behind-plain x xs)

  writes_plain : Writes (λ xs. open_ ++ join_with_byte 44 (map piece xs) ++ close) plain
  writes_plain p xs =
      ap (λ l. open_ ++ l ++ close) (join_more (piece p) (map piece xs)) ∙ append_assoc open_ (piece p ++ behind (map piece xs)) close
      ∙ ap (λ l. open_ ++ l) (append_assoc (piece p) (behind (map piece xs)) close ∙ ap (λ l. piece p ++ l) (behind-plain p xs)) ∙ sym (append_assoc open_ (piece p) (rest_of plain p xs))

-- ---- one level around another

regroup_next : (last name first more groups close : List ℕ) → last ++ (((44 ∷ (name ++ (first ++ more))) ++ groups) ++ close) ≡ (((last ++ 44 ∷ []) ++ name) ++ first) ++ (more ++ (groups ++ close))
regroup_next last name first more groups close = simp append_assoc

regroup_first : (begin name first more groups close : List ℕ) → (begin ++ ((name ++ (first ++ more)) ++ groups)) ++ close ≡ ((begin ++ name) ++ first) ++ (more ++ (groups ++ close))
regroup_first begin name first more groups close = simp append_assoc

module _ {X : Type 0} (key : X → List ℕ) (value : List X → List ℕ) (S : Stream X) (inner : Writes value S) where
  abbrev member_of : List ℕ × List X → List ℕ
  member_of g = quoted g.0 ++ codes ":" ++ value g.1

  abbrev whole : List X → List ℕ
  whole xs = object_text (map (λ (g : List ℕ × List X). (g.0, value g.1)) (gathered key xs))

  -- the members of the groups, each behind a comma
  abbrev members_behind : List (List ℕ × List X) → List ℕ
  members_behind gs = behind (map (λ (m : List ℕ × List ℕ). quoted m.0 ++ codes ":" ++ m.1) (map (λ (g : List ℕ × List X). (g.0, value g.1)) gs))

  -- the first group holds the first item under its key
  record Begins (p : X) (xs : List X) : Type 0 where
    more : List X
    groups : List (List ℕ × List X)
    is : gathered key (p ∷ xs) ≡ (key p, p ∷ more) ∷ groups
    rest : rest_of S p more ++ (members_behind groups ++ codes "}") ≡ rest_of (keyed key S) p xs

  begins_joined : (p x : X) (xs : List X) (b : Bool) → same_text (key p) (key x) ≡ b → (more : List X) (groups : List (List ℕ × List X)) → gathered key (x ∷ xs) ≡ (key x, x ∷ more) ∷ groups
      → rest_of S x more ++ (members_behind groups ++ codes "}") ≡ rest_of (keyed key S) x xs → Begins p (x ∷ xs)
  begins_joined p x xs true e more groups is rest = record {
    more = x ∷ more;
    groups = groups;
    is = ap (joined key p) is ∙ ap (λ b. if b then (key x, p ∷ x ∷ more) ∷ groups else ((key p, p ∷ []) ∷ (key x, x ∷ more) ∷ groups)) e ∙ ap (λ k. (k, p ∷ x ∷ more) ∷ groups) (sym (text_is (key p) (key x) e));
    rest = append_assoc (S.next p x) (rest_of S x more) (members_behind groups ++ codes "}") ∙ ap₂ (λ (l r : List ℕ). l ++ r) (sym (ap (λ b. if b then S.next p x else (S.last ++ codes "," ++ (quoted (key x) ++ codes ":") ++ S.first x)) e)) rest;
  }
  begins_joined p x xs false e more groups is rest = record {
    more = [];
    groups = (key x, x ∷ more) ∷ groups;
    is = ap (joined key p) is ∙ ap (λ b. if b then (key x, p ∷ x ∷ more) ∷ groups else ((key p, p ∷ []) ∷ (key x, x ∷ more) ∷ groups)) e;
    rest =
        let name = quoted (key x) ++ codes ":" in
        ap (λ v. S.last ++ (((44 ∷ (name ++ v)) ++ members_behind groups) ++ codes "}")) (inner x more)
        ∙ regroup_next S.last name (S.first x) (rest_of S x more) (members_behind groups) (codes "}")
        ∙ ap₂ (λ (l r : List ℕ). l ++ r) (sym (ap (λ b. if b then S.next p x else (S.last ++ codes "," ++ (quoted (key x) ++ codes ":") ++ S.first x)) e)) rest;
  }

  begins : (p : X) (xs : List X) → Begins p xs
  begins p [] = record { more = []; groups = []; is = refl; rest = refl }
  begins p (x ∷ xs) = let b = begins x xs in begins_joined p x xs (same_text (key p) (key x)) refl b.more b.groups b.is b.rest

  writes_keyed : Writes whole (keyed key S)
  writes_keyed p xs = let b = begins p xs in
      ap (λ gs. object_text (map (λ (g : List ℕ × List X). (g.0, value g.1)) gs)) b.is
      ∙ ap (λ l. codes "{" ++ l ++ codes "}") (join_more (member_of (key p, p ∷ b.more)) (map (λ (m : List ℕ × List ℕ). quoted m.0 ++ codes ":" ++ m.1) (map (λ (g : List ℕ × List X). (g.0, value g.1)) b.groups)))
      ∙ ap (λ v. (codes "{" ++ (((quoted (key p) ++ codes ":") ++ v) ++ members_behind b.groups)) ++ codes "}") (inner p b.more)
      ∙ regroup_first (codes "{") (quoted (key p) ++ codes ":") (S.first p) (rest_of S p b.more) (members_behind b.groups) (codes "}")
      ∙ ap (λ l. (codes "{" ++ (quoted (key p) ++ codes ":") ++ S.first p) ++ l) b.rest

-- ---- the two objects

abbrev sources : List Input → List ℕ
sources ns = object_text (map (λ (n : Input). (n.source, n.value)) ns)

pub inputs_text-streamed : Writes inputs_text by_entity
inputs_text-streamed = writes_keyed (λ n. n.eid) _ by_attribute (writes_keyed (λ n. n.attr) sources by_source (λ p xs.
    ap (λ l. codes "{" ++ join_with_byte 44 l ++ codes "}") (map_map (λ (m : List ℕ × List ℕ). quoted m.0 ++ codes ":" ++ m.1) (λ (n : Input). (n.source, n.value)) (p ∷ xs)) ∙ writes_plain source_member (codes "{") (codes "}") p xs))

pub wanted_text-streamed : Writes wanted_text wanted_by_entity
wanted_text-streamed = writes_keyed (λ w. w.eid) _ attributes (writes_plain (λ w. quoted w.attr) (codes "[") (codes "]"))
