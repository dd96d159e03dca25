-- Ways of connections beside the connections.
use Rattle.std.proofs.Common.{◌≡◌, ℕ, Bool, false, ◌&&◌, ◌||◌, nat_eq, List, [], ◌∷◌, ◌++◌, map, refl, sym, ap, ◌∙◌, if◌then◌else◌}
use Rattle.std.specs.List.{list_any}
use Rattle.std.specs.String.{string_bytes}
use Rattle.std.specs.declared.string.String.{String}
use Rattle.indexmap.specs.IndexSet.{insert_key}
use Rattle.mk_base.specs.Lists.{same_text}
use Rattle.mk_base.proofs.Lists.{map_append}
use Rattle.mk_base.proofs.AtPlaces.{nat_eq_sym, same_sym}
use Rattle.mk_plan.specs.declared.Conn.{Conn}
use Rattle.mk_connect_pairs.specs.Connections.{is_way}
use Rattle.mk_connect_pairs.specs.inner.Lookups.{Way, way_in, way_of}
use Rattle.mk_base.proofs.Items.{any_same}

-- the way is of these
abbrev pub is_same_way : Way → Way → Bool
is_same_way w v = nat_eq w.0 v.0 && nat_eq w.1 v.1 && same_text w.2 v.2

abbrev pub key_eq : {Y : Type 0} → ℕ × ℕ × String Y → ℕ × ℕ × String Y → Bool
key_eq a b = nat_eq a.0 b.0 && nat_eq a.1 b.1 && same_text (string_bytes a.2) (string_bytes b.2)

pub any_map : {X Y : Type 0} (p : Y → Bool) (f : X → Y) (xs : List X) → list_any p (map f xs) ≡ list_any (λ x. p (f x)) xs
any_map p f [] = refl
any_map p f (x ∷ xs) = ap (λ b. p (f x) || b) (any_map p f xs)

module _ {Y : Type 0} (keys : List (ℕ × ℕ × String Y)) (conns : List Conn) (are : map (way_in {Y = Y}) keys ≡ map way_of conns) where
  -- a way is among the keys where a connection has it
  pub way_there : (eq : ℕ × ℕ × String Y → Bool) (w : Way) → ((k : ℕ × ℕ × String Y) → eq k ≡ is_same_way w (way_in k)) → list_any eq keys ≡ list_any (is_way w.0 w.1 w.2) conns
  way_there eq w same = any_same eq (λ k. is_same_way w (way_in k)) same keys ∙ sym (any_map (is_same_way w) (way_in {Y = Y}) keys) ∙ ap (list_any (is_same_way w)) are ∙ any_map (is_same_way w) way_of conns
      ∙ any_same (λ c. is_same_way w (way_of c)) (is_way w.0 w.1 w.2) (λ c. λ i. nat_eq_sym w.0 c.from i && nat_eq_sym w.1 c.to i && same_sym w.2 c.to_attr i) conns

  -- one connection more, whose way is new
  pub way_added : (eq : (ℕ × ℕ × String Y) → (ℕ × ℕ × String Y) → Bool) (key : ℕ × ℕ × String Y) (new : List (ℕ × ℕ × String Y)) (c : Conn) → way_in key ≡ way_of c → list_any (eq key) keys ≡ false → new ≡ insert_key eq keys key → map (way_in {Y = Y}) new ≡ map way_of (conns ++ c ∷ [])
  way_added eq key new c is fresh made = ap (map (way_in {Y = Y})) (made ∙ ap (λ b. if b then keys else keys ++ key ∷ []) fresh) ∙ map_append (way_in {Y = Y}) keys (key ∷ []) ∙ (λ i. are i ++ is i ∷ []) ∙ sym (map_append way_of conns (c ∷ []))
