-- What each connection that is made is sure to have, and that they differ.
use Rattle.std.proofs.Common.{◌≡◌, ℕ, ◌<◌, ◌≤◌, nat_eq, nat_lt, Bool, true, false, not, ◌&&◌, List, [], ◌∷◌, ◌++◌, map, length, Option, Some, None, IfSome, Result, Ok, Err, refl, sym, ap, ◌∙◌, subst, arith, unwrap_or, length-append, inl, inr, true≢false, nat_le}
use Rattle.std.specs.Prelude.{is_some, option_map, option_and_then}
use Rattle.std.specs.List.{list_any, zip}
use Rattle.std.proofs.lemmas.Bool.{and_parts}
use Rattle.mk_base.specs.declared.json.Json.{Json}
use Rattle.mk_base.specs.Data.{IsValueText}
use Rattle.mk_base.specs.Lists.{Each, IsIn, same_text, value_under}
use Rattle.mk_base.specs.Texts.{text_of}
use Rattle.mk_base.specs.Trees.{is_whole, member, members_in, nesting, value_depth, members_of}
use Rattle.mk_base.proofs.Lists.{Rises, in_map, passes_some, rises_append}
use Rattle.mk_base.specs.Verdicts.{fault_unless, passed, unless}
use Rattle.mk_plan.specs.declared.Conn.{Conn}
use Rattle.mk_entities.specs.declared.entities.EntityInfo.{EntityInfo}
use Rattle.mk_scenario.specs.declared.parts.AttrPair.{AttrPair}
use Rattle.mk_scenario.specs.declared.parts.Block.{Block}
use Rattle.mk_scenario.specs.declared.parts.SimPart.{SimPart}
use Rattle.mk_scenario_keys.specs.Keys.{IsObjectOfData}
use Rattle.mk_connect_pairs.specs.declared.fault.ConnectFault.{ConnectFault}
use Rattle.mk_connect_pairs.specs.declared.models.SimModel.{SimModel}
use Rattle.mk_connect_pairs.specs.Connections.{attrs_fault, block_made, block_pairs, conn_between, conn_fault, connected, conns_made, has_initial, initial_text, is_way, pair_made}
use Rattle.mk_connect_pairs.specs.Ends.{ends_at, pairs_between, place_fault}
use Rattle.mk_connect_pairs.specs.Faults.{through}
use Rattle.mk_connect_pairs.specs.Models.{keeps_attr, model_at, says, triggers_by}
use Rattle.mk_connect_pairs.proofs.Initials.{initial_in_range, initial_is_datum}
use Rattle.mk_base.specs.Limits.{most_conns}
use Rattle.mk_base.proofs.Counts.{test_itself}
use Rattle.mk_base.proofs.Items.{each_append, same_text_self}
use Rattle.mk_plan.specs.Plans.{IsOtherWay}

-- ---- what tests that pass say

unless_is : {A : Type 0} (o : Option ConnectFault) (next : Result A ConnectFault) (y : A) → unless o next ≡ Ok y → (o ≡ None) × (next ≡ Ok y)
unless_is None next y is = (refl, is)
unless_is (Some e) next y is = cc

held_is : (e : ConnectFault) (b : Bool) (next : Option ConnectFault) → fault_unless e b next ≡ None → (b ≡ true) × (next ≡ None)
held_is e true next is = (refl, is)
held_is e false next is = cc

ok_same : {A : Type 0} (r : Result A ConnectFault) (x y : A) → r ≡ Ok x → r ≡ Ok y → x ≡ y
ok_same r x y is also = cc

-- what a step keeps is kept by going through
through_keeps : {A X : Type 0} (P : A → Type 0) (step : A → X → Result A ConnectFault) (xs : List X) → ((m n : A) (x : X) → IsIn x xs → P m → step m x ≡ Ok n → P n) → (m n : A) → P m → through step m xs ≡ Ok n → P n
through_keeps P step [] keeps m n holds is = subst P (ok_same (Ok m) m n refl is) holds
through_keeps {A} P step (x ∷ xs) keeps m n holds is = at (step m x) refl is (λ k. through_keeps P step xs (λ a b y inside. keeps a b y (inr inside)) k n)
  where
    at : (r : Result A ConnectFault) → step m x ≡ r → passed r (λ k. through step k xs) ≡ Ok n → ((k : A) → P k → through step k xs ≡ Ok n → P n) → P n
    at (Ok k) here is more = more k (keeps m k x (inl refl) holds here) is
    at (Err e) here is more = cc

-- ---- initial values

pub no_member : (tree : Json) (name : List ℕ) → members_of tree ≡ [] → member name tree ≡ None
no_member tree name none = at (members_in tree) none
  where
    at : (o : Option (List (List ℕ × Json))) → unwrap_or o [] ≡ [] → option_and_then (value_under name) o ≡ None
    at None none = refl
    at (Some []) none = refl
    at (Some (m ∷ ms)) none = cc

pub value_text : (tree : Json) (name : List ℕ) → IsObjectOfData tree → IfSome (initial_text tree name) IsValueText
value_text tree name fine = at (member name tree) refl
  where
    le_of : (m n : ℕ) → nat_le m n ≡ true → m ≤ n
    le_of m n h = grind (arith, h)

    at : (o : Option Json) → member name tree ≡ o → IfSome (option_map text_of o) IsValueText
    at None is = tt
    at (Some v) is = let t = and_parts (is_whole v) (nat_le (nesting v) value_depth) (initial_is_datum tree v name fine is) in
        record { tree = v; whole = t.0; in_range = initial_in_range tree v name fine is; deep = le_of (nesting v) value_depth t.1; is = refl }

-- ---- which entities are paired

in_zip : (p : ℕ × ℕ) (xs ys : List ℕ) → IsIn p (zip xs ys) → IsIn p.0 xs × IsIn p.1 ys
in_zip p [] ys inside = absurd inside
in_zip p (x ∷ xs) [] inside = absurd inside
in_zip p (x ∷ xs) (y ∷ ys) (inl e) = (inl (ap (λ (q : ℕ × ℕ). q.0) e), inl (ap (λ (q : ℕ × ℕ). q.1) e))
in_zip p (x ∷ xs) (y ∷ ys) (inr m) = let t = in_zip p xs ys m in (inr t.0, inr t.1)

to_one : (p : ℕ × ℕ) (froms : List ℕ) (to : ℕ) → IsIn p (map (λ from. (from, to)) froms) → IsIn p.0 froms × IsIn p.1 (to ∷ [])
to_one p froms to inside = let t = in_map (λ (from : ℕ). let q : ℕ × ℕ = (from, to) in q) p froms inside in (subst (λ n. IsIn n froms) (sym (ap (λ (q : ℕ × ℕ). q.0) t.2)) t.1, inl (ap (λ (q : ℕ × ℕ). q.1) t.2))

from_one : (p : ℕ × ℕ) (from : ℕ) (tos : List ℕ) → IsIn p (map (λ to. (from, to)) tos) → IsIn p.0 (from ∷ []) × IsIn p.1 tos
from_one p from tos inside = let t = in_map (λ (to : ℕ). let q : ℕ × ℕ = (from, to) in q) p tos inside in (inl (ap (λ (q : ℕ × ℕ). q.0) t.2), subst (λ n. IsIn n tos) (sym (ap (λ (q : ℕ × ℕ). q.1) t.2)) t.1)

pub in_pairs : (p : ℕ × ℕ) (froms tos : List ℕ) → IsIn p (pairs_between froms tos) → IsIn p.0 froms × IsIn p.1 tos
in_pairs p [] [] inside = absurd inside
in_pairs p [] (t ∷ []) inside = absurd inside
in_pairs p [] (t ∷ u ∷ ts) inside = absurd inside
in_pairs p (f ∷ []) [] inside = absurd inside
in_pairs p (f ∷ []) (t ∷ []) inside = to_one p (f ∷ []) t inside
in_pairs p (f ∷ []) (t ∷ u ∷ ts) inside = from_one p f (t ∷ u ∷ ts) inside
in_pairs p (f ∷ g ∷ fs) [] inside = absurd inside
in_pairs p (f ∷ g ∷ fs) (t ∷ []) inside = to_one p (f ∷ g ∷ fs) t inside
in_pairs p (f ∷ g ∷ fs) (t ∷ u ∷ ts) inside = in_zip p (f ∷ g ∷ fs) (t ∷ u ∷ ts) inside

-- ---- connections

-- a block's connection: its ends are at the block's places, and all that follows from the metadata
-- and the block
pub record IsSoundConn (models : List SimModel) (es : List EntityInfo) (blocks : List Block) (c : Conn) : Type 0 where
  pub block : Block
  pub of_scenario : IsIn block blocks
  pub connects : (block.attrs ≡ []) → ⊥
  pub via : c.via ≡ block.via
  pub from : IsIn c.from (ends_at es block.from)
  pub to : IsIn c.to (ends_at es block.to)
  pub persistent : c.persistent ≡ says (keeps_attr c.from_attr) (model_at models es c.from)
  pub triggering : c.triggering ≡ says (triggers_by c.to_attr) (model_at models es c.to)
  pub initial : c.initial ≡ initial_text block.initial c.from_attr
  pub needed : has_initial c.via c.persistent (is_some c.initial) ≡ true

pub record AreSoundConns (models : List SimModel) (es : List EntityInfo) (blocks : List Block) (conns : List Conn) : Type 0 where
  pub each : Each (IsSoundConn models es blocks) conns
  pub apart : Rises IsOtherWay conns
  pub few : length conns ≤ most_conns

other_way : (conns : List Conn) (c d : Conn) → not (list_any (is_way c.from c.to c.to_attr) conns) ≡ true → IsIn d conns → IsOtherWay d c
other_way conns c d none inside from to attr = true≢false (sym (passes_some (is_way c.from c.to c.to_attr) d conns inside passes) ∙ not_true (list_any (is_way c.from c.to c.to_attr) conns) none)
  where
    not_true : (b : Bool) → not b ≡ true → b ≡ false
    not_true true h = sym h
    not_true false h = refl

    passes : is_way c.from c.to c.to_attr d ≡ true
    passes = (λ i. (nat_eq (from i) c.from) && (nat_eq (to i) c.to) && same_text (attr i) c.to_attr) ∙ (λ i. test_itself c.from i && test_itself c.to i && same_text_self c.to_attr i)

module _ (sims : List SimPart) (models : List SimModel) (es : List EntityInfo) (blocks : List Block) where
  one_more : (b : Block) (ends : ℕ × ℕ) (old new : List Conn) (pair : AttrPair) → IsIn b blocks → IsIn pair b.attrs → IsIn ends (block_pairs es b) → AreSoundConns models es blocks old → connected sims models es b ends old pair ≡ Ok new → AreSoundConns models es blocks new
  one_more b ends old new pair inside attr paired sound is =
      let c = conn_between models es b ends pair in
      let first = unless_is (attrs_fault sims models es ends pair) (unless (conn_fault sims es old c) (Ok (old ++ c ∷ []))) new is in
      let second = unless_is (conn_fault sims es old c) (Ok (old ++ c ∷ [])) new first.1 in
      let fresh = held_is _ (not (list_any (is_way c.from c.to c.to_attr) old)) _ second.0 in
      let needed = held_is _ (has_initial c.via c.persistent (is_some c.initial)) _ fresh.1 in
      let room = held_is _ (nat_lt (length old) most_conns) _ needed.1 in
      let at = in_pairs ends (ends_at es b.from) (ends_at es b.to) paired in
      subst (AreSoundConns models es blocks) (ok_same (Ok (old ++ c ∷ [])) (old ++ c ∷ []) new refl second.1) (record {
        each = each_append (IsSoundConn models es blocks) old (c ∷ []) sound.each (
          record {
            block = b;
            of_scenario = inside;
            connects = λ none. no_attrs (subst (IsIn pair) none attr);
            via = refl;
            from = at.0;
            to = at.1;
            persistent = refl;
            triggering = refl;
            initial = refl;
            needed = needed.0;
          },
          tt,
        );
        apart = rises_append IsOtherWay old (c ∷ []) sound.apart (tt, tt) (λ x y m k. elim k [ inl e ↦ subst (IsOtherWay x) (sym e) (other_way old c x fresh.0 m) | inr n ↦ absurd n ]);
        few = let h = below_of (length old) most_conns room.0 in subst (λ n. n ≤ most_conns) (sym (length-append old (c ∷ []))) (omega arith);
      })
    where
      no_attrs : IsIn pair [] → ⊥
      no_attrs m = m

      below_of : (m n : ℕ) → nat_lt m n ≡ true → m < n
      below_of m n h = grind (arith, h)

  pub conns_sound : (conns : List Conn) → conns_made sims models es blocks ≡ Ok conns → AreSoundConns models es blocks conns
  conns_sound conns is = through_keeps (AreSoundConns models es blocks) (block_made sims models es) blocks
      (λ old new b inside sound made.
      let first = unless_is (place_fault sims es b.from) (unless (place_fault sims es b.to) (through (pair_made sims models es b) old (block_pairs es b))) new made in
      let second = unless_is (place_fault sims es b.to) (through (pair_made sims models es b) old (block_pairs es b)) new first.1 in
      through_keeps (AreSoundConns models es blocks) (pair_made sims models es b) (block_pairs es b)
      (λ m n ends paired so more. through_keeps (AreSoundConns models es blocks) (connected sims models es b ends) b.attrs (λ k l pair attr here once. one_more b ends k l pair inside attr paired here once) m n so more)
      old new sound second.1)
      [] conns (record { each = tt; apart = tt; few = omega arith }) is
