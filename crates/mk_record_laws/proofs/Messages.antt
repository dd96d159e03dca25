-- For proofs alone. The tree of a message that was read is the tree that it was read from.
use Rattle.std.proofs.Common.{◌≡◌, ℕ, ◌^◌, ◌&&◌, ℤ, pos, negsuc, int_le, int_lt, nat_lt, nat_le, Bool, true, false, List, [], ◌∷◌, Option, Some, None, option_map, option_and_then, Ok, if◌then◌else◌, refl, sym, ap, ap₂, ◌∙◌, subst, arith}
use Rattle.std.specs.Ordering.{int_eq}
use Rattle.std.proofs.lemmas.Bool.{and_parts, and_from, le-leb}
use Rattle.std.proofs.lemmas.Int.{ints}
use Rattle.mk_base.specs.declared.json.Json as tree
use Rattle.mk_base.specs.declared.json.Json.{Json}
use Rattle.mk_base.specs.Trees.{whole_in, text_in, items_in, is_object, nesting}
use Rattle.mk_base.proofs.Lists.{some_same, none_some}
use Rattle.mk_plan.specs.declared.Message.{Message}
use Rattle.mk_plan.specs.declared.Message.TheVariants.{Ask, Failure}
use Rattle.mk_base.specs.Proper.{is_proper}
use Rattle.mk_message.specs.declared.reading.Kind.{Kind}
use Rattle.mk_message.specs.declared.reading.Kind.TheVariants as kind
use Rattle.mk_message.specs.Messages.{three_of, three_in, kind_numbered, kind_in, id_numbered, id_in, request_in, content_in, tested, message_in}
use Rattle.mk_message.specs.Written.{message_tree, is_readable}
use Rattle.mk_message.proofs.Ranges.{fits_in, same_ok, passed}
use Rattle.mk_record_laws.proofs.Trees.{text_is, whole_is, items_are, IsSoundField}
use Rattle.mk_plan.specs.Messages.{is_message_in_range}

-- ---- the three parts of a message

list_of_three : (ts : List Json) (p : Json × Json × Json) → three_of ts ≡ Some p → ts ≡ p.0 ∷ p.1 ∷ p.2 ∷ []
list_of_three [] p e = absurd (none_some e)
list_of_three (a ∷ []) p e = absurd (none_some e)
list_of_three (a ∷ b ∷ []) p e = absurd (none_some e)
list_of_three (a ∷ b ∷ c ∷ []) p e = ap (λ (q : Json × Json × Json). q.0 ∷ q.1 ∷ q.2 ∷ []) (some_same e)
list_of_three (a ∷ b ∷ c ∷ d ∷ more) p e = absurd (none_some e)

three_is : (t : Json) (p : Json × Json × Json) → three_in t ≡ Some p → t ≡ tree.List (p.0 ∷ p.1 ∷ p.2 ∷ [])
three_is t p e = by (items_in t) refl e
  where
    by : (o : Option (List Json)) → items_in t ≡ o → option_and_then three_of o ≡ Some p → t ≡ tree.List (p.0 ∷ p.1 ∷ p.2 ∷ [])
    by None is e = absurd (none_some e)
    by (Some ts) is e = items_are t ts is ∙ ap tree.List (list_of_three ts p e)

abbrev kind_number : Kind → ℕ
kind_number kind.Request = 0
kind_number kind.Success = 1
kind_number kind.Failure = 2

same_int : (n m : ℤ) → int_eq n m ≡ true → n ≡ m
same_int n m e = grind (arith, ints, e)

numbered : (n : ℤ) (k : Kind) → kind_numbered n ≡ Some k → n ≡ pos (kind_number k)
numbered n k e = by (int_eq n (pos 0)) (int_eq n (pos 1)) (int_eq n (pos 2)) refl refl refl e
  where
    by : (a b c : Bool) → int_eq n (pos 0) ≡ a → int_eq n (pos 1) ≡ b → int_eq n (pos 2) ≡ c → (if a then Some kind.Request else if b then Some kind.Success else if c then Some kind.Failure else None) ≡ Some k → n ≡ pos (kind_number k)
    by true b c p q r e = same_int n (pos 0) p ∙ ap (λ (x : Kind). pos (kind_number x)) (some_same e)
    by false true c p q r e = same_int n (pos 1) q ∙ ap (λ (x : Kind). pos (kind_number x)) (some_same e)
    by false false true p q r e = same_int n (pos 2) r ∙ ap (λ (x : Kind). pos (kind_number x)) (some_same e)
    by false false false p q r e = absurd (none_some e)

kind_is : (t : Json) (k : Kind) → kind_in t ≡ Some k → t ≡ tree.Whole (pos (kind_number k))
kind_is t k e = by (whole_in t) refl e
  where
    by : (o : Option ℤ) → whole_in t ≡ o → option_and_then kind_numbered o ≡ Some k → t ≡ tree.Whole (pos (kind_number k))
    by None is e = absurd (none_some e)
    by (Some n) is e = whole_is t n is ∙ ap tree.Whole (numbered n k e)

id_at : (n : ℤ) (id : ℕ) → id_numbered n ≡ Some id → (n ≡ pos id) × (nat_lt id (2 ^ 63) ≡ true)
id_at (pos k) id e = by (int_le (pos 0) (pos k) && int_lt (pos k) (pos (2 ^ 63))) refl e
  where
    by : (b : Bool) → (int_le (pos 0) (pos k) && int_lt (pos k) (pos (2 ^ 63))) ≡ b → (if b then Some k else None) ≡ Some id → (pos k ≡ pos id) × (nat_lt id (2 ^ 63) ≡ true)
    by false is e = absurd (none_some e)
    by true is e =
        let p = and_parts (int_le (pos 0) (pos k)) (int_lt (pos k) (pos (2 ^ 63))) is in
        let same : k ≡ id = some_same e in
        (ap pos same, subst (λ (n : ℕ). nat_lt n (2 ^ 63) ≡ true) same p.1)
id_at (negsuc k) id e = absurd (none_some e)

id_is : (t : Json) (id : ℕ) → id_in t ≡ Some id → (t ≡ tree.Whole (pos id)) × (nat_lt id (2 ^ 63) ≡ true)
id_is t id e = by (whole_in t) refl e
  where
    by : (o : Option ℤ) → whole_in t ≡ o → option_and_then id_numbered o ≡ Some id → (t ≡ tree.Whole (pos id)) × (nat_lt id (2 ^ 63) ≡ true)
    by None is e = absurd (none_some e)
    by (Some n) is e = let a = id_at n id e in (whole_is t n is ∙ ap tree.Whole a.0, a.1)

-- ---- the message

-- the tree of a message with this id and content
abbrev framed : Kind → ℕ → Json → Json
framed k id content = tree.List (tree.Whole (pos (kind_number k)) ∷ tree.Whole (pos id) ∷ content ∷ [])

-- the tree is the message's, and it is one that a payload has
pub record IsOf (t : Json) (m : Message) : Type 0 where
  pub is : t ≡ message_tree m
  pub readable : is_readable m ≡ true

asked_is : (id : ℕ) (t : Json) (p : Json × Json × Json) (m : Message) → nat_lt id (2 ^ 63) ≡ true → t ≡ tree.List (p.0 ∷ p.1 ∷ p.2 ∷ []) → (n : Option (List ℕ)) (a : Option (List Json)) (b : Bool) → text_in p.0 ≡ n → items_in p.1 ≡ a → is_object p.2 ≡ b
    → option_and_then (λ name. option_and_then (λ args. if b then Some (Ask id name args p.2) else None) a) n ≡ Some m → IsOf (framed kind.Request id t) m
asked_is id t p m low is None a b q r s e = absurd (none_some e)
asked_is id t p m low is (Some name) None b q r s e = absurd (none_some e)
asked_is id t p m low is (Some name) (Some args) false q r s e = absurd (none_some e)
asked_is id t p m low is (Some name) (Some args) true q r s e = subst (IsOf (framed kind.Request id t)) (some_same e) (record {
  is = ap (framed kind.Request id) (is ∙ ap₂ (λ (x y : Json). tree.List (x ∷ y ∷ p.2 ∷ [])) (text_is p.0 name q) (items_are p.1 args r));
  readable = and_from _ _ low s;
})

request_is : (id : ℕ) (t : Json) (m : Message) → nat_lt id (2 ^ 63) ≡ true → request_in id t ≡ Some m → IsOf (framed kind.Request id t) m
request_is id t m low e = by (three_in t) refl e
  where
    by : (o : Option (Json × Json × Json)) → three_in t ≡ o → option_and_then (λ (p : Json × Json × Json). option_and_then (λ name. option_and_then (λ args. if is_object p.2 then Some (Ask id name args p.2) else None) (items_in p.1)) (text_in p.0)) o ≡ Some m → IsOf (framed kind.Request id t) m
    by None is e = absurd (none_some e)
    by (Some p) is e = asked_is id t p m low (three_is t p is) (text_in p.0) (items_in p.1) (is_object p.2) refl refl refl e

failure_is : (id : ℕ) (t : Json) (m : Message) → nat_lt id (2 ^ 63) ≡ true → option_map (λ text. Failure id text) (text_in t) ≡ Some m → IsOf (framed kind.Failure id t) m
failure_is id t m low e = by (text_in t) refl e
  where
    by : (o : Option (List ℕ)) → text_in t ≡ o → option_map (λ text. Failure id text) o ≡ Some m → IsOf (framed kind.Failure id t) m
    by None is e = absurd (none_some e)
    by (Some s) is e = subst (IsOf (framed kind.Failure id t)) (some_same e) (record { is = ap (framed kind.Failure id) (text_is t s is); readable = low })

content_is : (k : Kind) (id : ℕ) (t : Json) (m : Message) → nat_lt id (2 ^ 63) ≡ true → content_in k id t ≡ Some m → IsOf (framed k id t) m
content_is kind.Request id t m low e = request_is id t m low e
content_is kind.Success id t m low e = subst (IsOf (framed kind.Success id t)) (some_same e) (record { is = refl; readable = low })
content_is kind.Failure id t m low e = failure_is id t m low e

pub message_is : (t : Json) (m : Message) → message_in t ≡ Ok m → IsOf t m
message_is t m e =
    let p = passed 2 (three_in t) (λ (p : Json × Json × Json). tested 3 (kind_in p.0) (λ kind. tested 4 (id_in p.1) (λ id. tested 5 (content_in kind id p.2) (λ m. Ok m)))) m e in
    let k = passed 3 (kind_in p.0.0) (λ kind. tested 4 (id_in p.0.1) (λ id. tested 5 (content_in kind id p.0.2) (λ m. Ok m))) m p.2 in
    let i = passed 4 (id_in p.0.1) (λ id. tested 5 (content_in k.0 id p.0.2) (λ m. Ok m)) m k.2 in
    let c = passed 5 (content_in k.0 i.0 p.0.2) (λ m. Ok m) m i.2 in
    let id = id_is p.0.1 i.0 i.1 in
    let whole : t ≡ framed k.0 i.0 p.0.2 = three_is t p.0 p.1 ∙ ap₂ (λ (x y : Json). tree.List (x ∷ y ∷ p.0.2 ∷ [])) (kind_is p.0.0 k.0 k.1) id.0 in
    subst (λ (x : Json). IsOf x m) (sym whole) (content_is k.0 i.0 p.0.2 m id.1 (c.1 ∙ ap Some (same_ok (Ok c.0) c.0 m refl c.2)))

-- a message that was read from a sound field may stand in a line
pub message_sayable : (t : Json) (m : Message) → message_in t ≡ Ok m → IsSoundField t → (is_readable m && is_message_in_range m && is_proper (message_tree m) && nat_le (nesting (message_tree m)) 126) ≡ true
message_sayable t m e h =
    let of = message_is t m e in
    and_from _ _ (and_from _ _ (and_from _ _ of.readable (fits_in t m e h.in_range)) (sym (ap is_proper of.is) ∙ h.proper)) (sym (ap (λ (x : Json). nat_le (nesting x) 126) of.is) ∙ le-leb (nesting t) 126 h.nests)
