-- Members that rise, and members put at their places.
use Rattle.std.proofs.Common.{◌≡◌, ℕ, zero, suc, ◌-◌, ◌<◌, List, [], ◌∷◌, ◌++◌, drop, length, get_or, String, Global, string_bytes, Ordering, Less, Equal, Greater, refl, sym, ap, ap₂, ◌∙◌, subst, arith, append_assoc, append-nil}
use Rattle.std.proofs.lemmas.Cmp.{nat_list_cmp_total}
use Rattle.std.specs.Ordering.{nat_cmp, match_ordering, ordering_reverse}
use Rattle.std.specs.Cmp.Lexicographic.{slice_cmp}
use Rattle.std.specs.List.{AllByRecursion}
use Rattle.std.specs.List.Sorted.{IsStrictlySortedBy}
use Rattle.std.specs.Map.{keys_of}
use Rattle.std.specs.String.{string_cmp}
use Rattle.std.specs.BTreeMap.{insert_entry}
use Rattle.mk_base.specs.declared.json.Json.{Json}
use Rattle.mk_json.specs.inner.Gathered.{put_all, by_bytes, named}

abbrev Entry : Type 0
Entry = List ℕ × Json

abbrev pub Rises : List Entry → Type 0
Rises es = IsStrictlySortedBy (slice_cmp nat_cmp) (keys_of es)

-- ---- in order from the start

middle_holds : (P : List ℕ → Type 0) (es : List Entry) (m : Entry) (ms : List Entry) → AllByRecursion P (keys_of (es ++ m ∷ ms)) → P m.0
middle_holds P [] m ms a = a.0
middle_holds P (e ∷ es) m ms a = middle_holds P es m ms a.1

lower_names : (es : List Entry) (m : Entry) (ms : List Entry) → Rises (es ++ m ∷ ms) → AllByRecursion (λ y. slice_cmp nat_cmp y m.0 ≡ Less) (keys_of es)
unfolding IsStrictlySortedBy
lower_names [] m ms s = tt
lower_names (e ∷ es) m ms s = (middle_holds (λ y. slice_cmp nat_cmp e.0 y ≡ Less) es m ms s.0, lower_names es m ms s.1)

put_last : (es : List Entry) (k : List ℕ) (t : Json) → AllByRecursion (λ y. slice_cmp nat_cmp y k ≡ Less) (keys_of es) → insert_entry (slice_cmp nat_cmp) es k t ≡ es ++ (k, t) ∷ []
put_last [] k t a = refl
put_last (e ∷ es) k t a =
    let above : slice_cmp nat_cmp k e.0 ≡ Greater = nat_list_cmp_total.antisymm k e.0 ∙ ap ordering_reverse a.0 in
    rw above (ap (λ (l : List Entry). e ∷ l) (put_last es k t a.1))

put_in_order : (es ms : List Entry) → Rises (es ++ ms) → put_all es ms ≡ es ++ ms
put_in_order es [] s = sym (append-nil es)
put_in_order es (m ∷ ms) s =
    let last : insert_entry (slice_cmp nat_cmp) es m.0 m.1 ≡ es ++ m ∷ [] = put_last es m.0 m.1 (lower_names es m ms s) in
    ap (λ l. put_all l ms) last ∙ put_in_order (es ++ m ∷ []) ms (subst Rises (sym (append_assoc es (m ∷ []) ms)) s) ∙ append_assoc es (m ∷ []) ms

pub in_order : (ms : List Entry) → Rises ms → put_all [] ms ≡ ms
in_order ms s = put_in_order [] ms s

-- ---- whether they rise, from the last to the first

pub last_rises : (ms : List Entry) → Rises (drop (length ms - 1) ms)
unfolding IsStrictlySortedBy
last_rises [] = tt
last_rises (m ∷ []) = (tt, tt)
last_rises (m ∷ n ∷ ms) =
    let more : length (m ∷ n ∷ ms) - 1 ≡ suc (length (n ∷ ms) - 1) = omega arith in
    subst (λ (i : ℕ). Rises (drop i (m ∷ n ∷ ms))) (sym more) (last_rises (n ∷ ms))

above_all : (x y : List ℕ) (ks : List (List ℕ)) → slice_cmp nat_cmp x y ≡ Less → AllByRecursion (λ z. slice_cmp nat_cmp y z ≡ Less) ks → AllByRecursion (λ z. slice_cmp nat_cmp x z ≡ Less) ks
above_all x y [] h a = tt
above_all x y (k ∷ ks) h a = (nat_list_cmp_total.trans x y k h a.0, above_all x y ks h a.1)

one_before : (m n : Entry) (ms : List Entry) → slice_cmp nat_cmp m.0 n.0 ≡ Less → Rises (n ∷ ms) → Rises (m ∷ n ∷ ms)
unfolding IsStrictlySortedBy
one_before m n ms h s = ((h, above_all m.0 n.0 (keys_of ms) h s.0), s)

pub rises_from : (i : ℕ) (ms : List Entry) (m n : Entry) → suc i < length ms → m ≡ get_or ms i m → n ≡ get_or ms (suc i) n → slice_cmp nat_cmp m.0 n.0 ≡ Less → Rises (drop (suc i) ms) → Rises (drop i ms)
rises_from i [] m n h e f less s = absurd (omega (arith, h))
rises_from zero (x ∷ []) m n h e f less s = absurd (omega (arith, h))
rises_from zero (x ∷ y ∷ ms) m n h e f less s = one_before x y ms (sym (ap₂ (λ (a b : Entry). slice_cmp nat_cmp a.0 b.0) e f) ∙ less) s
rises_from (suc i) (x ∷ ms) m n h e f less s = rises_from i ms m n (omega (arith, h)) e f less s

-- ---- in a map

named-chosen : (o : Ordering) (a b c : List (String Global × Json)) → named (match_ordering o a b c) ≡ match_ordering o (named a) (named b) (named c)
named-chosen Less a b c = refl
named-chosen Equal a b c = refl
named-chosen Greater a b c = refl

pub named-insert_entry : (es : List (String Global × Json)) (k : String Global) (t : Json) → named (insert_entry string_cmp es k t) ≡ insert_entry (slice_cmp nat_cmp) (named es) (string_bytes k) t
named-insert_entry [] k t = refl
named-insert_entry (e ∷ es) k t = named-chosen (string_cmp k e.0) _ _ _ ∙ rw (named-insert_entry es k t) refl

later_names : (k : String Global) (es : List (String Global × Json)) → AllByRecursion (λ l. string_cmp k l ≡ Less) (keys_of es) → AllByRecursion (λ l. slice_cmp nat_cmp (string_bytes k) l ≡ Less) (keys_of (named es))
later_names k [] h = tt
later_names k (e ∷ es) h = (h.0, later_names k es h.1)

pub sorted-named : (es : List (String Global × Json)) → IsStrictlySortedBy string_cmp (keys_of es) → Rises (named es)
unfolding IsStrictlySortedBy
sorted-named [] h = tt
sorted-named (e ∷ es) h = (later_names e.0 es h.0, sorted-named es h.1)

pub named-append : (es fs : List (String Global × Json)) → named (es ++ fs) ≡ named es ++ named fs
named-append [] fs = refl
named-append (e ∷ es) fs = ap (λ (l : List Entry). by_bytes e ∷ l) (named-append es fs)

-- where nothing is left all is done
pub all_done : {X : Type 0} (all done left : List X) → all ≡ done ++ left → left ≡ [] → all ≡ done
all_done all done left e none = e ∙ ap (λ l. done ++ l) none ∙ append-nil done
