-- What is written of each kind of tree, and what each loop over a list or an object keeps.
use Rattle.std.proofs.Common.{◌≡◌, ℕ, suc, ◌+◌, ◌<◌, ◌≤◌, ℤ, Bool, true, ◌&&◌, List, [], ◌∷◌, ◌++◌, map, drop, length, get_or, codes, refl, sym, ap, ◌∙◌, subst, append_assoc, add-one, drop-cons, Result, Ok, Err, OnOk, take, ◌-◌, length-drop, arith}
use Rattle.std.proofs.lemmas.Bool.{and_parts, and_from}
use Rattle.std.proofs.lemmas.List.{drop_all, take_all}
use Rattle.std.specs.List.{list_all, AllByRecursion}
use Rattle.std.specs.List.Sorted.{IsStrictlySortedBy}
use Rattle.std.specs.Str.{is_utf8}
use Rattle.std.specs.Fmt.{signed_decimal}
use Rattle.std.specs.Ordering.{nat_cmp, is_lt}
use Rattle.std.specs.Cmp.Lexicographic.{slice_cmp}
use Rattle.std.specs.declared.cmp.Ordering.TheVariants.{Less}
use Rattle.json.specs.Token.{Token}
use Rattle.json.specs.Print.{IsNumber}
use Rattle.json.specs.Tree.{json_tokens, members_tokens}
use Rattle.json.specs.Json as json
use Rattle.serde_json.proofs.OnLiterals.{serde_json_on_literals}
use Rattle.mk_base.specs.declared.json.Json as tree
use Rattle.mk_base.specs.declared.json.Json.{Json}
use Rattle.mk_base.specs.Trees.{in_range, is_in_range}
use Rattle.mk_json.specs.inner.Outline.{outline, items_in, members_in}
use Rattle.mk_base.specs.Proper.{is_proper, names_rise}
use Rattle.mk_json.proofs.Layers.{folded-Null, folded-Bool, folded-Whole, folded-Odd, folded-Text, folded-List, folded-Object}

pub outline-Null : outline tree.Null ≡ json.null
outline-Null = folded-Null _ _

pub outline-Bool : (b : Bool) → outline (tree.Bool b) ≡ json.boolean b
outline-Bool b = folded-Bool _ _ b

pub outline-Whole : (n : ℤ) → outline (tree.Whole n) ≡ json.number (signed_decimal n)
outline-Whole n = folded-Whole _ _ n

pub outline-Odd : outline tree.Odd ≡ json.number (codes "0.5")
outline-Odd = folded-Odd _ _

pub outline-Text : (s : List ℕ) → outline (tree.Text s) ≡ json.string s
outline-Text s = folded-Text _ _ s

pub outline-List : (ts : List Json) → outline (tree.List ts) ≡ json.array (items_in (map outline ts))
outline-List ts = folded-List _ _ ts

pub outline-Object : (ms : List (List ℕ × Json)) → outline (tree.Object ms) ≡ json.object (members_in (map (λ (m : List ℕ × Json). (m.0, outline m.1)) ms))
outline-Object ms = folded-Object _ _ ms

pub range-Whole : (n : ℤ) → is_in_range (tree.Whole n) ≡ in_range n
range-Whole n = folded-Whole _ _ n

pub proper-Null : is_proper tree.Null ≡ true
proper-Null = folded-Null _ _

pub proper-Bool : (b : Bool) → is_proper (tree.Bool b) ≡ true
proper-Bool b = folded-Bool _ _ b

pub proper-Whole : (n : ℤ) → is_proper (tree.Whole n) ≡ true
proper-Whole n = folded-Whole _ _ n

pub proper-Odd : is_proper tree.Odd ≡ true
proper-Odd = folded-Odd _ _

pub proper-Text : (s : List ℕ) → is_proper (tree.Text s) ≡ is_utf8 s
proper-Text s = folded-Text _ _ s

pub IsNumber-half : IsNumber (codes "0.5")
unfolding serde_json_on_literals
IsNumber-half = refl

-- ---- names in order

later_pass : (k : List ℕ) (ks : List (List ℕ)) → AllByRecursion (λ l. slice_cmp nat_cmp k l ≡ Less) ks → list_all (λ l. is_lt (slice_cmp nat_cmp k l)) ks ≡ true
later_pass k [] h = refl
later_pass k (l ∷ ks) h = and_from _ _ (ap is_lt h.0) (later_pass k ks h.1)

pub names_rise-sorted : (ks : List (List ℕ)) → IsStrictlySortedBy (slice_cmp nat_cmp) ks → names_rise ks ≡ true
unfolding IsStrictlySortedBy
names_rise-sorted [] h = refl
names_rise-sorted (k ∷ ks) h = and_from _ _ (later_pass k ks h.0) (names_rise-sorted ks h.1)

-- ---- what a call wrote

pub on_ok_always : {A E P : Type 0} (r : Result A E) → P → OnOk r P
on_ok_always (Ok x) p = p
on_ok_always (Err e) p = tt

pub on_ok_test : {A E : Type 0} (r : Result A E) (p q : Bool) → q ≡ p → OnOk r (p ≡ true) → OnOk r (q ≡ true)
on_ok_test r p q is h = subst (λ b. OnOk r (b ≡ true)) (sym is) h

-- tokens that are those of the tree
pub on_ok_tokens : {A E : Type 0} (r : Result A E) (new old ts : List Token) (t : Json) → json_tokens (outline t) ≡ ts → OnOk r (new ≡ old ++ ts) → OnOk r (new ≡ old ++ json_tokens (outline t))
on_ok_tokens r new old ts t is h = subst (λ us. OnOk r (new ≡ old ++ us)) (sym is) h

pub on_ok_more : {A E : Type 0} (r : Result A E) (new old opened : List Token) (token : Token) (ts : List Token) (t : Json) → json_tokens (outline t) ≡ token ∷ ts → opened ≡ old ++ token ∷ [] → OnOk r (new ≡ opened ++ ts) → OnOk r (new ≡ old ++ json_tokens (outline t))
on_ok_more r new old opened token ts t is begun h =
    on_ok_tokens r new old (token ∷ ts) t is (subst (λ us. OnOk r (new ≡ us)) (ap (λ us. us ++ ts) begun ∙ append_assoc old (token ∷ []) ts) h)

-- ---- the members of an object, one by one

-- the members that are left, where the next is known
pub left_is : {X : Type 0} (xs : List X) (i : ℕ) (x : X) → i < length xs → x ≡ get_or xs i x → drop i xs ≡ x ∷ drop (i + 1) xs
left_is xs i x h e = rw add-one (drop-cons xs i x h ∙ ap (λ z. z ∷ drop (suc i) xs) (sym e))

-- a list with a first item
pub split_first : {X : Type 0} (xs : List X) (x : X) → 0 < length xs → x ≡ get_or xs 0 x → xs ≡ x ∷ take (length xs - 1) (drop 1 xs)
split_first xs x h e =
    let all : take (length xs - 1) (drop 1 xs) ≡ drop 1 xs = take_all (length xs - 1) (drop 1 xs) (omega (arith, length-drop 1 xs)) in
    left_is xs 0 x h e ∙ ap (λ l. x ∷ l) (sym all)

pub none_left : {X : Type 0} (f : List X → Bool) (xs : List X) (i : ℕ) → length xs ≤ i → f [] ≡ true → f (drop i xs) ≡ true
none_left f xs i h e = ap f (drop_all i xs h) ∙ e

abbrev pub outlined : List (List ℕ × Json) → List (List ℕ × json.Json)
outlined ms = map (λ (m : List ℕ × Json). (m.0, outline m.1)) ms

pub member_tokens : (before named written all : List Token) (left more : List (List ℕ × Json)) (m : List ℕ × Json) → left ≡ m ∷ more → named ≡ before ++ Token.key m.0 ∷ [] → written ≡ named ++ json_tokens (outline m.1)
    → before ++ members_tokens (members_in (outlined left)) ≡ all → written ++ members_tokens (members_in (outlined more)) ≡ all
member_tokens before named written all left more m is key value done =
    let rest = members_tokens (members_in (outlined more)) in
    ap (λ ts. ts ++ rest) (value ∙ ap (λ ts. ts ++ json_tokens (outline m.1)) key) ∙ append_assoc (before ++ Token.key m.0 ∷ []) (json_tokens (outline m.1)) rest ∙ append_assoc before (Token.key m.0 ∷ []) _
    ∙ ap (λ ms. before ++ members_tokens (members_in (outlined ms))) (sym is) ∙ done

-- what passes for all that are left passes for the next and for those after it
pub next_passes : {X : Type 0} (p : X → Bool) (left more : List X) (x : X) → left ≡ x ∷ more → list_all p left ≡ true → (p x ≡ true) × (list_all p more ≡ true)
next_passes p left more x is h = let t = and_parts (p x) (list_all p more) (ap (list_all p) (sym is) ∙ h) in (t.0, t.1)

pub same_test : {X : Type 0} (p : X → Bool) (all : Bool) (left more : List X) (x : X) → left ≡ x ∷ more → p x ≡ true → all ≡ list_all p left → all ≡ list_all p more
same_test p all left more x is h e = e ∙ ap (list_all p) is ∙ ap (λ b. b && list_all p more) h
